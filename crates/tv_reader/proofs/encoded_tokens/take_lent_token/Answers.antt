use Rattle.std.proofs.Common.{ℕ, List, Ok, refl, sym, ap}
use Rattle.std.proofs.lemmas.Result.{err_from_is_err_and}
use Rattle.tv_base.specs.Take.{read_stop}
use Rattle.tv_base.proofs.TakeSteps.{lean, SoFar-step, SoFar-fails, SoFar-returns}
use Rattle.tv_value.specs.TokenRef.{ref_of}
use Rattle.tv_reader.proofs.TokenSteps.{token_with, offset_taken, offsets_taken, position_taken}
use Rattle.tv_reader.proofs.encoded_tokens.take_lent_token.Goals as goal

pub returns-in_err-offset_to : goal.returns-in_err-offset_to
returns-in_err-offset_to g c =
    let p = err_from_is_err_and c.from_residual-in_err-offset_to.result c.from_residual-in_err-offset_to.ensures.1 in
    record { takes = rw (p.1, p.2) (SoFar-fails (λ t. ref_of t) _ _ (λ _. refl) (offset_taken c.in_ok-offset_from.ensures.takes) (lean c.in_err-offset_to.ensures.takes)) }

pub returns-in_err-position : goal.returns-in_err-position
returns-in_err-position g c =
    let p = err_from_is_err_and c.from_residual-in_err-position.result c.from_residual-in_err-position.ensures.1 in
    record { takes = rw (p.1, p.2) (SoFar-fails (λ t. ref_of t) _ _ (λ _. refl) (offsets_taken c.in_ok-offset_from.ensures.takes c.in_ok-offset_to.ensures.takes) (lean c.in_err-position.ensures.takes)) }

pub returns-in_err-take_text : goal.returns-in_err-take_text
returns-in_err-take_text g c =
    let p = err_from_is_err_and c.from_residual-in_err-take_text.result c.from_residual-in_err-take_text.ensures.1 in
    let position = position_taken c.in_ok-offset_from.ensures.takes c.in_ok-offset_to.ensures.takes c.in_ok-position.ensures.takes in
    record { takes = rw (p.1, p.2) (SoFar-fails (λ t. ref_of t) _ _ (λ _. refl) position c.in_err-take_text.ensures.takes) }

pub returns-in_err-position_length : goal.returns-in_err-position_length
returns-in_err-position_length g c =
    let p = err_from_is_err_and c.from_residual-in_err-position_length.result c.from_residual-in_err-position_length.ensures.1 in
    let position = position_taken c.in_ok-offset_from.ensures.takes c.in_ok-offset_to.ensures.takes c.in_ok-position.ensures.takes in
    record { takes = rw (p.1, p.2) (SoFar-fails (λ t. ref_of t) _ _ (λ _. refl) (SoFar-step _ (λ _. refl) position c.in_ok-take_text.ensures.takes) (lean c.in_err-position_length.ensures.takes)) }

pub returns : goal.returns
returns g c =
    let position = position_taken c.in_ok-offset_from.ensures.takes c.in_ok-offset_to.ensures.takes c.in_ok-position.ensures.takes in
    let content = SoFar-step _ (λ _. refl) position c.in_ok-take_text.ensures.takes in
    let done = λ (w : List ℕ). ap (λ t. Ok (token_with c.in_ok-offset_from.offset_from c.in_ok-offset_to.offset_to c.in_ok-position.position t c.in_ok-position_length.position_length, w)) (sym c.as_str.ensures.value) in
    record { takes = SoFar-returns read_stop (λ t. ref_of t) _ done (SoFar-step _ (λ _. refl) content c.in_ok-position_length.ensures.takes) }
