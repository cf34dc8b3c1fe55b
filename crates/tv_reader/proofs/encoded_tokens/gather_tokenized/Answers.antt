use Rattle.std.proofs.Common.{Ok, refl}
use Rattle.std.specs.Prelude.{string_bytes}
use Rattle.std.proofs.lemmas.Result.{err_from_is_err_and}
use Rattle.tv_base.specs.Stop.{◌>>=◌}
use Rattle.tv_base.specs.Take.{read_stop}
use Rattle.tv_base.proofs.TakeSteps.{SoFar-start, SoFar-step, SoFar-fails, SoFar-returns}
use Rattle.tv_reader.specs.Leaves.{counted_tokens_at, tokenized_at}
use Rattle.tv_reader.proofs.encoded_tokens.gather_tokenized.Goals as goal

pub returns-in_err-tokens : goal.returns-in_err-tokens
unfolding tokenized_at
returns-in_err-tokens g c =
    let p = err_from_is_err_and c.from_residual-in_err-tokens.result c.from_residual-in_err-tokens.ensures.1 in
    let text = string_bytes c.in_ok-text.text in
    let step = SoFar-step (λ content. counted_tokens_at content.1 >>= λ tokens. Ok ((content.0, tokens.0), tokens.1)) (λ _. refl) (SoFar-start _ _ _ _ _ tokenized_at tokenized_at (λ _. refl)) c.in_ok-text.ensures.takes in
    record { takes = rw (p.1, p.2) (SoFar-fails _ _ (λ tokens. Ok ((text, tokens.0), tokens.1)) (λ _. refl) step c.in_err-tokens.ensures.takes) }

pub returns : goal.returns
unfolding tokenized_at
returns g c =
    let text = string_bytes c.in_ok-text.text in
    let step = SoFar-step (λ content. counted_tokens_at content.1 >>= λ tokens. Ok ((content.0, tokens.0), tokens.1)) (λ _. refl) (SoFar-start _ _ _ _ _ tokenized_at tokenized_at (λ _. refl)) c.in_ok-text.ensures.takes in
    record { takes = SoFar-returns read_stop (λ x. (string_bytes x.0, g.G.TokenBuffer.tokens x.1)) (c.in_ok-text.text, c.in_ok-tokens.tokens) (λ _. refl) (SoFar-step (λ tokens. Ok ((text, tokens.0), tokens.1)) (λ _. refl) step c.in_ok-tokens.ensures.takes) }
