use Rattle.std.proofs.Common.{◌≡◌, ◌++◌, ◌∷◌, [], Ok, ap, refl, ◌∙◌}
use Rattle.std.proofs.lemmas.Result.{err_from_is_err_and}
use Rattle.tv_base.specs.Take.{read_stop}
use Rattle.tv_base.specs.declared.cause.ReadError.TheVariants.{Memory}
use Rattle.tv_base.proofs.TakeSteps.{lean, SoFar-start, SoFar-is, SoFar-step, SoFar-fails, SoFar-returns, SoFar-refuses, SoFar-stops}
use Rattle.tv_reader.specs.LegacyReading.{braced_at}
use Rattle.tv_reader.proofs.LegacySteps.{slice_parts, is_other, is_brace, and_nothing}
use Rattle.tv_reader.proofs.legacy.take_slice.Goals as goal

pub returns-in_err-first : goal.returns-in_err-first
returns-in_err-first g c =
    let p = err_from_is_err_and c.from_residual.result c.from_residual.ensures.1 in
    record { takes = rw (p.1, p.2) (SoFar-fails _ _ (λ x. braced_at x.0 x.1) slice_parts (SoFar-start _ _ _ _ _ _ _ (λ bytes. refl)) (lean c.in_err-first.ensures.takes)) }

pub returns-then-first-ne123 : goal.returns-then-first-ne123
returns-then-first-ne123 g c =
    let step = SoFar-step (λ x. braced_at x.0 x.1) slice_parts (SoFar-start _ _ _ _ _ _ _ (λ bytes. refl)) c.in_ok-first.ensures.takes in
    record { takes = SoFar-refuses read_stop _ _ _ refl tt (is_other c.in_ok-first.first c.if-first-ne123.true) step }

pub returns-in_err-push : goal.returns-in_err-push
returns-in_err-push g c =
    let step = SoFar-step (λ x. braced_at x.0 x.1) slice_parts (SoFar-start _ _ _ _ _ _ _ (λ bytes. refl)) c.in_ok-first.ensures.takes in
    let p = err_from_is_err_and c.from_residual-in_err-push.result c.from_residual-in_err-push.ensures.1 in
    record { takes = rw (p.1, p.2) (SoFar-stops read_stop _ Memory refl tt step) }

pub take_rest-requires : goal.take_rest-requires
take_rest-requires g c = c.in_ok-push.ensures.items ∙ ap (λ z. z ++ c.in_ok-first.first ∷ []) c.new-slice.ensures.items ∙ ap (λ b. b ∷ []) c.if-first-ne123.false

pub returns-in_err-take_rest : goal.returns-in_err-take_rest
returns-in_err-take_rest g c =
    let made : c.push.new.self.items ≡ 123 ∷ [] = c.in_ok-push.ensures.items ∙ ap (λ z. z ++ c.in_ok-first.first ∷ []) c.new-slice.ensures.items ∙ ap (λ b. b ∷ []) c.if-first-ne123.false in
    let step = SoFar-step (λ x. braced_at x.0 x.1) slice_parts (SoFar-start _ _ _ _ _ _ _ (λ bytes. refl)) c.in_ok-first.ensures.takes in
    let going = SoFar-is _ (is_brace c.in_ok-first.first c.push.new.self.items c.if-first-ne123.false made) step in
    let p = err_from_is_err_and c.from_residual-in_err-take_rest.result c.from_residual-in_err-take_rest.ensures.1 in
    record { takes = rw (p.1, p.2) (SoFar-fails _ _ (λ x. Ok x) (and_nothing c.push.new.self.items) going c.in_err-take_rest.ensures.takes) }

pub returns : goal.returns
returns g c =
    let made : c.push.new.self.items ≡ 123 ∷ [] = c.in_ok-push.ensures.items ∙ ap (λ z. z ++ c.in_ok-first.first ∷ []) c.new-slice.ensures.items ∙ ap (λ b. b ∷ []) c.if-first-ne123.false in
    let step = SoFar-step (λ x. braced_at x.0 x.1) slice_parts (SoFar-start _ _ _ _ _ _ _ (λ bytes. refl)) c.in_ok-first.ensures.takes in
    let going = SoFar-is _ (is_brace c.in_ok-first.first c.push.new.self.items c.if-first-ne123.false made) step in
    record { takes = SoFar-returns read_stop _ _ (λ bytes. refl) (SoFar-step (λ x. Ok x) (and_nothing c.push.new.self.items) going c.in_ok-take_rest.ensures.takes) }
