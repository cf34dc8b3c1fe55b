use Rattle.std.proofs.Common.{rules, ℕ, List, Bor, ◌≡◌, ◌∙◌, ◌++◌, ◌∷◌, [], sym, ap, append_assoc, arith, string_bytes, get_or}
use Rattle.tv_base.proofs.Steps.{joined, joined-more}
use Rattle.tv_base.proofs.facet.push_steps.Goals as goal

pub loop-step-preserved : goal.loop-step-preserved
loop-step-preserved c =
    let zero : string_bytes c.push.new.self ≡ string_bytes c.loop-step.encoded ++ 0 ∷ [] = search rules in
    let others = c.args.steps.now in
    let i = c.loop-step.step-index in
    let none : Bor (List ℕ) = record { ref_ptr = (0, 0); now = [] } in
    let step = (get_or others i none).now in
    let first = string_bytes c.args.encoded.now in
    c.in_ok-push_str.ensures.bytes
    ∙ ap (λ l. l ++ step) (zero ∙ ap (λ l. l ++ 0 ∷ []) c.loop-step.invariant)
    ∙ append_assoc (joined first others i) (0 ∷ []) step
    ∙ sym (joined-more first others i none (omega arith))
