use Rattle.std.proofs.Common.{List, ℕ, Err, Ok, ◌++◌, ap, sym, subst, ◌∙◌}
use Rattle.tv_indexing.specs.TextTerms.{TermsInField}
use Rattle.tv_indexing.specs.TakesMemory.{TakesMemoryIn}
use Rattle.tv_query.specs.Selections.{RefusesInField, TakesMemoryAt}
use Rattle.tv_query.specs.Tokens.{of_text}
use Rattle.tv_query.proofs.Selecting.{field_takes, reason_told}
use Rattle.tv_query.proofs.selection.exact_terms.Goals as goal

pub returns-in-Ok : goal.returns-in-Ok
returns-in-Ok c =
    let m = c.in-Ok.ensures.answers in
    subst (λ (l : List (List ℕ)). TermsInField c.args.at.now c.args.text.now (Ok l)) (sym (m.2 ∙ ap (λ (l : List (List ℕ)). l ++ m.0) c.new-exact.ensures)) m.1

pub returns-in-Err : goal.returns-in-Err
returns-in-Err c =
    let at = c.args.at.now in
    let text = c.args.text.now in
    reason_told (TakesMemoryIn at.type) (λ e. TermsInField at text (Err e)) (TakesMemoryAt at.type) (RefusesInField at (of_text text)) c.in-Err.error c.refused.result c.refused.ensures (λ e h. h)
    (λ told why h. field_takes at (of_text text) why told h) c.in-Err.ensures.answers
