use Rattle.std.proofs.Common.{◌≡◌, Err, true}
use Rattle.std.proofs.lemmas.Result.{err_from_is_err_and}
use Rattle.tv_indexing.specs.TakesMemory.{TakesMemoryIn}
use Rattle.tv_indexing.specs.TextRange.{BelowInField}
use Rattle.tv_query.specs.Selections.{AnswersInField, RefusesInField, TakesMemoryAt, is_of_facets}
use Rattle.tv_query.specs.Tokens.{of_text}
use Rattle.tv_query.proofs.OneQuery.{facet_or_refused}
use Rattle.tv_query.proofs.Selecting.{facet_below, facet_refused, facet_text, field_takes, memory_first, reason_told}
use Rattle.tv_query.proofs.selection.text_selection.Goals as goal

pub returns-in_ok-one_range-in-Ok : goal.returns-in_ok-one_range-in-Ok
returns-in_ok-one_range-in-Ok c =
    let test : is_of_facets c.args.at.now.type ≡ true = cc in (
      c.field-field.ensures,
      facet_text c.args.at.now c.args.text.now (record { field = c.field-field.result; exact = c.new.result; ranges = c.in_ok-one_range-in-Ok.field-0 }) c.in-Ok.range test c.new.ensures c.in_ok-one_range-in-Ok.ensures c.in-Ok.ensures,
    )

pub returns-in-Err : goal.returns-in-Err
returns-in-Err c =
    let at = c.args.at.now in
    let text = c.args.text.now in
    let test : is_of_facets at.type ≡ true = cc in
    reason_told (TakesMemoryIn at.type) (λ e. BelowInField at text (Err e)) (TakesMemoryAt at.type) (RefusesInField at (of_text text)) c.in-Err.error c.refused.result c.refused.ensures (λ e h. facet_refused at text e test h)
    (λ told why h. field_takes at (of_text text) why (λ e refuses. told e (facet_below at text e test refuses)) h) c.in-Err.ensures

pub returns-in_err-one_range-in-Ok : goal.returns-in_err-one_range-in-Ok
returns-in_err-one_range-in-Ok c =
    let at = c.args.at.now in
    let text = c.args.text.now in
    let test : is_of_facets at.type ≡ true = cc in
    let p = err_from_is_err_and c.from_residual.result c.from_residual.ensures.1 in
    memory_first (TakesMemoryAt at.type) (AnswersInField at (of_text text)) c.from_residual.result p.0 p.1 p.2
    (λ why h. field_takes at (of_text text) why (λ e refuses. absurd (facet_or_refused at.field at.type at.rest text c.in-Ok.range e test c.in-Ok.ensures refuses)) h)
