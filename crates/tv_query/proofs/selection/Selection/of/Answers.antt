use Rattle.std.proofs.Common.{Err, ap, sym, subst, ◌∙◌}
use Rattle.tv_indexing.proofs.Answering.{path_refused}
use Rattle.tv_indexing.proofs.TakingMemory.{unnamed_takes}
use Rattle.tv_query.specs.Selections.{AnswersInField, RefusesClause, TakesMemory}
use Rattle.tv_query.specs.Tokens.{of_prefix, of_range, of_text, wanted_text}
use Rattle.tv_query.specs.declared.query_error.QueryReason.TheVariants.{Clause}
use Rattle.tv_query.proofs.Selecting.{is_reason, reason_memory, unless_first}
use Rattle.tv_query.proofs.selection.Selection.of.Goals as goal

pub returns-in-Err : goal.returns-in-Err
returns-in-Err c =
    let schema = c.args.schema.now in
    let path = c.args.path.now in
    let wanted = wanted_text c.args.wanted in (
      λ some.
          let r = is_reason c.in-Err.error c.refused.result c.refused.ensures some in
          subst (RefusesClause schema path wanted) (sym r.0) (path_refused Clause (λ at. AnswersInField at wanted) schema path c.in-Err.error (c.in-Err.ensures.field r.1)),
      λ is why refuses.
          let memory = reason_memory c.in-Err.error (sym c.refused.ensures ∙ is) in
          unnamed_takes Clause (λ at. AnswersInField at wanted) schema path (TakesMemory schema) why (λ start. tt) (c.in-Err.ensures.memory (ap Err memory)) refuses,
    )

pub returns-in-Text : goal.returns-in-Text
returns-in-Text c = rw c.in-Text.is (unless_first c.args.schema.now c.args.path.now (of_text c.in-Text.text.now) c.in-Ok.at c.text_selection.result c.in-Ok.ensures.field c.text_selection.ensures)

pub returns-in-Prefix : goal.returns-in-Prefix
returns-in-Prefix c = rw c.in-Prefix.is (unless_first c.args.schema.now c.args.path.now (of_prefix c.in-Prefix.text.now) c.in-Ok.at c.prefix_selection.result c.in-Ok.ensures.field c.prefix_selection.ensures)

pub returns-in-Range : goal.returns-in-Range
returns-in-Range c = rw c.in-Range.is (unless_first c.args.schema.now c.args.path.now (of_range c.in-Range.text.now) c.in-Ok.at c.range_selection.result c.in-Ok.ensures.field c.range_selection.ensures)
