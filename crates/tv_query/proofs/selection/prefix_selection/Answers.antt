use Rattle.std.proofs.Common.{◌≡◌, Err, Ok, true}
use Rattle.std.proofs.lemmas.Result.{err_from_is_err_and}
use Rattle.tv_indexing.proofs.OneAnswer.{terms_one}
use Rattle.tv_query.specs.Selections.{AnswersInField, TakesMemoryAt, has_prefixes}
use Rattle.tv_query.specs.Tokens.{of_prefix, of_text}
use Rattle.tv_query.specs.declared.query_error.QueryReason.TheVariants.{Clause}
use Rattle.tv_query.proofs.Selecting.{field_takes, memory_first, prefix_refused}
use Rattle.tv_query.proofs.selection.prefix_selection.Goals as goal

pub returns-in-Err : goal.returns-in-Err
returns-in-Err c =
    let at = c.args.at.now in
    let text = c.args.text.now in
    let test : has_prefixes at.type ≡ true = cc in (
      λ some. prefix_refused at text c.in-Err.reason test (c.in-Err.ensures.0 some),
      λ is why h. field_takes at (of_prefix text) why (test, λ e refuses. c.in-Err.ensures.1 is (Clause e) refuses) h,
    )

pub returns-in_err-ranges_of_first-in-Ok : goal.returns-in_err-ranges_of_first-in-Ok
returns-in_err-ranges_of_first-in-Ok c =
    let at = c.args.at.now in
    let text = c.args.text.now in
    let test : has_prefixes at.type ≡ true = cc in
    let p = err_from_is_err_and c.from_residual.result c.from_residual.ensures.1 in
    memory_first (TakesMemoryAt at.type) (AnswersInField at (of_prefix text)) c.from_residual.result p.0 p.1 p.2
    (λ why h. field_takes at (of_prefix text) why (test, λ e refuses. absurd (terms_one at text (Ok c.in-Ok.terms) (Err e) c.in-Ok.ensures refuses)) h)
