use Rattle.std.proofs.Common.{drop}
use Rattle.std.specs.Prelude.{option_map}
use Rattle.tv_date.specs.Rfc3339.{rfc}
use Rattle.tv_field.specs.JsonTable.{truth_in}
use Rattle.tv_indexing.specs.TextTerms.{date_written_in}
use Rattle.tv_value.specs.Lent.{leaf_of}
use Rattle.tv_indexing.proofs.TextSteps.{all_kept, all_written, leaves_fit}
use Rattle.tv_indexing.proofs.text_terms.push_all_written.Goals as goal

pub returns-clause-made : goal.returns-clause-made
returns-clause-made c =
    let second = c.in_ok-push_written.ensures.keys in
    let third = c.in_ok-push_written-2.ensures.keys in
    let fourth = c.in_ok-push_written-3.ensures.keys in
    all_written c.push_written-4.result c.args.field (drop 1 c.args.buffer.now) c.args.text.now _ _ _ _ _ _ c.number_written.ensures
    (leaves_fit c.args.text.now (option_map leaf_of c.number_written.result) (truth_in c.args.text.now) (date_written_in (rfc c.args.text.now)) c.push_written-2.ensures.fits (rw c.truth_written.ensures at c.push_written-3.ensures.fits) (rw c.date_written.ensures at c.push_written-4.ensures.fits))
    c.in_ok-push_written.ensures.made (rw second at c.in_ok-push_written-2.ensures.made) (rw (c.truth_written.ensures, third, second) at c.in_ok-push_written-3.ensures.made) (rw (c.date_written.ensures, fourth, third, second) at c.push_written-4.ensures.made)

pub returns-clause-kept : goal.returns-clause-kept
returns-clause-kept c =
    let second = c.in_ok-push_written.ensures.keys in
    let third = c.in_ok-push_written-2.ensures.keys in
    all_kept c.push_written-4.result c.args.field (drop 1 c.args.buffer.now) c.args.text.now _ _ _ _ _ _ c.in_ok-push_written.ensures.made (rw second at c.in_ok-push_written-2.ensures.made)
    (rw (c.truth_written.ensures, third, second) at c.in_ok-push_written-3.ensures.made) c.push_written-4.ensures.unchanged
