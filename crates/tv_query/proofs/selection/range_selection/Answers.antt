use Rattle.std.proofs.Common.{Err}
use Rattle.tv_indexing.specs.JsonRanges.{RangesOfText}
use Rattle.tv_indexing.specs.TakesMemory.{TakesMemoryIn}
use Rattle.tv_query.specs.Selections.{RefusesInField, TakesMemoryAt}
use Rattle.tv_query.specs.Tokens.{of_range}
use Rattle.tv_query.proofs.Selecting.{field_takes, reason_told}
use Rattle.tv_query.proofs.selection.range_selection.Goals as goal

pub returns-in-Err : goal.returns-in-Err
returns-in-Err c =
    let at = c.args.at.now in
    let text = c.args.text.now in
    reason_told (TakesMemoryIn at.type) (λ e. RangesOfText at text (Err e)) (TakesMemoryAt at.type) (RefusesInField at (of_range text)) c.in-Err.error c.refused.result c.refused.ensures (λ e h. h)
    (λ told why h. field_takes at (of_range text) why told h) c.in-Err.ensures
