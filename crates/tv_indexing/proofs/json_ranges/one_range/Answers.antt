use Rattle.std.proofs.Common.{[], ◌∷◌, ◌++◌, ap, ◌∙◌}
use Rattle.tv_indexing.proofs.json_ranges.one_range.Goals as goal

pub returns-in_ok-push_range-in-Ok : goal.returns-in_ok-push_range-in-Ok
returns-in_ok-push_range-in-Ok c =
    let range = c.in-Ok.range in (range, c.in_ok-push_range-in-Ok.ensures.made ∙ ap (λ l. l ++ range ∷ []) c.new-ranges.ensures.items, c.in-Ok.ensures)
