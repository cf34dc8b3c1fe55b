use Rattle.std.proofs.Common.{map}
use Rattle.tv_doc.specs.Grouped.{numbered_all}
use Rattle.tv_doc.proofs.Grouping.{if_ok, grouped_alike}
use Rattle.tv_doc.proofs.grouped.grouped.Goals as goal

pub returns : goal.returns
returns g c = if_ok (λ groups is. grouped_alike _ _ (map numbered_all groups.items) c.sort_pairs.ensures.values is) c.group_sorted.result c.group_sorted.ensures
