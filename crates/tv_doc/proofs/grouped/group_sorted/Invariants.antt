use Rattle.std.proofs.Common.{map}
use Rattle.std.specs.Vec.Iter.{into_iter_items}
use Rattle.tv_doc.specs.Grouped.{numbered_all}
use Rattle.tv_doc.proofs.Grouping.{Stage}
use Rattle.tv_doc.proofs.grouped.group_sorted.Given as goal

abbrev pub invariant-loop-next : goal.invariant-loop-next
invariant-loop-next g l = Stage l.fn.pairs.items (into_iter_items l.next-iterator) (map numbered_all l.groups.items) l.field.id l.values.items
