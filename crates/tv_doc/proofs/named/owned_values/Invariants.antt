use Rattle.std.proofs.Common.{◌≡◌, ◌++◌, map}
use Rattle.std.specs.Vec.Iter.{into_iter_items}
use Rattle.tv_value.specs.Owned.{owned_tree}
use Rattle.tv_doc.proofs.named.owned_values.Given as goal

abbrev pub invariant-loop-value : goal.invariant-loop-value
invariant-loop-value g l = map owned_tree l.owned.items ++ map g.V.Value.tree (into_iter_items l.value-iterator) ≡ map g.V.Value.tree l.fn.values.items
