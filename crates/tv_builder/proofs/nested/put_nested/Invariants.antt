use Rattle.std.proofs.Common.{◌∷◌, reverse}
use Rattle.tv_base.specs.Buffer.{GrowsWithin}
use Rattle.tv_value.specs.Lent.{nested_tree}
use Rattle.tv_builder.specs.Nested.{flat}
use Rattle.tv_builder.proofs.NestedLists.{Around, Within, left_of, left_size}
use Rattle.tv_builder.proofs.nested.put_nested.Given as goal

-- the innermost list is written up to the children that are left, and each list around it up to the list within
abbrev pub invariant-lists : goal.invariant-lists
invariant-lists g l =
    let items = g.N.Nested.array_rest in
    let members = g.N.Nested.object_rest in
    Within l.fn.most (Around l.fn.most items members l.fn.heap.items l.fn.places.items (nested_tree items members l.fn.value) (reverse l.around.items)) l.list.kind l.list.first l.heap.items l.places.items (flat (left_of items members l.list)) × GrowsWithin l.fn.most l.fn.heap l.heap

-- what is left of all of them
abbrev pub decreases-lists : goal.decreases-lists
decreases-lists g l = left_size g.N.Nested.array_rest g.N.Nested.object_rest (l.list ∷ reverse l.around.items)
