use Rattle.std.proofs.Common.{◌≤◌}
use Rattle.tv_base.specs.Buffer.{GrowsWithin}
use Rattle.tv_value.specs.Lent.{nested_tree}
use Rattle.tv_format.specs.Size.{size, elements_size, entries_size}
use Rattle.tv_format.specs.Tree.{array, object, elements, entries}
use Rattle.tv_builder.specs.Nested.{flat_entries}
use Rattle.tv_builder.specs.declared.kinds.ListKind.TheVariants.{Array, Object}
use Rattle.tv_builder.proofs.Putting.{ListOpen}
use Rattle.tv_builder.proofs.whole.+parts.Given as goal

-- each child is smaller
abbrev pub decreases-put_tree : goal.decreases-put_tree
decreases-put_tree g l = size (nested_tree g.N.Nested.array_rest g.N.Nested.object_rest l.value)

abbrev pub decreases-put_array : goal.decreases-put_array
decreases-put_array g l = elements_size (elements (g.N.Nested.array_rest l.items))

abbrev pub decreases-put_object : goal.decreases-put_object
decreases-put_object g l = entries_size (entries (g.N.Nested.object_rest l.members))

-- the list is written up to the children that are left
abbrev pub invariant-put_array-loop-item : goal.invariant-put_array-loop-item
invariant-put_array-loop-item g l =
    let all = g.N.Nested.array_rest l.fn.items in
    let left = g.N.Nested.array_rest l.item-iterator in
    ListOpen l.fn.most Array l.fn.heap.items l.fn.places.items (array (elements all)) l.heap.items l.places.items left × (elements_size (elements left) ≤ elements_size (elements all)) × GrowsWithin l.fn.most l.fn.heap l.heap

abbrev pub invariant-put_object-loop-key : goal.invariant-put_object-loop-key
invariant-put_object-loop-key g l =
    let all = g.N.Nested.object_rest l.fn.members in
    let left = g.N.Nested.object_rest l.key-iterator in
    ListOpen l.fn.most Object l.fn.heap.items l.fn.places.items (object (entries all)) l.heap.items l.places.items (flat_entries left) × (entries_size (entries left) ≤ entries_size (entries all)) × GrowsWithin l.fn.most l.fn.heap l.heap
