use Rattle.std.proofs.Common.{◌≡◌, ◌≤◌, ◌++◌, map}
use Rattle.tv_format.specs.Size.{size, elements_size, entries_size}
use Rattle.tv_format.specs.Tree.{elements, entries}
use Rattle.tv_value.specs.Owned.{owned_tree, owned_entries}
use Rattle.tv_value.specs.Lent.{nested_tree}
use Rattle.tv_value.proofs.copy.+copies.Given as goal

-- each child is smaller
abbrev pub decreases-owned_of : goal.decreases-owned_of
decreases-owned_of g l = size (nested_tree g.N.Nested.array_rest g.N.Nested.object_rest l.value)

abbrev pub decreases-owned_array : goal.decreases-owned_array
decreases-owned_array g l = elements_size (elements (g.N.Nested.array_rest l.items))

abbrev pub decreases-owned_object : goal.decreases-owned_object
decreases-owned_object g l = entries_size (entries (g.N.Nested.object_rest l.members))

-- the copies stand for the children that were passed
abbrev pub invariant-owned_array-loop-item : goal.invariant-owned_array-loop-item
invariant-owned_array-loop-item g l =
    let rest = g.N.Nested.array_rest l.item-iterator in
    let whole = g.N.Nested.array_rest l.fn.items in
    record {
      items : map owned_tree l.owned.items ++ rest ≡ whole;
      smaller : elements_size (elements rest) ≤ elements_size (elements whole);
    }

abbrev pub invariant-owned_object-loop-key : goal.invariant-owned_object-loop-key
invariant-owned_object-loop-key g l =
    let rest = g.N.Nested.object_rest l.key-iterator in
    let whole = g.N.Nested.object_rest l.fn.members in
    record {
      members : owned_entries l.owned.items ++ rest ≡ whole;
      smaller : entries_size (entries rest) ≤ entries_size (entries whole);
    }
