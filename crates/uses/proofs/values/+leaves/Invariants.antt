use Rattle.std.proofs.Common.{◌≤◌}
use Rattle.tantivy_schema.specs.Lent.{nested_tree}
use Rattle.tantivy_schema.specs.Size.{size, elements_size, entries_size}
use Rattle.tantivy_schema.specs.Tree.{elements, entries}
use Rattle.uses.proofs.values.+leaves.Given as goal

-- each child is smaller
abbrev pub decreases-leaves_of : goal.decreases-leaves_of
decreases-leaves_of g l = size (nested_tree g.N.Nested.array_rest g.N.Nested.object_rest l.value)

abbrev pub decreases-leaves_of_items : goal.decreases-leaves_of_items
decreases-leaves_of_items g l = elements_size (elements (g.N.Nested.array_rest l.items))

abbrev pub decreases-leaves_of_members : goal.decreases-leaves_of_members
decreases-leaves_of_members g l = entries_size (entries (g.N.Nested.object_rest l.members))

-- and so are those that are left
abbrev pub invariant-leaves_of_items-loop-item : goal.invariant-leaves_of_items-loop-item
invariant-leaves_of_items-loop-item g l = elements_size (elements (g.N.Nested.array_rest l.item-iterator)) ≤ elements_size (elements (g.N.Nested.array_rest l.fn.items))

abbrev pub invariant-leaves_of_members-loop-item : goal.invariant-leaves_of_members-loop-item
invariant-leaves_of_members-loop-item g l = entries_size (entries (g.N.Nested.object_rest l.item-iterator)) ≤ entries_size (entries (g.N.Nested.object_rest l.fn.members))
