use Rattle.std.proofs.Common.{◌↔◌, ◌*◌, ◌+◌}
use Rattle.tv_value.specs.Children.{ChildrenNestWithin, children_left}
use Rattle.tv_value.proofs.nested.+nests.Given as goal

-- each list is tested for one level less than its children leave
abbrev pub decreases-nested_within : goal.decreases-nested_within
decreases-nested_within g l = 2 * l.depth + 1

abbrev pub decreases-children_within : goal.decreases-children_within
decreases-children_within g l = 2 * l.depth + 2

-- the children that were passed nest so, so that what is left decides
abbrev pub invariant-children_within-loop-item : goal.invariant-children_within-loop-item
invariant-children_within-loop-item g l =
    ChildrenNestWithin l.depth (children_left g.N.Nested.array_rest g.N.Nested.object_rest l.item-iterator)
    ↔ ChildrenNestWithin l.depth (children_left g.N.Nested.array_rest g.N.Nested.object_rest l.fn.children)
