use Rattle.std.proofs.Common.{◌≡◌, ◌≤◌}
use Rattle.tv_format.specs.Size.{size}
use Rattle.tv_value.specs.Children.{children_left, children_size}
use Rattle.tv_value.specs.Lent.{nested_tree}
use Rattle.tv_value.specs.SameChildren.{children_eq}
use Rattle.tv_value.proofs.same.+same.Given as goal

-- each child is smaller
abbrev pub decreases-same_nested : goal.decreases-same_nested
decreases-same_nested g l = size (nested_tree g.M.Nested.array_rest g.M.Nested.object_rest l.one)

abbrev pub decreases-same_children : goal.decreases-same_children
decreases-same_children g l = children_size (children_left g.M.Nested.array_rest g.M.Nested.object_rest l.children)

-- the answer is that of the children that are left
abbrev pub invariant-same_children-loop-key : goal.invariant-same_children-loop-key
invariant-same_children-loop-key g l =
    let rest = children_left g.M.Nested.array_rest g.M.Nested.object_rest l.key-iterator in
    let whole = children_left g.M.Nested.array_rest g.M.Nested.object_rest l.fn.children in
    let others = children_left g.N.Nested.array_rest g.N.Nested.object_rest in
    record {
      same : children_eq rest (others l.others) ≡ children_eq whole (others l.fn.others);
      smaller : children_size rest ≤ children_size whole;
    }
