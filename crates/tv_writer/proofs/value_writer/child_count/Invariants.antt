use Rattle.std.proofs.Common.{◌≡◌, ◌+◌, length}
use Rattle.tv_value.specs.Children.{children_left}
use Rattle.tv_value.specs.Lent.{nested_tree}
use Rattle.tv_writer.specs.Children.{child_count}
use Rattle.tv_writer.proofs.value_writer.child_count.Given as goal

-- those that were counted, and those that are left
abbrev pub invariant-loop-child : goal.invariant-loop-child
invariant-loop-child g l =
    l.count + length (children_left g.N.Nested.array_rest g.N.Nested.object_rest l._child-iterator) ≡ child_count (nested_tree g.N.Nested.array_rest g.N.Nested.object_rest l.fn.value)
