use Rattle.std.proofs.Common.{suc, ◌≡◌, ◌+◌, ◌*◌, ◌<◌, ◌≤◌, ◌^◌}
use Rattle.std.specs.List.{sum_by}
use Rattle.tv_format.specs.Size.{size}
use Rattle.tv_heap.specs.ChildrenRoom.{children_room}
use Rattle.tv_value.specs.Children.{children_left, children_size}
use Rattle.tv_value.specs.Lent.{nested_tree}
use Rattle.tv_heap.proofs.room.+values.Given as goal

-- each child is smaller, and the children of a list are counted by the loop or by recursion
abbrev pub decreases-value_above : goal.decreases-value_above
decreases-value_above g l = 2 * size (nested_tree g.N.Nested.array_rest g.N.Nested.object_rest l.value)

abbrev pub decreases-children_above : goal.decreases-children_above
decreases-children_above g l = 2 * children_size (children_left g.N.Nested.array_rest g.N.Nested.object_rest l.children) + 1

abbrev pub decreases-nested_above : goal.decreases-nested_above
decreases-nested_above g l = 2 * children_size (children_left g.N.Nested.array_rest g.N.Nested.object_rest l.outermost)

abbrev pub invariant-children_above-loop-key : goal.invariant-children_above-loop-key
invariant-children_above-loop-key g l =
    let all = children_left g.N.Nested.array_rest g.N.Nested.object_rest l.fn.children in
    let rest = children_left g.N.Nested.array_rest g.N.Nested.object_rest l.key-iterator in
    record {
      fits : l.total < 2 ^ 32;
      sum : l.total + children_room rest ≡ l.fn.base + children_room all;
      smaller : children_size rest ≤ children_size all;
    }

-- with what the innermost list and those around it have left
abbrev pub invariant-nested_above-lists : goal.invariant-nested_above-lists
invariant-nested_above-lists g l =
    let left = children_left g.N.Nested.array_rest g.N.Nested.object_rest in
    record {
      fits : l.total < 2 ^ 32;
      sum : l.total + (children_room (left l.list) + sum_by (λ o. children_room (left o)) l.around.items) ≡ l.fn.base + children_room (left l.fn.outermost);
      smaller : children_size (left l.list) + sum_by (λ o. suc (children_size (left o))) l.around.items ≤ children_size (left l.fn.outermost);
    }

abbrev pub decreases-nested_above-lists : goal.decreases-nested_above-lists
decreases-nested_above-lists g l =
    let left = children_left g.N.Nested.array_rest g.N.Nested.object_rest in
    children_size (left l.list) + sum_by (λ o. suc (children_size (left o))) l.around.items
