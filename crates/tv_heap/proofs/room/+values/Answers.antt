use Rattle.std.proofs.Common.{suc, ap, arith}
use Rattle.std.specs.List.{sum_by}
use Rattle.std.proofs.lemmas.List.Sums.{sum_by_push}
use Rattle.tv_format.specs.Size.{size}
use Rattle.tv_heap.specs.ChildrenRoom.{children_room}
use Rattle.tv_heap.specs.Room.{room}
use Rattle.tv_heap.proofs.ListRooms.{list_room}
use Rattle.tv_value.specs.Children.{children_left, children_size}
use Rattle.tv_value.proofs.ListChildren.{list_size}
use Rattle.tv_heap.proofs.room.+values.Goals as goal

pub nested_above-lists-smaller : goal.nested_above-lists-smaller
nested_above-lists-smaller g t c =
    let left = children_left {N = g.row.N.Denot} {K = g.row.N-Key.Denot} g.N.Nested.array_rest g.N.Nested.object_rest in
    let weighs = ap (sum_by (λ o. suc (children_size (left o)))) c.in_default-push.ensures.items in
    let sizes = ap children_size c.in-Some.ensures.steps in
    omega (arith, sizes, ap size c.as_nested.ensures, list_size _ _ c.in-Ok.ensures.list, weighs, sum_by_push (λ o. suc (children_size (left o))) c.lists.around.items c.next.new.self)

pub nested_above-lists-preserved : goal.nested_above-lists-preserved
nested_above-lists-preserved g t c =
    let left = children_left {N = g.row.N.Denot} {K = g.row.N-Key.Denot} g.N.Nested.array_rest g.N.Nested.object_rest in
    let l = c.lists in
    let pushed = c.in_default-push.ensures.items in
    let step = c.in-Some.ensures.steps in
    record {
      fits = omega (arith, c.in_ok-total-2.ensures);
      sum = omega (arith, l.invariant.sum, ap children_room step, ap room c.as_nested.ensures, list_room _ _ c.in-Ok.ensures.list, c.in_ok-total.ensures, c.in_ok-total-2.ensures, ap (sum_by (λ o. children_room (left o))) pushed, sum_by_push (λ o. children_room (left o)) l.around.items c.next.new.self);
      smaller = omega (arith, l.invariant.smaller, ap children_size step, ap size c.as_nested.ensures, list_size _ _ c.in-Ok.ensures.list, ap (sum_by (λ o. suc (children_size (left o)))) pushed, sum_by_push (λ o. suc (children_size (left o))) l.around.items c.next.new.self);
    }
