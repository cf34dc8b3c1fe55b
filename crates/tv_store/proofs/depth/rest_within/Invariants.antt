use Rattle.std.proofs.Common.{◌≡◌, ◌≤◌, ◌+◌, suc, length}
use Rattle.std.specs.List.{sum_by}
use Rattle.tv_value.specs.Children.{children_left, children_size, ChildrenNestWithin}
use Rattle.tv_store.proofs.WithinDepth.{SoFar}
use Rattle.tv_store.proofs.depth.rest_within.Given as goal

-- what is left of the open lists decides
abbrev pub invariant-lists : goal.invariant-lists
invariant-lists g l =
    let left = children_left g.N.Nested.array_rest g.N.Nested.object_rest in
    record {
      most : l.most ≡ l.fn.depth;
      few : length l.around.items ≤ l.fn.depth;
      so_far : SoFar left (ChildrenNestWithin l.fn.depth (left l.fn.outermost)) l.fn.depth l.around.items l.list;
    }

abbrev pub decreases-lists : goal.decreases-lists
decreases-lists g l =
    let left = children_left g.N.Nested.array_rest g.N.Nested.object_rest in
    children_size (left l.list) + sum_by (λ o. suc (children_size (left o))) l.around.items
