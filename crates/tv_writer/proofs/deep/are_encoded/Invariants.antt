use Rattle.std.proofs.Common.{◌↔◌, ◌+◌, length}
use Rattle.tv_value.specs.Children.{children_left, children_size}
use Rattle.tv_writer.specs.Children.{AreValues}
use Rattle.tv_writer.proofs.OpenLists.{all_left}
use Rattle.tv_writer.proofs.deep.are_encoded.Given as goal

-- what the open lists have left decides
abbrev pub invariant-children : goal.invariant-children
invariant-children g l =
    let left = children_left g.N.Nested.array_rest g.N.Nested.object_rest in
    AreValues (left l.fn.first) ↔ AreValues (all_left left l.list l.around.items)

abbrev pub decreases-children : goal.decreases-children
decreases-children g l =
    let left = children_left g.N.Nested.array_rest g.N.Nested.object_rest in
    children_size (all_left left l.list l.around.items) + length l.around.items
