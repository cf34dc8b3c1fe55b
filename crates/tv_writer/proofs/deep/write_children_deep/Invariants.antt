use Rattle.std.proofs.Common.{◌+◌, length}
use Rattle.tv_base.proofs.Written.{Written}
use Rattle.tv_format.specs.WriteVersion.{written_version}
use Rattle.tv_value.specs.Children.{children_left, children_size}
use Rattle.tv_writer.specs.Children.{AreValues, short_children}
use Rattle.tv_writer.proofs.OpenLists.{all_left}
use Rattle.tv_writer.proofs.deep.write_children_deep.Given as goal

-- what the open lists have left is still to be written
abbrev pub invariant-children : goal.invariant-children
invariant-children g l =
    let left = children_left g.N.Nested.array_rest g.N.Nested.object_rest in
    let v = written_version l.version in
    record {
      valid : AreValues (all_left left l.list l.around.items);
      written : Written g.K.ByteSink.is_known g.K.ByteSink.held g.K.ByteSink.failures l.fn.sink l.sink (short_children v (left l.fn.first)) (short_children v (all_left left l.list l.around.items));
    }

abbrev pub decreases-children : goal.decreases-children
decreases-children g l =
    let left = children_left g.N.Nested.array_rest g.N.Nested.object_rest in
    children_size (all_left left l.list l.around.items) + length l.around.items
