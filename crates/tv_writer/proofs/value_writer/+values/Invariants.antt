use Rattle.std.proofs.Common.{◌≤◌}
use Rattle.tv_base.proofs.Written.{Written}
use Rattle.tv_format.specs.Size.{size}
use Rattle.tv_format.specs.WriteVersion.{written_version}
use Rattle.tv_value.specs.Children.{children_left, children_size}
use Rattle.tv_value.specs.Lent.{nested_tree}
use Rattle.tv_writer.specs.Children.{AreValues, short_children}
use Rattle.tv_writer.proofs.value_writer.+values.Given as goal

abbrev pub decreases-write_nested : goal.decreases-write_nested
decreases-write_nested g l = size (nested_tree g.N.Nested.array_rest g.N.Nested.object_rest l.value)

abbrev pub decreases-write_children : goal.decreases-write_children
decreases-write_children g l = children_size (children_left g.N.Nested.array_rest g.N.Nested.object_rest l.children)

-- the children that are left are still to be written
abbrev pub invariant-write_children-loop-key : goal.invariant-write_children-loop-key
invariant-write_children-loop-key g l =
    let all = children_left g.N.Nested.array_rest g.N.Nested.object_rest l.fn.children in
    let rest = children_left g.N.Nested.array_rest g.N.Nested.object_rest l.key-iterator in
    record {
      valid : AreValues rest;
      smaller : children_size rest ≤ children_size all;
      written : Written g.K.ByteSink.is_known g.K.ByteSink.held g.K.ByteSink.failures l.fn.sink l.sink (short_children (written_version l.version) all) (short_children (written_version l.version) rest);
    }
