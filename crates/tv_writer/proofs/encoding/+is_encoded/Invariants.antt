use Rattle.tv_format.specs.Size.{size}
use Rattle.tv_value.specs.Children.{children_left}
use Rattle.tv_value.specs.Lent.{nested_tree}
use Rattle.tv_writer.proofs.Encoded.{ChildrenEncoded}
use Rattle.tv_writer.proofs.encoding.+is_encoded.Given as goal

-- each child is smaller
abbrev pub decreases-is_encoded : goal.decreases-is_encoded
decreases-is_encoded g l = size (nested_tree g.N.Nested.array_rest g.N.Nested.object_rest l.value)

abbrev pub invariant-loop-key : goal.invariant-loop-key
invariant-loop-key g l = ChildrenEncoded l.count (children_left g.N.Nested.array_rest g.N.Nested.object_rest l.key-iterator) (nested_tree g.N.Nested.array_rest g.N.Nested.object_rest l.fn.value)
