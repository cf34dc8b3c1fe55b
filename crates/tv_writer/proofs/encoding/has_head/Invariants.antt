use Rattle.tv_value.specs.Children.{children_left}
use Rattle.tv_value.specs.Lent.{nested_tree}
use Rattle.tv_writer.proofs.Encoded.{KeysEncoded}
use Rattle.tv_writer.proofs.encoding.has_head.Given as goal

abbrev pub invariant-loop-key : goal.invariant-loop-key
invariant-loop-key g l = KeysEncoded l.count (children_left g.N.Nested.array_rest g.N.Nested.object_rest l.key-iterator) (nested_tree g.N.Nested.array_rest g.N.Nested.object_rest l.fn.value)
