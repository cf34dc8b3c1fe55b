use Rattle.tv_json.specs.Rising.{KeysRise, RiseFrom}
use Rattle.tv_format.specs.Tree.{entries}
use Rattle.tv_json.proofs.member_order.keys_rise.Given as goal

abbrev pub invariant-loop-key : goal.invariant-loop-key
invariant-loop-key g l =
    RiseFrom (g.N.Key.AsStr.text l.last) (entries (g.N.Nested.object_rest l.key-iterator)) → KeysRise (entries (g.N.Nested.object_rest l.fn.members))
