use Rattle.std.proofs.Common.{map, drop}
use Rattle.tv_value.specs.Owned.{owned_tree}
use Rattle.tv_doc.proofs.PairsSoFar.{PairsSoFar}
use Rattle.tv_doc.proofs.convert.add_values.Given as goal

abbrev pub invariant-loop-value : goal.invariant-loop-value
invariant-loop-value l =
    PairsSoFar (map (λ t. (l.field.id, t)) (map owned_tree l.fn.values)) (map (λ t. (l.field.id, t)) (map owned_tree (drop l.value-index l.fn.values))) l.fn.document l.document
