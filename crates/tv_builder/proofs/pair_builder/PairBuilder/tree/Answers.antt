use Rattle.std.proofs.Common.{refl}
use Rattle.tv_builder.specs.State.{and_value}
use Rattle.tv_builder.proofs.PairBuilding.{fields_does, builds_next}
use Rattle.tv_builder.proofs.pair_builder.PairBuilder.tree.Goals as goal

pub invariant_of-self : goal.invariant_of-self
invariant_of-self g c =
    let t = g.V.Value.tree c.args.value.now in
    let f = fields_does c.args.self.now c.tree-result.new.self c.settle.new.building c.settle.new.failed _ _ _ (λ s. and_value s t) c.tree-result.result c.tree-result.ensures c.settle.ensures.settled in
    record { document = f.document; kept_within = f.kept_within; bytes = f.bytes; state = f.state }

pub returns : goal.returns
returns g c =
    builds_next c.args.self.now _ c.tree-result.new.self _ _ _ c.tree-result.result c.settle.result c.if-self.false c.tree-result.ensures c.settle.ensures.settled refl refl c.settle.ensures.returned
