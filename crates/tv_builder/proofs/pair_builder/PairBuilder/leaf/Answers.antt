use Rattle.std.proofs.Common.{refl}
use Rattle.tv_builder.specs.State.{and_value}
use Rattle.tv_value.specs.Lent.{leaf_of}
use Rattle.tv_format.specs.Tree.{leaf}
use Rattle.tv_builder.proofs.PairBuilding.{fields_does, builds_next}
use Rattle.tv_builder.proofs.pair_builder.PairBuilder.leaf.Goals as goal

pub invariant_of-self : goal.invariant_of-self
invariant_of-self c =
    let l = leaf_of c.args.value in
    let f = fields_does c.args.self.now c.leaf-result.new.self c.settle.new.building c.settle.new.failed _ _ _ (λ s. and_value s (leaf l)) c.leaf-result.result c.leaf-result.ensures c.settle.ensures.settled in
    record { document = f.document; kept_within = f.kept_within; bytes = f.bytes; state = f.state }

pub returns : goal.returns
returns c =
    builds_next c.args.self.now _ c.leaf-result.new.self _ _ _ c.leaf-result.result c.settle.result c.if-self.false c.leaf-result.ensures c.settle.ensures.settled refl refl c.settle.ensures.returned
