use Rattle.std.proofs.Common.{refl}
use Rattle.tv_builder.specs.State.{and_key}
use Rattle.tv_builder.proofs.PairBuilding.{fields_does, builds_next}
use Rattle.tv_builder.proofs.pair_builder.PairBuilder.key.Goals as goal

pub invariant_of-self : goal.invariant_of-self
invariant_of-self c =
    let f = fields_does c.args.self.now c.key-result.new.self c.settle.new.building c.settle.new.failed _ _ _ (λ s. and_key s c.args.content.now) c.key-result.result c.key-result.ensures c.settle.ensures.settled in
    record { document = f.document; kept_within = f.kept_within; bytes = f.bytes; state = f.state }

pub returns : goal.returns
returns c =
    builds_next c.args.self.now _ c.key-result.new.self _ _ _ c.key-result.result c.settle.result c.if-self.false c.key-result.ensures c.settle.ensures.settled refl refl c.settle.ensures.returned
