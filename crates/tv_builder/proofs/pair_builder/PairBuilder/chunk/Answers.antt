use Rattle.std.proofs.Common.{refl}
use Rattle.tv_builder.specs.State.{and_bytes}
use Rattle.tv_builder.proofs.PairBuilding.{fields_does, builds_chunk}
use Rattle.tv_builder.proofs.pair_builder.PairBuilder.chunk.Goals as goal

pub invariant_of-self : goal.invariant_of-self
invariant_of-self c =
    let f = fields_does c.args.self.now c.chunk-result.new.self c.settle.new.building c.settle.new.failed _ _ _ (λ s. and_bytes s c.args.bytes.now) c.chunk-result.result c.chunk-result.ensures.does c.settle.ensures.settled in
    record { document = f.document; kept_within = f.kept_within; bytes = f.bytes; state = f.state }

pub returns-clause-builds : goal.returns-clause-builds
returns-clause-builds c =
    builds_chunk c.args.self.now _ c.chunk-result.new.self _ _ _ c.chunk-result.result c.settle.result c.if-self.false c.chunk-result.ensures.does c.settle.ensures.settled refl refl c.settle.ensures.returned
