use Rattle.std.proofs.Common.{refl}
use Rattle.tv_builder.proofs.PairBuilding.{fields_does, ends}
use Rattle.tv_builder.specs.State.{and_end}
use Rattle.tv_builder.proofs.pair_builder.PairBuilder.end_bytes.Goals as goal

pub invariant_of-self : goal.invariant_of-self
invariant_of-self c =
    let f = fields_does c.args.self.now c.end_bytes-result.new.self c.settle.new.building c.settle.new.failed _ _ _ and_end c.end_bytes-result.result c.end_bytes-result.ensures c.settle.ensures.settled in
    record { document = f.document; kept_within = f.kept_within; bytes = f.bytes; state = f.state }

pub returns : goal.returns
returns c =
    ends c.args.self.now _ c.end_bytes-result.new.self c.end_bytes-result.result c.settle.result c.if-self.false c.end_bytes-result.ensures c.settle.ensures.settled refl refl c.settle.ensures.returned
