use Rattle.std.proofs.Common.{refl}
use Rattle.tv_builder.specs.State.{and_list}
use Rattle.tv_builder.proofs.PairBuilding.{fields_does, builds_next}
use Rattle.tv_builder.proofs.pair_builder.PairBuilder.open_list.Goals as goal

pub invariant_of-self : goal.invariant_of-self
invariant_of-self c =
    let f = fields_does c.args.self.now c.open_list-result.new.self c.settle.new.building c.settle.new.failed _ _ _ (λ s. and_list s c.args.kind c.args.announced) c.open_list-result.result c.open_list-result.ensures c.settle.ensures.settled in
    record { document = f.document; kept_within = f.kept_within; bytes = f.bytes; state = f.state }

pub returns : goal.returns
returns c =
    builds_next c.args.self.now _ c.open_list-result.new.self _ _ _ c.open_list-result.result c.settle.result c.if-self.false c.open_list-result.ensures c.settle.ensures.settled refl refl c.settle.ensures.returned
