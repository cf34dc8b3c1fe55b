use Rattle.tv_builder.proofs.Finishing.{finish_fields, finishes}
use Rattle.tv_builder.proofs.pair_builder.PairBuilder.finish.Goals as goal

pub invariant_of-self : goal.invariant_of-self
invariant_of-self c =
    let k = c.keep_tree-result in
    let f = finish_fields c.args.self.now k.new.building c.settle.new.building k.new.pairs.items k.new.kept c.args.field c.settle.new.failed k.result k.ensures.ok k.ensures.err c.settle.ensures.settled in
    record { document = f.document; kept_within = f.kept_within; bytes = f.bytes; state = f.state }

pub returns : goal.returns
returns c =
    let k = c.keep_tree-result in
    finishes c.args.self.now _ k.new.building c.args.field k.result c.settle.result c.if-self.false k.ensures.ok k.ensures.err c.settle.ensures.settled c.settle.ensures.returned
