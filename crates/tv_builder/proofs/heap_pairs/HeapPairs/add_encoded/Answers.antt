use Rattle.tv_format.specs.WriteVersion.{written_version}
use Rattle.tv_builder.proofs.EncodedPairs.{none_encoded, one_more, no_more}
use Rattle.tv_builder.proofs.heap_pairs.HeapPairs.add_encoded.Goals as goal

pub loop-count-init : goal.loop-count-init
loop-count-init c = none_encoded (written_version c.args.version) c.args.self.now c.args.bytes.now

pub loop-count-preserved : goal.loop-count-preserved
loop-count-preserved c = one_more (written_version c.args.version) c.args.self.now c.loop-count.self c.add_encoded_pair.new.self c.args.bytes.now c.loop-count.rest.now c.in-Some.behind.now c.loop-count.count c.loop-count.invariant c.in-Some.ensures.added

pub returns-in_default-clause-added : goal.returns-in_default-clause-added
returns-in_default-clause-added c = no_more (written_version c.args.version) c.args.self.now c.loop-count.self c.add_encoded_pair.new.self c.args.bytes.now c.loop-count.rest.now c.loop-count.count c.loop-count.invariant c.in_default.ensures.none
