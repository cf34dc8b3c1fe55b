use Rattle.tv_format.specs.WriteVersion.{written_version}
use Rattle.tv_reading.proofs.Walking.{one_more}
use Rattle.tv_reading.proofs.encoded.behind_as_many.Goals as goal

pub loop-count-preserved : goal.loop-count-preserved
loop-count-preserved c =
    one_more (written_version c.args.version) c.args.kind c.loop-count.count c.args.bytes.now c.loop-count.rest.now c.in-Some.value.now c.in-Some-behind_value.behind.now c.loop-count.invariant c.in-Some.ensures c.in-Some-behind_value.ensures
