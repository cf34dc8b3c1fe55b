use Rattle.tv_blocks.specs.Query.{range_record}
use Rattle.tv_blocks.proofs.Queries.{record_of_next}
use Rattle.tv_blocks.proofs.query.append_ranges.Goals as goal

pub loop-range-preserved : goal.loop-range-preserved
loop-range-preserved c =
    let l = c.loop-range in
    record_of_next range_record _ l.content.items _ c.args.ranges.now l.range-index c.range-item.result c.loop-range-test.true c.range-item.is l.invariant c.in_ok-append_range.ensures
