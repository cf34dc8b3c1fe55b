use Rattle.tv_base.specs.declared.facet_counts.FacetCount.{FacetCount}
use Rattle.tv_base.proofs.FacetCounts.{nothing}
use Rattle.tv_blocks.proofs.FacetPairs.{counts_more}
use Rattle.tv_blocks.proofs.facet_counts.append_counts.Goals as goal

abbrev no_count : FacetCount
no_count = record { child = nothing; count = 0 }

pub loop-one-preserved : goal.loop-one-preserved
loop-one-preserved c =
    let l = c.loop-one in
    counts_more c.args.content.now.items l.content.items c.append_record.new.content.items c.args.counts.now l.one-index no_count c.loop-one-test.true l.invariant c.in_ok-append_record.ensures.appended
