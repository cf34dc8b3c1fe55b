use Rattle.std.proofs.Common.{length, map}
use Rattle.tv_blocks.specs.FacetCounts.{PairsSoFar}
use Rattle.tv_base.specs.DocumentCounting.{facet_of}
use Rattle.tv_blocks.proofs.facet_counts.read_pairs.Given as goal

abbrev pub invariant-loop-rest : goal.invariant-loop-rest
invariant-loop-rest l = PairsSoFar l.bytes l.rest (map facet_of l.pairs.items)

abbrev pub decreases-loop-rest : goal.decreases-loop-rest
decreases-loop-rest l = length l.rest
