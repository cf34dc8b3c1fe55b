use Rattle.std.proofs.Common.{map, take}
use Rattle.tv_base.specs.DocumentCounting.{facet_of}
use Rattle.tv_base.specs.DocumentPairs.{ArePairs, pair_of}
use Rattle.tv_base.proofs.facet_counts.child_documents.Given as goal

abbrev pub invariant-loop-one : goal.invariant-loop-one
invariant-loop-one l = ArePairs l.ancestor (map facet_of (take l.one-index l.facets)) (map pair_of l.pairs.items)
