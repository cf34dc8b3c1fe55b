use Rattle.std.proofs.Common.{◌≡◌, ◌++◌, map, take}
use Rattle.std.specs.List.{flat_map}
use Rattle.tv_blocks.specs.FacetCounts.{facet_record}
use Rattle.tv_base.specs.FacetCounting.{entry_of}
use Rattle.tv_blocks.proofs.facet_counts.append_counts.Given as goal

abbrev pub invariant-loop-one : goal.invariant-loop-one
invariant-loop-one l = l.content.items ≡ l.initial.content.items ++ flat_map facet_record (map entry_of (take l.one-index l.counts))
