use Rattle.std.proofs.Common.{◌≡◌, List, [], Bor, ℕ, None, map, take}
use Rattle.tv_base.specs.FacetCounting.{AreChildCounts}
use Rattle.tv_base.specs.ChildPlaces.{entries}
use Rattle.tv_base.proofs.facet_counts.count_child_facets.Given as goal

abbrev pub invariant-loop-facet : goal.invariant-loop-facet
invariant-loop-facet l = record {
  counted : AreChildCounts l.ancestor (map (λ (facet : Bor (List ℕ)). facet.now) (take l.facet-index l.facets)) (entries l.counts.items l.current);
  first : l.current ≡ None → l.counts.items ≡ [];
}
