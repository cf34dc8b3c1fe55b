use Rattle.std.proofs.Common.{◌≡◌, [], None}
use Rattle.tv_base.specs.FacetCounting.{AreChildCounts}
use Rattle.tv_base.specs.ChildPlaces.{entries}
use Rattle.tv_base.proofs.FacetCounts.{so_far}
use Rattle.tv_base.proofs.Documents.{children_of}
use Rattle.tv_base.proofs.facet_counts.count_child_documents.Given as goal

abbrev pub invariant-loop-child : goal.invariant-loop-child
invariant-loop-child l = record {
  counted : AreChildCounts l.ancestor (so_far (children_of l.child-items) l.child-index) (entries l.counts.items l.current);
  first : l.current ≡ None → l.counts.items ≡ [];
}
