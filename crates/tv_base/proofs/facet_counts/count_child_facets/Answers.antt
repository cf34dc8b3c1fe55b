use Rattle.std.proofs.Common.{◌+◌, ◌<◌, ◌^◌, length, get_or, arith}
use Rattle.tv_base.specs.FacetCounting.{AreRising}
use Rattle.tv_base.specs.ChildPlaces.{entries}
use Rattle.tv_base.proofs.FacetCounts.{nothing, counts-start, counts-none, counts-more, current-small, length-so_far, so_far, so_far-more, rising-behind}
use Rattle.tv_base.proofs.facet_counts.count_child_facets.Goals as goal
use Rattle.tv_base.proofs.facet_counts.count_child_facets.Goals.{in-Some+in_ok-counted, in_default}

pub loop-facet-init : goal.loop-facet-init
loop-facet-init c = record { counted = rw c.new-counts.ensures.items (counts-start c.args.ancestor.now); first = λ none. c.new-counts.ensures.items }

pub counted-requires : goal.counted-requires
counted-requires c =
    let facets = so_far c.args.facets.now c.loop-facet.facet-index in
    let small : length facets + 1 < 2 ^ 64 = omega (arith, length-so_far c.args.facets.now c.loop-facet.facet-index) in
    current-small c.args.ancestor.now facets c.loop-facet.counts.items c.loop-facet.current c.loop-facet.invariant.counted small

pub loop-facet-preserved : goal.loop-facet-preserved
loop-facet-preserved c =
    let i = c.loop-facet.facet-index in
    let facets = c.args.facets.now in
    let facet = (get_or facets i nothing).now in
    let rising : AreRising facets = c.are_rising.ensures.0 c.if-not-are_rising.false in
    let behind = rising-behind facets i nothing rising c.loop-facet-test.true in
    let more = so_far-more facets i nothing c.loop-facet-test.true in
    elim c.match-child_towards.branch [
      | in-Some+in_ok-counted w ↦ record {
        counted = rw (w.counts-is, w.current-is, more) (counts-more c.args.ancestor.now (so_far facets i) c.loop-facet.counts.items w.counted.new.counts.items c.loop-facet.current w.in_ok-counted.field-0 w.in-Some.child.now facet
            c.loop-facet.invariant.counted c.loop-facet.invariant.first behind w.in-Some.ensures w.in_ok-counted.ensures);
        first = λ none. (let e = rw w.current-is at none in cc);
      }
      | in_default w ↦ record {
        counted = rw (w.counts-is, w.current-is, more) (counts-none c.args.ancestor.now (so_far facets i) (entries c.loop-facet.counts.items c.loop-facet.current) facet c.loop-facet.invariant.counted w.in_default.ensures);
        first = rw (w.counts-is, w.current-is) c.loop-facet.invariant.first;
      }
    ]
