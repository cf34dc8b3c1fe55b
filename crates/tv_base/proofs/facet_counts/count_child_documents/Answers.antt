use Rattle.std.proofs.Common.{◌≡◌, ℕ, ◌+◌, ◌<◌, ◌^◌, ◌∙◌, List, Bor, length, map, get_or, ap, sym, subst, arith}
use Rattle.std.proofs.lemmas.List.{take_all}
use Rattle.std.proofs.lemmas.Result.{IfOk-weaker}
use Rattle.tv_base.specs.FacetCounting.{AreChildCounts}
use Rattle.tv_base.specs.ChildPlaces.{entries, IsChildAbove}
use Rattle.tv_base.specs.DocumentCounting.{facet_of, AreDocumentCounts}
use Rattle.tv_base.specs.DocumentPairs.{pair_of, HasEachOnce}
use Rattle.tv_base.proofs.FacetCounts.{nothing, counts-start, counts-more, current-small, length-so_far, so_far, so_far-more, rising-behind}
use Rattle.tv_base.proofs.Documents.{above-itself, children-all, children-kept, children-rise, children_of, child-at, child-is, document-counts, length-children, no_pair}
use Rattle.tv_base.proofs.facet_counts.count_child_documents.Goals as goal

pub loop-child-init : goal.loop-child-init
loop-child-init c = record { counted = rw c.new-counts.ensures.items (counts-start c.args.ancestor.now); first = λ none. c.new-counts.ensures.items }

pub counted-requires : goal.counted-requires
counted-requires c =
    let facets = so_far (children_of c.deref-child-items.result.now) c.loop-child.child-index in
    let small : length facets + 1 < 2 ^ 64 = omega (arith, length-so_far (children_of c.deref-child-items.result.now) c.loop-child.child-index) in
    current-small c.args.ancestor.now facets c.loop-child.counts.items c.loop-child.current c.loop-child.invariant.counted small

pub loop-child-preserved : goal.loop-child-preserved
loop-child-preserved c =
    let i = c.loop-child.child-index in
    let ancestor = c.args.ancestor.now in
    let items = c.deref-child-items.result.now in
    let facets = children_of items in
    let child = (get_or items i no_pair).0 in
    let once = subst (λ l. HasEachOnce (map pair_of c.in_ok-pairs.pairs.items) (map pair_of l)) (sym c.deref-child-items.ensures.value) c.keep_each_once.ensures in
    let inside : i < length facets = omega (arith, length-children items) in
    let here = get_or facets i nothing in
    let behind = rising-behind facets i nothing (children-rise items once.rising) inside in
    let more = so_far-more facets i nothing inside in
    let kept = children-kept ancestor (map facet_of c.args.facets.now) (map pair_of c.in_ok-pairs.pairs.items) (map pair_of items) c.in_ok-pairs.ensures once in
    let above : IsChildAbove ancestor here.now child.now =
    subst (λ (facet : Bor (List ℕ)). IsChildAbove ancestor facet.now child.now) (sym (child-at items i c.loop-child-test.true)) (above-itself ancestor child.now (child-is ancestor items i kept c.loop-child-test.true)) in
    record {
      counted = rw more (counts-more ancestor (so_far facets i) c.loop-child.counts.items c.counted.new.counts.items c.loop-child.current c.in_ok-counted.field-0 child.now here.now
          c.loop-child.invariant.counted c.loop-child.invariant.first behind above c.in_ok-counted.ensures);
      first = λ none. (cc);
    }

pub returns : goal.returns
returns c =
    let ancestor = c.args.ancestor.now in
    let items = c.deref-child-items.result.now in
    let old = map pair_of c.in_ok-pairs.pairs.items in
    let once = subst (λ l. HasEachOnce old (map pair_of l)) (sym c.deref-child-items.ensures.value) c.keep_each_once.ensures in
    let all : so_far (children_of items) c.loop-child.child-index ≡ map (λ (pair : List ℕ × ℕ). pair.0) (map pair_of items) =
    ap (map (λ (facet : Bor (List ℕ)). facet.now)) (take_all c.loop-child.child-index (children_of items) (omega (arith, length-children items))) ∙ children-all items in
    let counted = subst (λ l. AreChildCounts ancestor l (entries c.loop-child.counts.items c.loop-child.current)) all c.loop-child.invariant.counted in
    let counts = document-counts ancestor (map facet_of c.args.facets.now) old (map pair_of items) (entries c.loop-child.counts.items c.loop-child.current) c.in_ok-pairs.ensures once counted in
    IfOk-weaker c.finished.result _ _ (λ result is. subst (AreDocumentCounts ancestor (map facet_of c.args.facets.now)) (sym is) counts) c.finished.ensures
