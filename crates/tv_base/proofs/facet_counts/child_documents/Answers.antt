use Rattle.std.proofs.Common.{◌≡◌, ◌∙◌, ◌++◌, ◌∷◌, [], map, take, get_or, ap}
use Rattle.std.proofs.lemmas.List.{map-append, map_more}
use Rattle.tv_base.specs.DocumentCounting.{facet_of}
use Rattle.tv_base.specs.DocumentPairs.{pair_of}
use Rattle.tv_base.specs.declared.facet_counts.DocumentFacet.{DocumentFacet}
use Rattle.tv_base.proofs.FacetCounts.{nothing}
use Rattle.tv_base.proofs.Documents.{pairs-more, pairs-none}
use Rattle.tv_base.proofs.facet_counts.child_documents.Goals as goal
use Rattle.tv_base.proofs.facet_counts.child_documents.Goals.{in-Some+in_ok-push, in_default}

abbrev no_facet : DocumentFacet
no_facet = record { facet = nothing; document = 0 }

pub loop-one-preserved : goal.loop-one-preserved
loop-one-preserved c =
    let i = c.loop-one.one-index in
    let facets = c.args.facets.now in
    let one = get_or facets i no_facet in
    let more = map_more facet_of facets i no_facet c.loop-one-test.true in
    elim c.match-child_towards.branch [
      | in-Some+in_ok-push w ↦
          (let pushed : map pair_of w.push.new.self.items ≡ map pair_of c.loop-one.pairs.items ++ (w.in-Some.child.now, one.document) ∷ [] =
          ap (map pair_of) w.in_ok-push.ensures.items ∙ map-append pair_of c.loop-one.pairs.items ((w.in-Some.child, one.document) ∷ []) in
          rw (w.pairs-is, pushed, more)
          (pairs-more c.args.ancestor.now (map facet_of (take i facets)) (map pair_of c.loop-one.pairs.items) one.facet.now w.in-Some.child.now one.document c.loop-one.invariant w.in-Some.ensures))
      | in_default w ↦
          rw (w.pairs-is, more) (pairs-none c.args.ancestor.now (map facet_of (take i facets)) (map pair_of c.loop-one.pairs.items) one.facet.now one.document c.loop-one.invariant w.in_default.ensures)
    ]
