use Rattle.std.proofs.Common.{◌∷◌, [], ap, ◌∙◌, map}
use Rattle.std.proofs.lemmas.List.{map-append}
use Rattle.tv_base.specs.DocumentCounting.{facet_of}
use Rattle.tv_blocks.proofs.FacetPairs.{is_pushed, one_more_pair}
use Rattle.tv_blocks.proofs.facet_counts.read_pairs.Goals as goal

pub loop-rest-preserved : goal.loop-rest-preserved
loop-rest-preserved c =
    let pushed = is_pushed c.push.result c.is_err.result c.loop-rest.pairs.items c.push.new.self.items c.in-Some.pair c.push.ensures.items c.is_err.ensures.value c.if-is_err.false in
    one_more_pair (facet_of c.in-Some.pair) c.in-Some.behind.now c.loop-rest.invariant c.in-Some.ensures.0 c.in-Some.ensures.1
    (ap (map facet_of) pushed ∙ map-append facet_of c.loop-rest.pairs.items (c.in-Some.pair ∷ []))
