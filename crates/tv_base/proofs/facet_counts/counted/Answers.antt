use Rattle.std.proofs.Common.{rules, ◌≡◌, ◌≢◌, ◌∙◌, ◌++◌, ◌∷◌, [], inr, refl, ap, map}
use Rattle.std.proofs.lemmas.List.{map-append}
use Rattle.tv_base.specs.FacetCounting.{entry_of}
use Rattle.tv_base.proofs.facet_counts.counted.Goals as goal

pub returns-in_ok-push-in-Some-2 : goal.returns-in_ok-push-in-Some-2
returns-in_ok-push-in-Some-2 c =
    let other : c.in-Some-2.last.child.now ≢ c.args.child.now = search rules in
    let more : map entry_of c.push.new.self.items ≡ map entry_of c.args.counts.now.items ++ entry_of c.in-Some-2.last ∷ [] =
    ap (map entry_of) c.in_ok-push-in-Some-2.ensures.items ∙ map-append entry_of c.args.counts.now.items (c.in-Some-2.last ∷ []) in
    rw c.in-Some-2.is (inr (other, more, refl))
