use Rattle.std.proofs.Common.{◌≡◌, ◌++◌, [], map, sym, ap, ◌∙◌, rules}
use Rattle.std.proofs.lemmas.List.{append-nil}
use Rattle.tv_doc.specs.FieldValues.{pair_seen}
use Rattle.tv_doc.proofs.document_trait.gathered.Goals as goal

pub returns : goal.returns
returns g c =
    let tree = g.D.Value.Value.tree in
    let none : g.D.Document.pairs_rest c.loop-pair.pair-iterator ≡ [] = search rules in
    sym (append-nil _) ∙ ap (λ z. map (pair_seen tree) c.loop-pair.pairs.items ++ z) (sym none) ∙ c.loop-pair.invariant
