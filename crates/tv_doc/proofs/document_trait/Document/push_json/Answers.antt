use Rattle.std.proofs.Common.{map, refl, subst, sym, ap, ◌∙◌}
use Rattle.std.proofs.lemmas.Result.{on_ok_weaker}
use Rattle.tv_json.specs.Named.{named_trees}
use Rattle.tv_doc.specs.Named.{IsNamed}
use Rattle.tv_doc.specs.FieldValues.{pair_seen}
use Rattle.tv_doc.proofs.Spans.{named_sorted}
use Rattle.tv_doc.proofs.document_trait.Document.push_json.Goals as goal

pub returns-in-Some-clause-added : goal.returns-in-Some-clause-added
returns-in-Some-clause-added g c =
    let tree = g.Self.Value.Value.tree in
    let names = g.S.FieldNames.names c.args.schema.now in
    let named = map (named_trees tree) c.as_slice-in-Some.result.now in
    let is_named : IsNamed names (map (pair_seen tree) c.as_slice.result.now) (map (named_trees tree) c.in-Some.named.items) = rw c.in-Some.is at c.in_ok-named.ensures in
    let whole = subst (λ l. IsNamed names l named) (ap (map (pair_seen tree)) c.as_slice.ensures.value ∙ c.in_ok-pairs.ensures)
    (subst (λ l. IsNamed names (map (pair_seen tree) c.as_slice.result.now) (map (named_trees tree) l)) (sym c.as_slice-in-Some.ensures.value) is_named) in
    on_ok_weaker c.push_named_json.result (λ is. (_, (named, whole, refl), is)) c.push_named_json.ensures.ok

pub returns-clause-added : goal.returns-clause-added
returns-clause-added g c =
    let tree = g.Self.Value.Value.tree in
    let names = g.S.FieldNames.names c.args.schema.now in
    let named = map (named_trees tree) c.as_slice-3.result.now in
    let sorted = subst (λ l. IsNamed names (map (pair_seen tree) l) named) c.as_slice-2.ensures.value
    (subst (λ l. IsNamed names (map (pair_seen tree) c.as_slice-2.result.now) (map (named_trees tree) l)) (sym c.as_slice-3.ensures.value) c.in_ok-named-2.ensures) in
    on_ok_weaker c.push_named_json-2.result
    (λ is. (_, (named, named_sorted tree names _ _ (g.Self.Document.pairs c.args.self.now) named c.sort_pairs.ensures.values c.in_ok-pairs.ensures sorted, refl), is))
    c.push_named_json-2.ensures.ok
