use Rattle.std.proofs.Common.{◌≡◌, [], length, map, refl, ap, sym, subst, ◌∙◌, arith, rules}
use Rattle.std.proofs.lemmas.List.{nil_from_length}
use Rattle.tv_json.specs.Named.{named_trees}
use Rattle.tv_doc.specs.Named.{IsNamed}
use Rattle.tv_doc.specs.FieldValues.{pair_seen}
use Rattle.tv_doc.proofs.Grouping.{if_ok}
use Rattle.tv_doc.proofs.Spans.{Spanned, spanned_none, spanned_start, spanned_same, spanned_next, spanned_done, span-all}
use Rattle.tv_doc.proofs.lent_names.map_by_name.Goals as goal
use Rattle.tv_doc.proofs.lent_names.map_by_name.Goals.{then-ne+in_ok-named, else-ne}

pub returns-in_default : goal.returns-in_default
returns-in_default g c =
    let tree = g.V.Value.tree in
    let names = g.S.FieldNames.names c.args.schema.now in
    let none : c.args.pairs.now ≡ [] = nil_from_length _ (omega (arith, c.in_default.ensures.item.3)) in
    subst (λ n. IsNamed names (map (pair_seen tree) c.args.pairs.now) n) (sym (ap (map (named_trees tree)) c.new-named.ensures.empty)) (spanned_none tree names c.args.pairs.now none)

pub loop-at-init : goal.loop-at-init
loop-at-init g c =
    let tree = g.V.Value.tree in
    let names = g.S.FieldNames.names c.args.schema.now in
    let first = c.in-Some.field-0.now in
    record {
      in_range = omega arith;
      spanned =
          subst (Spanned tree names c.args.pairs.now first.0.id 0 1) (sym (ap (map (named_trees tree)) c.new-named.ensures.empty))
          (spanned_start tree names c.args.pairs.now first c.in-Some.ensures.item.3.0 c.in-Some.ensures.item.1 c.requires);
    }

pub loop-at-preserved : goal.loop-at-preserved
loop-at-preserved g c =
    let tree = g.V.Value.tree in
    let names = g.S.FieldNames.names c.args.schema.now in
    let l = c.loop-at in
    let p = c.index-pairs-at.result in
    elim c.if-ne.branch [
      | then-ne+in_ok-named w ↦
          let other : p.0.id ≡ l.field.id → ⊥ = search rules in
          let field_is : c.if-ne.field.id ≡ p.0.id = ap (λ f. f.id) w.field-is ∙ ap (λ q. q.0.id) (sym c.index-pairs-at.is) in
          record {
            in_range = omega (arith, w.start-is);
            spanned = rw (w.named-is, field_is, w.start-is) (spanned_next tree names c.args.pairs.now l.field.id l.start l.at _ _ _ p (omega arith) c.index-pairs-at.is other refl w.in_ok-named.ensures l.invariant.spanned);
          }
      | else-ne w ↦
          let same : p.0.id ≡ l.field.id = search rules in
          record {
            in_range = omega (arith, w.start-is, l.invariant.in_range);
            spanned = rw (w.named-is, w.field-is, w.start-is) (spanned_same tree names c.args.pairs.now l.field.id l.start l.at _ p l.invariant.in_range (omega arith) c.index-pairs-at.is same l.invariant.spanned);
          }
    ]

pub returns : goal.returns
returns g c =
    let tree = g.V.Value.tree in
    let names = g.S.FieldNames.names c.args.schema.now in
    let l = c.loop-at in
    if_ok (λ named is. spanned_done tree names c.args.pairs.now l.field.id l.start l.at (map (named_trees tree) l.named.entries) (map (named_trees tree) named.entries) _ (omega arith) (span-all c.args.pairs.now l.start (length c.args.pairs.now) (omega arith)) is l.invariant.spanned) c.put_named-2.result c.put_named-2.ensures
