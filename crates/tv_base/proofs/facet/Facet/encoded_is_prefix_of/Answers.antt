use Rattle.std.proofs.Common.{◌≡◌, ◌≢◌, ◌∙◌, ◌++◌, ◌∷◌, [], length, sym, ap, eq-eqb}
use Rattle.std.proofs.lemmas.List.{append-nil, nil_from_length}
use Rattle.std.proofs.lemmas.Bool.{eqb-true}
use Rattle.tv_base.proofs.Steps.{Descends-apart, Descends-itself, Descends-first, Descends-root, Descends-from_rest, false_true}
use Rattle.tv_base.proofs.facet.Facet.encoded_is_prefix_of.Goals as goal

pub returns-in_default : goal.returns-in_default
returns-in_default c = (λ t. absurd (false_true t), λ d. absurd (Descends-apart c.args.ancestor.now c.args.facet.now c.in_default.ensures d))

pub returns-then-is_empty : goal.returns-then-is_empty
returns-then-is_empty c =
    let root : c.args.ancestor.now ≡ [] = nil_from_length c.args.ancestor.now (eqb-true (length c.args.ancestor.now) 0 (sym c.is_empty.ensures ∙ c.if-is_empty.true)) in
    let whole : c.args.facet.now ≡ c.args.ancestor.now ++ c.in-Some-split_first.first.now ∷ c.in-Some-split_first.field-0-1.now = c.in-Some.ensures ∙ ap (λ l. c.args.ancestor.now ++ l) c.in-Some-split_first.ensures.cases.0 in
    (λ t. rw root (Descends-root c.in-Some-split_first.first.now c.in-Some-split_first.field-0-1.now c.args.facet.now (rw root at whole)), λ d. c.if-is_empty.true)

pub returns-else-is_empty : goal.returns-else-is_empty
returns-else-is_empty c =
    let not_root : c.args.ancestor.now ≢ [] = λ e. false_true (sym c.if-is_empty.false ∙ c.is_empty.ensures ∙ eq-eqb (length c.args.ancestor.now) 0 (ap length e)) in
    let whole : c.args.facet.now ≡ c.args.ancestor.now ++ c.in-Some-split_first.first.now ∷ c.in-Some-split_first.field-0-1.now = c.in-Some.ensures ∙ ap (λ l. c.args.ancestor.now ++ l) c.in-Some-split_first.ensures.cases.0 in (
      λ t. let zero = eqb-true c.in-Some-split_first.first.now 0 t in
          rw (whole, zero) (Descends-from_rest c.args.ancestor.now c.in-Some-split_first.field-0-1.now not_root),
      λ d. eq-eqb c.in-Some-split_first.first.now 0 (Descends-first c.args.ancestor.now c.args.facet.now c.in-Some-split_first.first.now c.in-Some-split_first.field-0-1.now whole not_root d),
    )

pub returns-in-None : goal.returns-in-None
returns-in-None c =
    let same : c.args.facet.now ≡ c.args.ancestor.now = c.in-Some.ensures ∙ ap (λ l. c.args.ancestor.now ++ l) (nil_from_length c.in-Some.rest.now c.in-None.ensures.cases) ∙ append-nil c.args.ancestor.now in
    (λ t. absurd (false_true t), λ d. absurd (Descends-itself c.args.ancestor.now c.args.facet.now same d))
