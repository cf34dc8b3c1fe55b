use Rattle.std.proofs.Common.{◌≡◌, ◌++◌, ◌∷◌, [], String, Global, List, map, rules, arith, append-nil, refl, sym, ap, subst, ◌∙◌}
use Rattle.std.proofs.lemmas.Bool.{false≢true}
use Rattle.std.proofs.lemmas.List.{append_assoc}
use Rattle.std.specs.List.{Contains}
use Rattle.tv_value.specs.declared.field.Field.{Field}
use Rattle.tv_doc.specs.SameTexts.{HasAll, text_seen, texts_seen}
use Rattle.tv_doc.proofs.FieldTexts.{all_more, is_seen, seen_among}
use Rattle.tv_doc.proofs.document.has_all.Goals as goal

pub loop-text-init : goal.loop-text-init
loop-text-init c = ([], sym c.into_iter-text-iterator.ensures.into_iter_gives.0, λ pair none. absurd (omega (arith, none.1)))

pub returns-then-not-contains : goal.returns-then-not-contains
returns-then-not-contains c =
    let k : Field × String Global = c.in-Some.text.now in
    let before = c.loop-text.invariant.0 in
    let rest : List (Field × String Global) = c.next.new.self in
    let cut : ◌≡◌ {A = List (Field × String Global)} c.loop-text.text-iterator (k ∷ rest) = search rules in
    let whole : c.args.others.now.keys ≡ before ++ k ∷ rest = c.loop-text.invariant.1 ∙ ap (λ (l : List (Field × String Global)). before ++ l) cut in
    let there : Contains (texts_seen c.args.others.now) (text_seen k) = subst (λ (l : List (Field × String Global)). Contains (map text_seen l) (text_seen k)) (sym whole) (seen_among before k rest) in (
      λ is. absurd (false≢true is),
      λ all. absurd (false≢true (sym c.if-not-contains.true ∙ c.contains.ensures ∙ (is_seen k c.args.texts.now.keys).1 (all (text_seen k) there))),
    )

pub loop-text-preserved : goal.loop-text-preserved
loop-text-preserved c =
    let k : Field × String Global = c.in-Some.text.now in
    let before = c.loop-text.invariant.0 in
    let rest : List (Field × String Global) = c.next.new.self in
    let cut : ◌≡◌ {A = List (Field × String Global)} c.loop-text.text-iterator (k ∷ rest) = search rules in
    let whole : c.args.others.now.keys ≡ before ++ k ∷ rest = c.loop-text.invariant.1 ∙ ap (λ (l : List (Field × String Global)). before ++ l) cut in
    let this = (is_seen k c.args.texts.now.keys).0 (sym c.contains.ensures ∙ c.if-not-contains.false) in (
      before ++ k ∷ [],
      whole ∙ sym (append_assoc before (k ∷ []) rest),
      all_more (texts_seen c.args.texts.now) before k c.loop-text.invariant.2 this,
    )

pub returns : goal.returns
returns c =
    let before = c.loop-text.invariant.0 in
    let none : ◌≡◌ {A = List (Field × String Global)} c.loop-text.text-iterator [] = search rules in
    let whole : c.args.others.now.keys ≡ before = c.loop-text.invariant.1 ∙ ap (λ (l : List (Field × String Global)). before ++ l) none ∙ append-nil before in (
      λ _. subst (λ (l : List (Field × String Global)). HasAll (texts_seen c.args.texts.now) (map text_seen l)) (sym whole) c.loop-text.invariant.2,
      λ _. refl,
    )
