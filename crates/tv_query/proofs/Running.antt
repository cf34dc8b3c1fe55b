-- Steps that are taken one after the other.
use Rattle.std.proofs.Common.{◌≡◌, ◌⊎◌, ◌↔◌, ◌&&◌, ◌||◌, ℕ, ◌+◌, ◌<◌, ◌≤◌, List, [], ◌∷◌, ◌++◌, length, take, get_or, Bool, not, true, false, IsTrue, refl, sym, subst, ap, ◌∙◌, inl, inr, append_assoc, append-nil}
use Rattle.std.proofs.lemmas.List.{take_all, take_more}
use Rattle.tv_query.specs.Grammar.{QueryTree, both, either, negation, selecting, steps_of}
use Rattle.tv_query.specs.Matching.{IsTruthOf, Matches}
use Rattle.tv_query.specs.declared.query.Step.{Step}
use Rattle.tv_query.specs.declared.query.Step.TheVariants as steps

-- the truths after the steps
abbrev pub Run : List (List ℕ) → List Bool → List Step → List Bool → Type 0
Run terms old [] new = new ≡ old
Run terms old (s ∷ ss) new = (rest : List Bool) × (truth : Bool) × IsTruthOf terms s old rest truth × Run terms (rest ++ truth ∷ []) ss new

run_more : (terms : List (List ℕ)) (old : List Bool) (ss : List Step) (mid : List Bool) (s : Step) (rest : List Bool) (truth : Bool) → Run terms old ss mid → IsTruthOf terms s mid rest truth → Run terms old (ss ++ s ∷ []) (rest ++ truth ∷ [])
run_more terms old [] mid s rest truth r is = (rest, truth, subst (λ (l : List Bool). IsTruthOf terms s l rest truth) r is, refl)
run_more terms old (t ∷ ts) mid s rest truth r is = (r.0, r.1, r.2, run_more terms (r.0 ++ r.1 ∷ []) ts mid s rest truth r.3 is)

pub run_next : (terms : List (List ℕ)) (given all : List Step) (i : ℕ) (s : Step) (mid rest new : List Bool) (truth : Bool) → given ≡ all → i < length given → s ≡ get_or given i s → Run terms [] (take i all) mid → IsTruthOf terms s mid rest truth
    → new ≡ rest ++ truth ∷ [] → Run terms [] (take (i + 1) all) new
run_next terms given all i s mid rest new truth same within is r told pushed =
    subst (λ (l : List Step). Run terms [] (take (i + 1) l) new) same
    (subst (λ (l : List Step). Run terms [] l new) (sym (take_more given i s within ∙ ap (λ (t : Step). take i given ++ t ∷ []) (sym is)))
    (subst (λ (l : List Bool). Run terms [] (take i given ++ s ∷ []) l) (sym pushed)
    (run_more terms [] (take i given) mid s rest truth (subst (λ (l : List Step). Run terms [] (take i l) mid) (sym same) r) told)))

not_iff : (a b : Bool) (P : Type 0) → b ≡ not a → IsTrue a ↔ P → IsTrue b ↔ ¬ P
not_iff true b P is same = (λ t. absurd (cc), λ n. absurd (n (same.0 refl)))
not_iff false b P is same = (λ t p. let f = same.1 p in absurd (cc), λ n. is)

and_iff : (a b c : Bool) (P Q : Type 0) → c ≡ (a && b) → IsTrue a ↔ P → IsTrue b ↔ Q → IsTrue c ↔ (P × Q)
and_iff true b c P Q is left right = (λ t. (left.0 refl, right.0 (sym is ∙ t)), λ p. is ∙ right.1 p.1)
and_iff false b c P Q is left right = (λ t. absurd (cc), λ p. let f = left.1 p.0 in absurd (cc))

or_iff : (a b c : Bool) (P Q : Type 0) → c ≡ (a || b) → IsTrue a ↔ P → IsTrue b ↔ Q → IsTrue c ↔ (P ⊎ Q)
or_iff true b c P Q is left right = (λ t. inl (left.0 refl), λ p. is)
or_iff false b c P Q is left right = (λ t. inr (right.0 (sym is ∙ t)), λ p. elim p [ inl l ↦ let f = left.1 l in absurd (cc) | inr r ↦ is ∙ right.1 r ])

two : (old : List Bool) (a b : Bool) → (old ++ a ∷ []) ++ b ∷ [] ≡ old ++ a ∷ b ∷ []
two old a b = append_assoc old (a ∷ []) (b ∷ [])

-- the steps of a tree leave its truth
run_tree : (terms : List (List ℕ)) (tree : QueryTree) (old : List Bool) (ss : List Step) (new : List Bool) → Run terms old (steps_of tree ++ ss) new → (truth : Bool) × (IsTrue truth ↔ Matches terms tree) × Run terms (old ++ truth ∷ []) ss new
run_tree terms (selecting selection) old ss new r = (r.1, r.2.1, subst (λ (l : List Bool). Run terms (l ++ r.1 ∷ []) ss new) r.2.0 r.3)
run_tree terms (negation tree) old ss new r =
    let i = run_tree terms tree old (steps.Not ∷ ss) new (subst (λ (l : List Step). Run terms old l new) (append_assoc (steps_of tree) (steps.Not ∷ []) ss) r) in
    let n = i.2 in
    let told = n.2 old i.0 refl in
    (n.1, not_iff i.0 n.1 (Matches terms tree) told.1 i.1, subst (λ (l : List Bool). Run terms (l ++ n.1 ∷ []) ss new) told.0 n.3)
run_tree terms (both left right) old ss new r =
    let parts = append_assoc (steps_of left) (steps_of right ++ steps.And ∷ []) ss ∙ ap (λ (l : List Step). steps_of left ++ l) (append_assoc (steps_of right) (steps.And ∷ []) ss) in
    let i = run_tree terms left old (steps_of right ++ steps.And ∷ ss) new (subst (λ (l : List Step). Run terms old l new) parts r) in
    let j = run_tree terms right (old ++ i.0 ∷ []) (steps.And ∷ ss) new i.2 in
    let n = j.2 in
    let told = n.2 old i.0 j.0 (two old i.0 j.0) in
    (n.1, and_iff i.0 j.0 n.1 (Matches terms left) (Matches terms right) told.1 i.1 j.1, subst (λ (l : List Bool). Run terms (l ++ n.1 ∷ []) ss new) told.0 n.3)
run_tree terms (either left right) old ss new r =
    let parts = append_assoc (steps_of left) (steps_of right ++ steps.Or ∷ []) ss ∙ ap (λ (l : List Step). steps_of left ++ l) (append_assoc (steps_of right) (steps.Or ∷ []) ss) in
    let i = run_tree terms left old (steps_of right ++ steps.Or ∷ ss) new (subst (λ (l : List Step). Run terms old l new) parts r) in
    let j = run_tree terms right (old ++ i.0 ∷ []) (steps.Or ∷ ss) new i.2 in
    let n = j.2 in
    let told = n.2 old i.0 j.0 (two old i.0 j.0) in
    (n.1, or_iff i.0 j.0 n.1 (Matches terms left) (Matches terms right) told.1 i.1 j.1, subst (λ (l : List Bool). Run terms (l ++ n.1 ∷ []) ss new) told.0 n.3)

pub matched : (terms : List (List ℕ)) (all : List Step) (tree : QueryTree) (i : ℕ) (truths left : List Bool) (answer : Bool) → length all ≤ i → Run terms [] (take i all) truths → all ≡ steps_of tree
    → ((before : List Bool) (a : Bool) → truths ≡ before ++ a ∷ [] → (left ≡ before) × (answer ≡ a)) → IsTrue answer ↔ Matches terms tree
matched terms all tree i truths left answer done r is last =
    let whole = subst (λ (l : List Step). Run terms [] l truths) (take_all i all done ∙ is ∙ sym (append-nil (steps_of tree))) r in
    let t = run_tree terms tree [] [] truths whole in
    subst (λ (b : Bool). IsTrue b ↔ Matches terms tree) (sym (last [] t.0 t.2).1) t.1

-- ---- two truths are taken off

pub both_off : (f : Bool → Bool → Bool) (old mid new : List Bool) (left right truth : Bool) → ((before : List Bool) (a : Bool) → old ≡ before ++ a ∷ [] → (mid ≡ before) × (right ≡ a))
    → ((before : List Bool) (a : Bool) → mid ≡ before ++ a ∷ [] → (new ≡ before) × (left ≡ a)) → truth ≡ f left right → (before : List Bool) (a b : Bool) → old ≡ before ++ a ∷ b ∷ [] → (new ≡ before) × (truth ≡ f a b)
both_off f old mid new left right truth last next is before a b whole =
    let r = last (before ++ a ∷ []) b (whole ∙ sym (two before a b)) in
    let l = next before a r.0 in
    (l.0, is ∙ ap (λ (x : Bool). f x right) l.1 ∙ ap (λ (x : Bool). f a x) r.1)
