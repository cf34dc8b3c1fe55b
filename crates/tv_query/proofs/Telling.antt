-- Terms that a matcher takes, one after the other.
use Rattle.std.proofs.Common.{◌≡◌, ◌⊎◌, ℕ, zero, suc, ◌+◌, ◌<◌, ◌≤◌, List, [], ◌∷◌, ◌++◌, length, get_or, Bool, false, Some, Ok, Err, append-nil, slice_get, set, refl, sym, ap, ◌∙◌, subst, inl, inr, arith}
use Rattle.std.proofs.lemmas.Bool.{cases_lt}
use Rattle.std.proofs.lemmas.Grind.{get_or-set_at}
use Rattle.std.proofs.lemmas.List.{get_or-set_other, length-set}
use Rattle.std.proofs.lemmas.Option.{get_or_from_slice_get}
use Rattle.std.specs.List.{Any}
use Rattle.tv_indexing.specs.DocumentTerms.{Terms}
use Rattle.tv_indexing.specs.Visits.{TakesAll, TakesSome}
use Rattle.tv_query.specs.Matching.{AreTold, HasTaken, IsTested, IsTold}
use Rattle.tv_query.specs.Selections.{IsWanted}
use Rattle.tv_query.specs.declared.matching.QueryMatcher.{QueryMatcher}
use Rattle.tv_query.specs.declared.query.Step.{Step}
use Rattle.tv_query.specs.declared.query.Step.TheVariants as steps
use Rattle.tv_indexing.proofs.OneRange.{any_cons, any_rest}

-- those before this place are tested, and the others aren't yet
abbrev pub TestedTo : List ℕ → List Step → List Bool → List Bool → ℕ → Type 0
TestedTo term query old now i = (length now ≡ length old)
    × ((k : ℕ) (step : Step) → slice_get query k ≡ Some step → k < i → IsTested term step (get_or old k false) (get_or now k false)) × ((k : ℕ) → i ≤ k → get_or now k false ≡ get_or old k false)

any_first : {X : Type 0} (P : X → Type 0) (x : X) (xs : List X) → P x → Any P (x ∷ xs)
any_first P x xs p = (zero, x, omega arith, refl, p)

any_none : {X : Type 0} (P : X → Type 0) → Any P [] → ⊥
any_none P a = absurd (omega (arith, a.2))

any_before : {X : Type 0} (P : X → Type 0) (xs : List X) (y : X) → Any P xs → Any P (xs ++ y ∷ [])
any_before P [] y a = absurd (any_none P a)
any_before P (x ∷ xs) y a = elim (any_cons P x xs a) [ inl p ↦ any_first P x (xs ++ y ∷ []) p | inr b ↦ any_rest P x (xs ++ y ∷ []) (any_before P xs y b) ]

any_last : {X : Type 0} (P : X → Type 0) (xs : List X) (y : X) → P y → Any P (xs ++ y ∷ [])
any_last P [] y p = any_first P y [] p
any_last P (x ∷ xs) y p = any_rest P x (xs ++ y ∷ []) (any_last P xs y p)

any_either : {X : Type 0} (P : X → Type 0) (xs : List X) (y : X) → Any P (xs ++ y ∷ []) → Any P xs ⊎ P y
any_either P [] y a = elim (any_cons P y [] a) [ inl p ↦ inr p | inr b ↦ absurd (any_none P b) ]
any_either P (x ∷ xs) y a = elim (any_cons P x (xs ++ y ∷ []) a) [ inl p ↦ inl (any_first P x xs p) | inr b ↦ elim (any_either P xs y b) [ inl h ↦ inl (any_rest P x xs h) | inr p ↦ inr p ] ]

-- a term more
told_on : (terms : List (List ℕ)) (term : List ℕ) (step : Step) (before after : Bool) → IsTested term step before after → IsTold terms step before → IsTold (terms ++ term ∷ []) step after
told_on terms term (steps.Clause s) before after tested told = (
  λ t. elim (tested.0 t) [ inl b ↦ any_before (IsWanted s) terms term (told.0 b) | inr w ↦ any_last (IsWanted s) terms term w ],
  λ a. tested.1 (elim (any_either (IsWanted s) terms term a) [ inl b ↦ inl (told.1 b) | inr w ↦ inr w ]),
)
told_on terms term steps.Not before after tested told = tt
told_on terms term steps.And before after tested told = tt
told_on terms term steps.Or before after tested told = tt

found_within : {X : Type 0} (xs : List X) (k : ℕ) (x : X) → slice_get xs k ≡ Some x → k < length xs
found_within [] k x is = absurd (cc)
found_within (y ∷ xs) zero x is = omega arith
found_within (y ∷ xs) (suc k) x is = omega (arith, found_within xs k x is)

-- one place more is
pub tested_one : (term : List ℕ) (query : List Step) (old now : List Bool) (i : ℕ) (step : Step) (told made : Bool) → i < length now → slice_get query i ≡ Some step → told ≡ get_or now i false → IsTested term step told made → TestedTo term query old now i
    → TestedTo term query old (set now i made) (i + 1)
tested_one term query old now i step told made within at is tested before = (
  length-set now i made ∙ before.0,
  λ k s found below. elim (cases_lt k i) [
    | inl less ↦ subst (λ (b : Bool). IsTested term s (get_or old k false) b) (sym (get_or-set_other now i k made false (λ e. omega (arith, e, less)))) (before.1 k s found less)
    | inr more ↦
        let e : k ≡ i = omega (arith, more, below) in
        let same : step ≡ s = sym (get_or_from_slice_get query i step step at) ∙ ap (λ j. get_or query j step) (sym e) ∙ get_or_from_slice_get query k s step found in
        let was : told ≡ get_or old k false = is ∙ ap (λ j. get_or now j false) (sym e) ∙ before.2 k more in
        let first = subst (λ (x : Step). IsTested term x told made) same tested in
        let second = subst (λ (a : Bool). IsTested term s a made) was first in
        subst (λ (b : Bool). IsTested term s (get_or old k false) b) (sym (get_or-set_at now i k made false e within)) second
  ],
  λ k above. get_or-set_other now i k made false (λ e. omega (arith, e, above)) ∙ before.2 k (omega (arith, above)),
)

-- all are
pub all_tested : (term : List ℕ) (query : List Step) (old now : List Bool) (i : ℕ) → length query ≤ i → TestedTo term query old now i → (terms : List (List ℕ)) → AreTold terms query old → AreTold (terms ++ term ∷ []) query now
all_tested term query old now i done tested = λ terms told k step found. told_on terms term step (get_or old k false) (get_or now k false) (tested.1 k step found (omega (arith, found_within query k step found, done))) (told k step found)

-- the same truths
pub told_same : (terms : List (List ℕ)) (query : List Step) (old new : List Bool) → ((k : ℕ) → get_or new k false ≡ get_or old k false) → AreTold terms query old → AreTold terms query new
told_same terms query old new same told = λ k step found. subst (λ (b : Bool). IsTold terms step b) (sym (same k)) (told k step found)

-- ---- what a matcher takes as a visitor

abbrev pub Since : QueryMatcher → QueryMatcher → List (List ℕ) → Type 0
Since start now terms = (now.query.now ≡ start.query.now) × ((before : List (List ℕ)) → AreTold before start.query.now.steps.items start.wanted.items → AreTold (before ++ terms) now.query.now.steps.items now.wanted.items)

since_start : (matcher : QueryMatcher) → Since matcher matcher []
since_start matcher = (refl, λ before told. subst (λ (ts : List (List ℕ)). AreTold ts matcher.query.now.steps.items matcher.wanted.items) (sym (append-nil before)) told)

pub all_taken : (old new : QueryMatcher) (t : Terms) → HasTaken [] old → TakesAll Since old new t → (made : List (List ℕ)) × (t ≡ Ok made) × (new.query.now ≡ old.query.now) × HasTaken made new
all_taken old new (Ok made) none h = let s = h old [] (since_start old) in (made, refl, s.0, s.1 [] none)
all_taken old new (Err e) none h = absurd h

pub same_query : (old new : QueryMatcher) → TakesSome Since old new → new.query.now ≡ old.query.now
same_query old new h = (h.1 old [] (since_start old)).0
