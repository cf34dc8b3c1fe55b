-- Lists gone over, and what a clause wants.
use Rattle.std.proofs.Common.{◌≡◌, ◌↔◌, ℕ, ◌<◌, List, [], ◌∷◌, length, get_or, true, false, Some, sym, subst, inl, inr, slice_get}
use Rattle.std.specs.List.{Any}
use Rattle.tv_indexing.proofs.OneRange.{any_cons, any_rest}
use Rattle.tv_query.specs.Selections.{AreOfFirst}
use Rattle.tv_term.specs.Range.{HasPrefixed}
use Rattle.tv_term.specs.declared.range.TermRange.{TermRange}

-- ---- some element

-- the elements that are left have one exactly where all have, and the next is none
pub any_left : {X : Type 0} (P : X → Type 0) (whole left next : List X) (x : X) → left ≡ x ∷ next → (P x → ⊥) → Any P whole ↔ Any P left → Any P whole ↔ Any P next
any_left P whole left next x cut fails same = (
  λ a. elim (any_cons P x next (subst (Any P) cut (same.0 a))) [ inl p ↦ absurd (fails p) | inr n ↦ n ],
  λ n. same.1 (subst (Any P) (sym cut) (any_rest P x next n)),
)

pub found_in : {X : Type 0} (P : X → Type 0) (xs ys : List X) (k : ℕ) (x : X) → ys ≡ xs → k < length ys → x ≡ get_or ys k x → P x → Any P xs
found_in P xs ys k x same lt is p = subst (Any P) same (k, x, lt, sym is, p)

pub not_true : false ≡ true → ⊥
not_true e = absurd (cc)

-- ---- ranges

pub of_first : (terms : List (List ℕ)) (first : List ℕ) (range : TermRange) (ranges : List TermRange) → Some first ≡ slice_get terms 0 → HasPrefixed first range → ranges ≡ range ∷ [] → AreOfFirst terms ranges
of_first [] first range ranges is has one = absurd (cc)
of_first (t ∷ ts) first range ranges is has one = let same : first ≡ t = cc in (range, one, subst (λ (l : List ℕ). HasPrefixed l range) same has)
