-- Pairs have one list of groups.
use Rattle.std.proofs.Common.{◌≡◌, ◌⊎◌, ◌∙◌, ℕ, zero, suc, List, [], ◌∷◌, inl, inr, map, refl, sym, ap, subst, arith}
use Rattle.std.specs.Prelude.{Contains}
use Rattle.std.specs.List.{AllByRecursion}
use Rattle.std.specs.List.Sorted.{IsStrictlySortedBy}
use Rattle.std.specs.Ordering.{nat_cmp, ordering_reverse}
use Rattle.std.specs.declared.cmp.Ordering.TheVariants.{Less}
use Rattle.std.proofs.lemmas.Cmp.{nat_cmp_total}
use Rattle.std.proofs.lemmas.Map.Keys.{sorted_from_strictly_increasing}
use Rattle.tv_doc.specs.FieldValues.{values_of}
use Rattle.tv_doc.specs.Grouped.{IsGrouped}

first_or_later : (y : ℕ) (ys : List ℕ) (x : ℕ) → Contains (y ∷ ys) x → (y ≡ x) ⊎ Contains ys x
first_or_later y ys x (zero, less, is) = inl is
first_or_later y ys x (suc k, less, is) = inr (k, omega (arith, less), is)

is_later : (y : ℕ) (ys : List ℕ) (x : ℕ) → Contains ys x → Contains (y ∷ ys) x
is_later y ys x (k, less, is) = (suc k, omega (arith, less), is)

of_all : (P : ℕ → Type 0) (ys : List ℕ) (x : ℕ) → AllByRecursion P ys → Contains ys x → P x
of_all P [] x all (k, less, is) = absurd (omega (arith, less))
of_all P (y ∷ ys) x all (zero, less, is) = subst P is all.0
of_all P (y ∷ ys) x all (suc k, less, is) = of_all P ys x all.1 (k, omega (arith, less), is)

not_both_less : (x y : ℕ) → nat_cmp x y ≡ Less → nat_cmp y x ≡ Less → ⊥
not_both_less x y less more =
    let no : Less ≡ ordering_reverse Less = sym less ∙ nat_cmp_total.antisymm x y ∙ ap ordering_reverse more in
    absurd (cc (no))

abbrev Rising : List ℕ → Type 0
Rising xs = IsStrictlySortedBy nat_cmp xs

abbrev Within : List ℕ → List ℕ → Type 0
Within xs ys = (x : ℕ) → Contains xs x → Contains ys x

same_first : (x y : ℕ) (xs ys : List ℕ) → Rising (x ∷ xs) → Rising (y ∷ ys) → Within (x ∷ xs) (y ∷ ys) → Within (y ∷ ys) (x ∷ xs) → x ≡ y
unfolding IsStrictlySortedBy
same_first x y xs ys rises climbs there back =
    elim (first_or_later y ys x (there x (zero, omega arith, refl))) [
      | inl same ↦ sym same
      | inr later ↦ elim (first_or_later x xs y (back y (zero, omega arith, refl))) [
        | inl same ↦ same
        | inr behind ↦ absurd (not_both_less x y (of_all (λ z. nat_cmp x z ≡ Less) xs y rises.0 behind) (of_all (λ z. nat_cmp y z ≡ Less) ys x climbs.0 later))
      ]
    ]

others_within : (x y : ℕ) (xs ys : List ℕ) → x ≡ y → Rising (x ∷ xs) → Within (x ∷ xs) (y ∷ ys) → Within xs ys
unfolding IsStrictlySortedBy
others_within x y xs ys same rises there = λ z has.
    elim (first_or_later y ys z (there z (is_later x xs z has))) [
      | inr later ↦ later
      | inl first ↦ let less = of_all (λ w. nat_cmp x w ≡ Less) xs z rises.0 has in
          let itself : nat_cmp x x ≡ Less = subst (λ (w : ℕ). nat_cmp x w ≡ Less) (sym first ∙ sym same) less in
          absurd (not_both_less x x itself itself)
    ]

one_rising : (xs ys : List ℕ) → Rising xs → Rising ys → Within xs ys → Within ys xs → xs ≡ ys
unfolding IsStrictlySortedBy
one_rising [] [] rises climbs there back = refl
one_rising [] (y ∷ ys) rises climbs there back = let none = back y (zero, omega arith, refl) in absurd (omega (arith, none.1))
one_rising (x ∷ xs) [] rises climbs there back = let none = there x (zero, omega arith, refl) in absurd (omega (arith, none.1))
one_rising (x ∷ xs) (y ∷ ys) rises climbs there back =
    let first = same_first x y xs ys rises climbs there back in
    let others = one_rising xs ys rises.1 climbs.1 (others_within x y xs ys first rises there) (others_within y x ys xs (sym first) climbs back) in
    λ i. first i ∷ others i

pub one_grouping : {A : Type 0} (pairs : List (ℕ × A)) (groups others : List (ℕ × List A)) → IsGrouped pairs groups → IsGrouped pairs others → groups ≡ others
one_grouping pairs groups others g h =
    let same = one_rising g.fields h.fields (sorted_from_strictly_increasing g.fields g.rising) (sorted_from_strictly_increasing h.fields h.rising)
    (λ x has. (h.exact x).1 ((g.exact x).0 has)) (λ x has. (g.exact x).1 ((h.exact x).0 has)) in
    g.is ∙ ap (map (λ field. (field, values_of field pairs))) same ∙ sym h.is
