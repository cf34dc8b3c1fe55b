-- Several runs have one next pair.
use Rattle.std.proofs.Common.{◌≡◌, ◌∙◌, ◌-◌, ◌^◌, min, ℕ, Bool, true, false, List, [], ◌∷◌, Ok, refl, sym, ap, subst}
use Rattle.std.proofs.lemmas.Cmp.{nat_list_cmp_total}
use Rattle.std.specs.Cmp.Lexicographic.{slice_cmp}
use Rattle.std.specs.FinMap.{nat_cmp-IsAntisymmetric, slice_cmp-IsAntisymmetric}
use Rattle.std.specs.Ordering.{is_gt, nat_cmp, ordering_reverse}
use Rattle.std.specs.Prelude.{All, sum_by}
use Rattle.std.specs.declared.cmp.Ordering.{Ordering}
use Rattle.std.specs.declared.cmp.Ordering.TheVariants.{Less, Equal, Greater}
use Rattle.tv_base.specs.declared.source.ByteSource.{Ghosts}
use Rattle.tv_lines.specs.TermRuns.{BeginsWith, BeginsWithNoneBefore, IsAtMost, IsLeast, MergesNext, Pair, count_of}
use Rattle.tv_lines.specs.declared.term_runs.RunReader.{RunReader}

-- two terms, neither of which comes after the other, are one
at_most_both : (one other : List ℕ) (o : Ordering) → slice_cmp nat_cmp one other ≡ o → IsAtMost one other → IsAtMost other one → one ≡ other
at_most_both one other Less is h k = let turned : is_gt (slice_cmp nat_cmp other one) ≡ true = ap is_gt (nat_list_cmp_total.antisymm other one) ∙ ap (λ (z : Ordering). is_gt (ordering_reverse z)) is in absurd (cc (turned, k))
at_most_both one other Equal is h k = slice_cmp-IsAntisymmetric nat_cmp-IsAntisymmetric one other is
at_most_both one other Greater is h k = let after : is_gt (slice_cmp nat_cmp one other) ≡ true = ap is_gt is in absurd (cc (after, h))

none_before : (one other : List ℕ) (run : List Pair) → BeginsWith one run → BeginsWithNoneBefore other run → IsAtMost other one
none_before one other [] begins none = absurd begins
none_before one other (p ∷ ps) begins none = subst (IsAtMost other) begins none

at_most : (runs : List (List Pair)) (one other : List ℕ) → IsLeast one runs → IsLeast other runs → IsAtMost other one
at_most runs one other h k =
    let begins = h.begins in
    none_before one other begins.1 begins.4 (subst (BeginsWithNoneBefore other) begins.3 (k.least begins.0 begins.1 begins.2))

least_one : (runs : List (List Pair)) (one other : List ℕ) → IsLeast one runs → IsLeast other runs → one ≡ other
least_one runs one other h k = at_most_both one other (slice_cmp nat_cmp one other) refl (at_most runs other one k h) (at_most runs one other h k)

-- none begins where nothing is left
not_least : (runs : List (List Pair)) (term : List ℕ) → IsLeast term runs → All (λ pairs. pairs ≡ []) runs → ⊥
not_least runs term h none =
    let begins = h.begins in
    subst (BeginsWith term) (sym begins.3 ∙ none begins.0 begins.1 begins.2) begins.4

module _ {S : Type 0} (source : Ghosts S) (readers others : List (RunReader S)) (runs : List (List Pair)) where
  pub merges_one : (pair other : Pair) (more also : Bool) → MergesNext source readers runs pair (Ok more) → MergesNext source others runs other (Ok also) → (more ≡ also) × (more ≡ true → pair ≡ other)
  merges_one pair other true true h k =
      let term = least_one runs pair.0 other.0 h.0 k.0 in
      let count : pair.1 ≡ other.1 = h.1 ∙ ap (λ (t : List ℕ). min (sum_by (count_of t) runs) (2 ^ 64 - 1)) term ∙ sym k.1 in
      let same : pair ≡ other = λ i. (term i, count i) in
      (refl, (λ is. same))
  merges_one pair other true false h k = absurd (not_least runs pair.0 h.0 k.0)
  merges_one pair other false true h k = absurd (not_least runs other.0 k.0 h.0)
  merges_one pair other false false h k = (refl, (λ is. absurd (cc (is))))
