-- The children of a facet with the greatest counts. An entry is a child's encoded text and its count.
use Rattle.std.specs.Prelude.{ℕ, ◌≡◌, List, take}
use Rattle.std.specs.List.Sorted.{IsPermutation, IsSorted}
use Rattle.std.specs.Ordering.{nat_cmp, ordering_then}
use Rattle.std.specs.Cmp.Lexicographic.{slice_cmp}
use Rattle.std.specs.declared.cmp.Ordering.{Ordering}

-- greater counts come first, and of equal counts the least child
abbrev pub rank_cmp : List ℕ × ℕ → List ℕ × ℕ → Ordering
rank_cmp one other = ordering_then (nat_cmp other.1 one.1) (slice_cmp nat_cmp one.0 other.0)

-- the first ones of the entries by their rank, as many as are wanted at most
pub record AreGreatest (entries : List (List ℕ × ℕ)) (most : ℕ) (greatest : List (List ℕ × ℕ)) : Type 0 where
  pub ranked : List (List ℕ × ℕ)
  pub has_all : IsPermutation entries ranked
  pub by_rank : IsSorted rank_cmp ranked
  pub first : greatest ≡ take most ranked
