-- Pairs of a child and a document that has a facet at or below it.
use Rattle.std.specs.Prelude.{ℕ, ◌≡◌, ◌↔◌, List}
use Rattle.std.specs.Borrow.{Bor}
use Rattle.std.specs.List.{AllByRecursion, Contains}
use Rattle.std.specs.List.Sorted.{IsStrictlySortedBy}
use Rattle.std.specs.Ordering.{nat_cmp, ordering_then}
use Rattle.std.specs.Cmp.Lexicographic.{slice_cmp}
use Rattle.std.specs.declared.cmp.Ordering.{Ordering}
use Rattle.tv_base.specs.FacetCounting.{IsChild}
use Rattle.tv_base.specs.DocumentCounting.{documents_within}

abbrev pub pair_of : Bor (List ℕ) × ℕ → List ℕ × ℕ
pair_of pair = (pair.0.now, pair.1)

-- by the child, and then by the document
abbrev pub pair_cmp : List ℕ × ℕ → List ℕ × ℕ → Ordering
pair_cmp one other = ordering_then (slice_cmp nat_cmp one.0 other.0) (nat_cmp one.1 other.1)

-- children of the ancestor, with the documents that have a facet at or below each
pub record ArePairs (ancestor : List ℕ) (facets pairs : List (List ℕ × ℕ)) : Type 0 where
  pub children : AllByRecursion (λ pair. IsChild ancestor pair.0) pairs
  pub documents : (child : List ℕ) → IsChild ancestor child
      → documents_within child pairs ≡ documents_within child facets

-- the same pairs, each once and rising
pub record HasEachOnce (old new : List (List ℕ × ℕ)) : Type 0 where
  pub rising : IsStrictlySortedBy pair_cmp new
  pub contains : (pair : List ℕ × ℕ) → Contains old pair ↔ Contains new pair
