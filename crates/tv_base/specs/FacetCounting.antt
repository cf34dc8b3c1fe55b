-- How many facets are at or below each child of a facet. All are given by their encoded texts.
use Rattle.std.specs.Prelude.{ℕ, ◌≡◌, ◌≢◌, ◌<◌, ◌↔◌, ◌&&◌, Bool, true, false, List, [], ◌∷◌, ◌++◌, length}
use Rattle.std.specs.Prelude.{map, bytes_eq, Result, Err, IfOk, IfErr}
use Rattle.std.specs.Borrow.{Bor}
use Rattle.std.specs.Global.{Vec}
use Rattle.std.specs.List.{AllByRecursion, filter}
use Rattle.std.specs.List.Sorted.{IsSortedByKey, IsStrictlySortedBy}
use Rattle.std.specs.Ordering.{nat_cmp}
use Rattle.std.specs.Cmp.Lexicographic.{slice_cmp}
use Rattle.tv_base.specs.Facet.{steps}
use Rattle.tv_base.specs.declared.facet_counts.FacetCount.{FacetCount}
use Rattle.tv_base.specs.declared.facet_counts.FacetCountsError.{FacetCountsError}
use Rattle.tv_base.specs.declared.facet_counts.FacetCountsError.TheVariants.{Memory, NotRising}

-- whether the first texts of the second list are those of the first one
abbrev pub begins_with : List (List ℕ) → List (List ℕ) → Bool
begins_with [] texts = true
begins_with (first ∷ others) [] = false
begins_with (first ∷ others) (text ∷ texts) = bytes_eq first text && begins_with others texts

-- whether the facet is the upper one or below it
abbrev pub is_within : List ℕ → List ℕ → Bool
is_within upper facet = begins_with (steps upper) (steps facet)

-- how many of the facets are the upper one or below it
abbrev pub count_within : List ℕ → List (List ℕ) → ℕ
count_within upper facets = length (filter (is_within upper) facets)

-- the child has one step more
abbrev pub IsChild : List ℕ → List ℕ → Type 0
IsChild ancestor child = (step : List ℕ) × (steps child ≡ steps ancestor ++ step ∷ [])

-- each facet is equal to the next or before it, in the order of facets
abbrev pub AreRising : List (Bor (List ℕ)) → Type 0
AreRising facets = IsSortedByKey (λ facet. facet.now) (slice_cmp nat_cmp) facets

-- a child of the ancestor at or below which there is a facet, and how many there are
pub record IsChildCount (ancestor : List ℕ) (facets : List (List ℕ)) (child : List ℕ)
    (count : ℕ) : Type 0 where
  pub is_child : IsChild ancestor child
  pub count_is : count ≡ count_within child facets
  pub has_facets : 0 < count

-- a child's encoded text and its count
abbrev pub entry_of : FacetCount → List ℕ × ℕ
entry_of counted = (counted.child.now, counted.count)

-- the children at or below which there is a facet, each once and rising, and how many there are for each
pub record AreChildCounts (ancestor : List ℕ) (facets : List (List ℕ))
    (counts : List (List ℕ × ℕ)) : Type 0 where
  pub each : AllByRecursion (λ entry. IsChildCount ancestor facets entry.0 entry.1) counts
  pub rising : IsStrictlySortedBy (slice_cmp nat_cmp) (map (λ entry. entry.0) counts)
  -- at or below any other child there is no facet
  pub others : (child : List ℕ) → IsChild ancestor child → AllByRecursion (λ entry. entry.0 ≢ child) counts
      → count_within child facets ≡ 0

-- What a call promises that counts facets.
--   counts      On success it returns the children of the ancestor and their counts.
--   not_rising  Its error is `NotRising` exactly where the facets aren't in rising order.
--   memory      Where they are, the only error is `Memory`.
pub record CountsChildren (ancestor : List ℕ) (facets : List (Bor (List ℕ)))
    (result : Result (Vec FacetCount) FacetCountsError) : Type 0 where
  pub counts : IfOk result (λ counts. AreChildCounts ancestor (map (λ facet. facet.now) facets)
      (map entry_of counts.items))
  pub not_rising : (result ≡ Err NotRising) ↔ (¬ AreRising facets)
  pub memory : AreRising facets → IfErr result (λ error. error ≡ Memory)
