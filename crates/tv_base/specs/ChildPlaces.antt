-- The child of a facet that another facet is, or lies below, and the counts so far.
use Rattle.std.specs.Prelude.{ℕ, ◌≡◌, ◌≢◌, ◌+◌, ◌⊎◌, true, false, Option, None, Some, List, [], ◌∷◌, ◌++◌}
use Rattle.std.specs.Prelude.{map, option_map}
use Rattle.std.specs.Option.{option_to_list}
use Rattle.tv_base.specs.FacetCounting.{IsChild, is_within, entry_of}
use Rattle.tv_base.specs.declared.facet_counts.FacetCount.{FacetCount}

-- what stands before the last step of a child
abbrev pub front : List ℕ → List ℕ
front [] = []
front (b ∷ bs) = b ∷ (bs ++ 0 ∷ [])

-- the facet is no child of the ancestor, and not below one
abbrev pub HasNoChild : List ℕ → List ℕ → Type 0
HasNoChild ancestor facet = (child : List ℕ) → IsChild ancestor child → is_within child facet ≡ false

-- the facet is the child or below it
pub record IsChildAbove (ancestor facet child : List ℕ) : Type 0 where
  pub is_child : IsChild ancestor child
  pub is_above : is_within child facet ≡ true

-- the children that are done, and after them the current one
abbrev pub entries : List FacetCount → Option FacetCount → List (List ℕ × ℕ)
entries done current = map entry_of done ++ option_to_list (option_map entry_of current)

-- the current child with one facet more, or another one after it
abbrev pub GoesOn : List (List ℕ × ℕ) → List ℕ × ℕ → List ℕ → List (List ℕ × ℕ) → List ℕ × ℕ → Type 0
GoesOn done current child more last =
    ((current.0 ≡ child) × (more ≡ done) × (last ≡ (child, current.1 + 1)))
    ⊎ ((current.0 ≢ child) × (more ≡ done ++ current ∷ []) × (last ≡ (child, 1)))

-- the same, where there may be no current child before
abbrev pub CountsOne : List (List ℕ × ℕ) → Option (List ℕ × ℕ) → List ℕ → List (List ℕ × ℕ) → List ℕ × ℕ
    → Type 0
CountsOne done None child more last = (more ≡ done) × (last ≡ (child, 1))
CountsOne done (Some current) child more last = GoesOn done current child more last
