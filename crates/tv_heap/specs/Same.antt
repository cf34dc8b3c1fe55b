-- Pairs of values of documents, and what is known of two lists whose children are compared pair by pair.
use Rattle.std.specs.Prelude.{◌≡◌, ◌<◌, ◌⊎◌, ℕ, Bool, true, false, Option, Some, None}
use Rattle.tv_format.specs.Size.{size}
use Rattle.tv_heap.specs.Value.{tree_of}
use Rattle.tv_heap.specs.declared.same.Pair.{Pair}
use Rattle.tv_heap.specs.declared.same.Compared.{Compared}
use Rattle.tv_heap.specs.declared.same.Compared.TheVariants.{Differ, Same, Like}
use Rattle.tv_value.specs.Same.{tree_eq}

-- whether both are one
abbrev pub pair_eq : Pair → Bool
pair_eq p = tree_eq (tree_of p.one) (tree_of p.other)

abbrev pub left_eq : Option Pair → Bool
left_eq None = true
left_eq (Some p) = pair_eq p

abbrev pub compared_eq : Compared → Bool
compared_eq Differ = false
compared_eq Same = true
compared_eq (Like p) = pair_eq p

-- the first value has fewer leaves and lists than this many
abbrev pub Smaller : ℕ → Pair → Type 0
Smaller n p = size (tree_of p.one) < n

abbrev pub IsLeft : (Pair → Type 0) → Compared → Type 0
IsLeft P Differ = Unit {0}
IsLeft P Same = Unit {0}
IsLeft P (Like p) = P p

-- one of the pairs that came, and the other one
abbrev pub SortsPairs : Option Pair → Pair → Pair × Option Pair → Type 0
SortsPairs before next sorted = ((sorted.0 ≡ next) × (sorted.1 ≡ before))
    ⊎ ((before ≡ Some sorted.0) × (sorted.1 ≡ Some next))
