-- Which of some terms in rising order are in a range.
use Rattle.std.specs.Prelude.{◌≡◌, ◌-◌, ◌≤◌, ◌<◌, ℕ, Bool, true, false, List, length, take, drop}
use Rattle.std.specs.Prelude.{slice_index_or, Option, Some, None}
use Rattle.std.specs.Global.{Vec}
use Rattle.std.specs.List.{AllWithin}
use Rattle.std.specs.Ordering.{is_le, is_lt, nat_cmp}
use Rattle.std.specs.Cmp.Lexicographic.{slice_cmp}

abbrev pub is_below : List ℕ → List ℕ → Bool
is_below bytes others = is_lt (slice_cmp nat_cmp bytes others)

-- whether an end, if there is one, is below these bytes
abbrev pub ends_below : Option (Vec ℕ) → List ℕ → Bool
ends_below None bytes = false
ends_below (Some end) bytes = is_below end.items bytes

-- none is above a later one
abbrev pub IsRising : {T : Type 0} → (T → List ℕ) → List T → Type 0
IsRising {T} bytes terms = (i j : ℕ) (d : T) → i ≤ j → j < length terms
    → is_le (slice_cmp nat_cmp (bytes (slice_index_or terms i d)) (bytes (slice_index_or terms j d))) ≡ true

-- Some of them, from one place up to another, and of all just these are such ones.
pub record HasJust {T : Type 0} (bytes : T → List ℕ) (IsOne : List ℕ → Type 0)
    (terms part : List T) : Type 0 where
  pub start : ℕ
  pub end : ℕ
  pub order : start ≤ end
  pub inside : end ≤ length terms
  pub is_part : part ≡ take (end - start) (drop start terms)
  pub before : AllWithin (λ t. ¬ IsOne (bytes t)) terms 0 start
  pub all : AllWithin (λ t. IsOne (bytes t)) terms start end
  pub behind : AllWithin (λ t. ¬ IsOne (bytes t)) terms end (length terms)
