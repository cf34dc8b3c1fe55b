-- Members whose keys rise.
use Rattle.std.specs.Prelude.{◌≡◌, ℕ, List, [], ◌∷◌, ◌++◌}
use Rattle.std.specs.Borrow.{Bor}
use Rattle.std.specs.Cmp.Lexicographic.{slice_cmp}
use Rattle.std.specs.Ordering.{nat_cmp}
use Rattle.std.specs.declared.cmp.Ordering.TheVariants.{Less, Greater}
use Rattle.serde_json.specs.Data.{Members, no_members, member}
use Rattle.tv_json.specs.declared.value.BorrowedJson.{BorrowedJson}

-- each of these keys is above this one
abbrev pub AreAbove : List ℕ → Members → Type 0
AreAbove k no_members = Unit {0}
AreAbove k (member l d ms) = (slice_cmp nat_cmp k l ≡ Less) × AreAbove k ms

-- each key is below those after it
abbrev pub Rise : Members → Type 0
Rise no_members = Unit {0}
Rise (member k d ms) = AreAbove k ms × Rise ms

-- this key is above the last one
abbrev pub EndsBelow : List ℕ → List (Bor (List ℕ) × BorrowedJson) → Type 0
EndsBelow k ms = (prefix : List (Bor (List ℕ) × BorrowedJson)) (m : Bor (List ℕ) × BorrowedJson)
    → ms ≡ prefix ++ m ∷ [] → slice_cmp nat_cmp k m.0.now ≡ Greater
