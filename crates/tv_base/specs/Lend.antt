-- What happens to the bytes that a source has left, where some of them are taken without a read.
use Rattle.std.specs.Prelude.{◌≡◌, ℕ, Bool, true, false, List, ◌++◌, length, Option, Some, None}
use Rattle.tv_base.specs.Number.{VNum}

-- Whether n bytes were taken off the start. If not, all are left.
abbrev pub Passes : List ℕ → List ℕ → ℕ → Bool → Type 0
Passes old new n true = (prefix : List ℕ) × (old ≡ prefix ++ new) × (length prefix ≡ n)
Passes old new n false = new ≡ old

-- Whether the content was taken off the start. If not, all are left.
abbrev pub TakesContent : List ℕ → List ℕ → List ℕ → Bool → Type 0
TakesContent old new content true = old ≡ content ++ new
TakesContent old new content false = new ≡ old

-- A number and the length of its encoding, which was taken off the start. If there is none, all are left.
abbrev pub PassesNumber : List ℕ → List ℕ → Option (ℕ × ℕ) → Type 0
PassesNumber old new (Some x) = (prefix : List ℕ) × VNum prefix x.0 × (old ≡ prefix ++ new)
    × (length prefix ≡ x.1)
PassesNumber old new None = new ≡ old
