-- What a read does to the bytes that a source has left, and to its count of failures.
use Rattle.std.specs.Prelude.{◌≡◌, ℕ, ◌+◌, ◌-◌, ◌^◌, ◌<◌, ◌≤◌, min, List, [], ◌∷◌, ◌++◌, length, take, All}
use Rattle.std.specs.Prelude.{Result, Ok, Err, Option, Some, None}
use Rattle.std.specs.declared.io.ErrorKind.{ErrorKind}

-- each number is a byte
abbrev pub AllBytes : List ℕ → Type 0
AllBytes bytes = All (λ b. b < 256) bytes

-- The n bytes that a read gave are the prefix of what was left. It gives none only at the end or with no
-- room, and an error takes none.
abbrev pub GivesSome : {E : Type 0} → List ℕ → List ℕ → Result ℕ E → List ℕ → Type 0
GivesSome old new (Ok n) buf = (old ≡ take n buf ++ new) × (n ≡ 0 → 0 < length buf → old ≡ [])
GivesSome old new (Err e) buf = new ≡ old

-- The byte that was given is the first of those that were left. None is given only at the end, and an error
-- takes none.
abbrev pub GivesFirst : {E : Type 0} → List ℕ → List ℕ → Result (Option ℕ) E → Type 0
GivesFirst old new (Ok (Some byte)) = old ≡ byte ∷ new
GivesFirst old new (Ok None) = (old ≡ []) × (new ≡ [])
GivesFirst old new (Err e) = new ≡ old

-- a count of failures has risen, or is the largest that is counted
abbrev pub HasRisen : ℕ → ℕ → Type 0
HasRisen old new = min (old + 1) (2 ^ 64 - 1) ≤ new

-- how many reads or writes have failed, and of what kind the last of these failures was
pub record Failures : Type 0 where
  pub number : ℕ
  pub last : Option ErrorKind

-- there was a failure more, and the last is of this kind
pub record HasFailed (kind : ErrorKind) (old new : Failures) : Type 0 where
  pub counted : HasRisen old.number new.number
  pub kept : new.last ≡ Some kind

-- each error is counted and its kind kept, and nothing else is
abbrev pub CountsFailure : {T : Type 0} → Result T ErrorKind → Failures → Failures → Type 0
CountsFailure (Ok x) old new = new ≡ old
CountsFailure (Err kind) old new = HasFailed kind old new
