-- What is read of documents that stand one after the other.
use Rattle.std.specs.Prelude.{◌≡◌, ◌<◌, ℕ, Bool, true, false, List, [], ◌∷◌, Option, Some, None, Result, Ok}
use Rattle.std.specs.Prelude.{Err}
use Rattle.tv_base.specs.declared.cause.Cause.TheVariants.{UnexpectedEnd}
use Rattle.tv_reader.specs.declared.error.DeserializeError.{DeserializeError}
use Rattle.tv_reader.specs.declared.error.DeserializeError.TheVariants as errors
use Rattle.tv_store.specs.Documents.{SaysNothing}
use Rattle.tv_store.specs.declared.limits.ReadLimit.TheVariants as limit
use Rattle.tv_store.specs.declared.limits.LimitedReadError.{LimitedReadError}
use Rattle.tv_store.specs.declared.limits.LimitedReadError.TheVariants as limited

-- What reading a document would have returned, which calls the end of the block an error.
abbrev pub read_or : {D E : Type 0} → E → Result Bool E → D → Result D E
read_or end (Ok true) document = Ok document
read_or end (Ok false) document = Err end
read_or end (Err error) document = Err error

-- that is an unexpected end
abbrev pub as_read : {D : Type 0} → Result Bool DeserializeError → D → Result D DeserializeError
as_read result document = read_or (errors.CorruptedValue UnexpectedEnd) result document

-- the same within limits
abbrev pub as_read_within : {D : Type 0} → Result Bool LimitedReadError → D → Result D LimitedReadError
as_read_within result document = read_or (limited.Read (errors.CorruptedValue UnexpectedEnd)) result document

-- the same of a document that isn't kept
abbrev pub as_passed : Result Bool DeserializeError → Result (Unit {0}) DeserializeError
as_passed result = as_read result (tt {0})

-- ---- the end

-- there was no further document, unless an error came that may come all the same
abbrev pub SaysEndBut : {E : Type 0} → (E → Type 0) → Result Bool E → Type 0
SaysEndBut MayCome (Ok true) = ⊥
SaysEndBut MayCome (Ok false) = Unit {0}
SaysEndBut MayCome (Err error) = MayCome error

-- the same where the source failed or memory was refused, whatever the limits are: only a
-- document that is there passes one
abbrev pub SaysNothingWithin : LimitedReadError → Type 0
SaysNothingWithin (limited.Read error) = SaysNothing error
SaysNothingWithin (limited.Limit passed) = ⊥

-- What was read, or nothing, by what reading it returned, which error says that the bytes end early, and how
-- many were taken: there was nothing where they end early and none was taken. Any other error is returned.
abbrev pub NextOf : {T E : Type 0} → E → Result T E → ℕ → Result (Option T) E → Type 0
NextOf end (Ok value) taken result = result ≡ Ok (Some value)
NextOf end (Err failed) taken (Ok (Some value)) = ⊥
NextOf end (Err failed) taken (Ok None) = (failed ≡ end) × (taken ≡ 0)
NextOf end (Err failed) taken (Err error) = (error ≡ failed) × (failed ≡ end → 0 < taken)

-- ---- for private clauses

-- the same, where only whether there was something is said
abbrev pub next_if : {E : Type 0} → Result Bool E → Result (Option (Unit {0})) E
next_if (Ok true) = Ok (Some (tt {0}))
next_if (Ok false) = Ok None
next_if (Err error) = Err error

-- What is seen where no byte of a document may be taken: there is none, or one, whose first byte was
-- taken; or the source failed.
abbrev pub SeesNext : Type 0 → List ℕ → List ℕ → Result (Unit {0}) LimitedReadError → Type 0
SeesNext IsKnown old new (Ok value) = ⊥
SeesNext IsKnown old new (Err (limited.Limit limit.Bytes)) = IsKnown → (byte : ℕ) × (old ≡ byte ∷ new)
SeesNext IsKnown old new (Err (limited.Read (errors.CorruptedValue UnexpectedEnd))) = IsKnown → (old ≡ [])
    × (new ≡ [])
SeesNext IsKnown old new (Err (limited.Read (errors.Io kind))) = IsKnown → new ≡ old
SeesNext IsKnown old new (Err error) = ⊥
