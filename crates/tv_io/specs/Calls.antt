-- What a source or a sink makes of one call of the reader or the writer of std.
use Rattle.std.specs.Prelude.{◌≡◌, ℕ, ◌+◌, ◌-◌, ◌^◌, zero, suc, min, List, [], ◌∷◌, Result, Ok, Err, Some}
use Rattle.std.specs.declared.io.ErrorKind.{ErrorKind}
use Rattle.std.specs.declared.io.ErrorKind.TheVariants.{WriteZero}
use Rattle.tv_base.specs.Source.{Failures}
use Rattle.tv_io.specs.declared.failures.CountedFailures.{CountedFailures}

-- the failures that were counted
abbrev pub failures_of : CountedFailures → Failures
failures_of counted = record { number = counted.number; last = counted.last }

-- one failure more is counted, up to 2 ^ 64 - 1, and its kind is kept
abbrev pub with_failure : ErrorKind → Failures → Failures
with_failure kind old = record { number = min (old.number + 1) (2 ^ 64 - 1); last = Some kind }

-- the failures once a call has returned this
abbrev pub failures_after : Result ℕ ErrorKind → Failures → Failures
failures_after (Ok n) old = old
failures_after (Err kind) old = with_failure kind old

-- what a read returned, with the kind of its error
abbrev pub of_read : {E : Type 0} → (E → ErrorKind) → Result ℕ E → Result ℕ ErrorKind
of_read kind (Ok n) = Ok n
of_read kind (Err e) = Err (kind e)

-- the same of a write of these bytes: where there are some, and none was taken, that is an error of kind
-- `WriteZero`
abbrev pub of_write : {E : Type 0} → (E → ErrorKind) → List ℕ → Result ℕ E → Result ℕ ErrorKind
of_write kind [] call = of_read kind call
of_write kind (byte ∷ bytes) (Ok zero) = Err WriteZero
of_write kind (byte ∷ bytes) (Ok (suc n)) = Ok (suc n)
of_write kind (byte ∷ bytes) (Err e) = Err (kind e)

-- an error is returned and counted once, and nothing else is counted
abbrev pub CountsOnce : Result ℕ ErrorKind → Result ℕ ErrorKind → Failures → Failures → Type 0
CountsOnce (Ok n) result old new = (result ≡ Ok n) × (new ≡ old)
CountsOnce (Err kind) result old new = (result ≡ Err kind) × (new ≡ with_failure kind old)
