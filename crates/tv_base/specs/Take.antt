-- What a reader does to a source that it is lent, and to the count of the bytes that were taken of it.
use Rattle.std.specs.Prelude.{◌≡◌, ◌≢◌, ℕ, ◌-◌, ◌^◌, List, Result}
use Rattle.tv_base.specs.declared.cause.Cause.{Cause}
use Rattle.tv_base.specs.declared.cause.Cause.TheVariants.{UnexpectedEnd, TooLong}
use Rattle.tv_base.specs.declared.cause.ReadError.{ReadError}
use Rattle.tv_base.specs.declared.cause.ReadError.TheVariants.{Corrupted, Io, Memory}
use Rattle.tv_base.specs.declared.source.ByteSource.{Ghosts}
use Rattle.tv_base.specs.Source.{Failures}
use Rattle.tv_base.specs.Stop.{Stop, Takes}
use Rattle.tv_base.specs.Stop.Stop.{InputError, Uncounted, Failed, Short}

-- a source, and how many bytes were taken of it
pub record Place (S : Type 0) : Type 0 where
  pub source : S
  pub count : ℕ

-- the bytes left are known
abbrev pub told : {S : Type 0} → (S → Type 0) → Place S → Type 0
told is_known p = is_known p.source

abbrev pub read_stop : ReadError → Stop Cause
read_stop (Corrupted TooLong) = Uncounted UnexpectedEnd
read_stop (Corrupted c) = InputError c
read_stop (Io kind) = Failed kind
read_stop Memory = Short

-- `TooLong` comes only where 2 ^ 64 - 1 bytes are counted
abbrev pub CauseMayStop : Cause → ℕ → Type 0
CauseMayStop TooLong count = count ≡ 2 ^ 64 - 1
CauseMayStop _ count = Unit {0}

abbrev pub MayStop : ReadError → ℕ → Type 0
MayStop (Corrupted c) count = CauseMayStop c count
MayStop _ count = Unit {0}

-- a lean reader takes no memory, so none is refused
abbrev pub MayStopLean : ReadError → ℕ → Type 0
MayStopLean error count = MayStop error count × (error ≢ Memory)

-- The result, seen by view, is what the reading gives of the bytes that were left, and what follows them is
-- left now.
abbrev pub TakesIf : {S X Y : Type 0} (May : ReadError → ℕ → Type 0) (is_known : S → Type 0)
    (left : S → List ℕ) (failures : S → Failures) (old : S) (old_count : ℕ) (new : S) (new_count : ℕ)
    (view : X → Y) (result : Result X ReadError) (reading : List ℕ → Result (Y × List ℕ) (Cause × List ℕ))
    → Type 0
TakesIf May is_known left failures old old_count new new_count view result reading =
    Takes read_stop May (told is_known) (λ p. left p.source) (λ p. p.count) (λ p. failures p.source)
    (record { source = old; count = old_count })
    (record { source = new; count = new_count }) view result reading

-- the same of a source, as contracts say it
abbrev pub TakesBy : {S X Y : Type 0} (source : Ghosts S) (old : S) (old_count : ℕ) (new : S) (new_count : ℕ)
    (view : X → Y) (result : Result X ReadError) (reading : List ℕ → Result (Y × List ℕ) (Cause × List ℕ))
    → Type 0
TakesBy source old old_count new new_count view result reading =
    TakesIf MayStop source.is_known source.left source.failures old old_count new new_count view result
    reading

-- a lean reader
abbrev pub TakesLean : {S X Y : Type 0} (source : Ghosts S) (old : S) (old_count : ℕ) (new : S)
    (new_count : ℕ) (view : X → Y) (result : Result X ReadError)
    (reading : List ℕ → Result (Y × List ℕ) (Cause × List ℕ)) → Type 0
TakesLean source old old_count new new_count view result reading =
    TakesIf MayStopLean source.is_known source.left source.failures old old_count new new_count view result
    reading
