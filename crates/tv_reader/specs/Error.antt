-- What the errors of the lower layers are called in the store, and which of them stop a reader for what
-- reason.
use Rattle.std.specs.Prelude.{◌≡◌, ◌≢◌, ◌⊎◌, ℕ, Result, List}
use Rattle.tv_base.specs.declared.cause.Cause.{Cause}
use Rattle.tv_base.specs.declared.cause.Cause.TheVariants.{UnexpectedEnd, TooLong}
use Rattle.tv_base.specs.declared.cause.ReadError.{ReadError}
use Rattle.tv_base.specs.declared.cause.ReadError.TheVariants as reads
use Rattle.tv_base.specs.declared.source.ByteSource.{Ghosts}
use Rattle.tv_base.specs.Source.{Failures}
use Rattle.tv_base.specs.Stop.{Stop, Takes}
use Rattle.tv_base.specs.Stop.Stop.{InputError, Uncounted, Failed, Short, Never}
use Rattle.tv_base.specs.Take.{told, CauseMayStop}
use Rattle.tv_format.specs.InputError.{Refusal, corrupted, no_text_key}
use Rattle.tv_reader.specs.ValueType.{value_type_code}
use Rattle.tv_reader.specs.declared.error.DeserializeError.{DeserializeError}
use Rattle.tv_reader.specs.declared.error.DeserializeError.TheVariants as errors
use Rattle.tv_reader.specs.declared.value_type.ValueType.{ValueType}
use Rattle.tv_reader.specs.declared.value_type.ValueType.TheVariants as types

abbrev pub read_error : ReadError → DeserializeError
read_error (reads.Corrupted c) = errors.CorruptedValue c
read_error (reads.Io k) = errors.Io k
read_error reads.Memory = errors.Memory

-- a value of this type stands where one of that type was expected, which is reported of a key alone
abbrev pub key_stop : ValueType → ValueType → Stop Refusal
key_stop types.String actual = InputError (no_text_key (value_type_code actual))
key_stop _ actual = Never

-- Why a reader of documents stopped: its bytes are refused, no more can be counted and those that were taken
-- end too early, the source
-- failed, or there is no room.
abbrev pub store_stop : DeserializeError → Stop Refusal
store_stop (errors.CorruptedValue TooLong) = Uncounted (corrupted UnexpectedEnd)
store_stop (errors.CorruptedValue c) = InputError (corrupted c)
store_stop (errors.TypeMismatch expected actual) = key_stop expected actual
store_stop (errors.Io k) = Failed k
store_stop errors.Memory = Short
store_stop errors.HeapFull = Short
store_stop (errors.UnsupportedType t) = Never
store_stop (errors.Custom s) = Never
store_stop (errors.UnsupportedVersion m n) = Never
store_stop errors.AlreadyFailed = Never
store_stop errors.TooDeep = Never

-- The same of a reader of trees, which may be too deep for it: it says nothing wrong of the bytes.
abbrev pub tree_stop : DeserializeError → Stop Refusal
tree_stop errors.TooDeep = Short
tree_stop error = store_stop error

-- which of them may stop it after this many bytes
abbrev pub StoreMayStop : DeserializeError → ℕ → Type 0
StoreMayStop (errors.CorruptedValue c) count = CauseMayStop c count
StoreMayStop errors.TooDeep count = ⊥
StoreMayStop _ count = Unit {0}

-- where no heap is filled
abbrev pub StoreMayStopRoomy : DeserializeError → ℕ → Type 0
StoreMayStopRoomy error count = StoreMayStop error count × (error ≢ errors.HeapFull)

-- where trees are taken, and no heap is filled
abbrev pub StoreMayStopDeep : DeserializeError → ℕ → Type 0
StoreMayStopDeep error count = StoreMayStopRoomy error count ⊎ (error ≡ errors.TooDeep)

-- where no memory is taken
abbrev pub StoreMayStopLean : DeserializeError → ℕ → Type 0
StoreMayStopLean error count = StoreMayStopRoomy error count × (error ≢ errors.Memory)

-- The error in the bytes that an error says: what is corrupt, or in a key's place a value of another type
-- than a text.
pub data IsRefusal : DeserializeError → Refusal → Type 0 where
  is_corrupted : {c : Cause} → IsRefusal (errors.CorruptedValue c) (corrupted c)
  is_no_text : {actual : ValueType} → IsRefusal (errors.TypeMismatch types.String actual)
      (no_text_key (value_type_code actual))

-- what a reader of the store returned and did, by a reading of lists
abbrev pub StoreTakesIf : {S X Y : Type 0} (May : DeserializeError → ℕ → Type 0) (is_known : S → Type 0)
    (left : S → List ℕ) (failures : S → Failures) (old : S) (old_count : ℕ) (new : S) (new_count : ℕ)
    (view : X → Y) (result : Result X DeserializeError)
    (reading : List ℕ → Result (Y × List ℕ) (Refusal × List ℕ)) → Type 0
StoreTakesIf May is_known left failures old old_count new new_count view result reading =
    Takes store_stop May (told is_known) (λ p. left p.source) (λ p. p.count) (λ p. failures p.source)
    (record { source = old; count = old_count })
    (record { source = new; count = new_count }) view result reading

-- a lean reader of a source, as contracts say it
abbrev pub StoreTakesLean : {S X Y : Type 0} (source : Ghosts S) (old : S) (old_count : ℕ) (new : S)
    (new_count : ℕ) (view : X → Y) (result : Result X DeserializeError)
    (reading : List ℕ → Result (Y × List ℕ) (Refusal × List ℕ)) → Type 0
StoreTakesLean source old old_count new new_count view result reading =
    StoreTakesIf StoreMayStopLean source.is_known source.left source.failures old old_count new new_count view
    result reading

-- a reader that fills no heap
abbrev pub StoreTakesRoomy : {S X Y : Type 0} (source : Ghosts S) (old : S) (old_count : ℕ) (new : S)
    (new_count : ℕ) (view : X → Y) (result : Result X DeserializeError)
    (reading : List ℕ → Result (Y × List ℕ) (Refusal × List ℕ)) → Type 0
StoreTakesRoomy source old old_count new new_count view result reading =
    StoreTakesIf StoreMayStopRoomy source.is_known source.left source.failures old old_count new new_count
    view result reading
