-- What a read through a reader of a store returns and does.
use Rattle.std.specs.Prelude.{◌≡◌, ◌≢◌, ℕ, Bool, true, false, is_err, List, Result, Ok, Err, IfErr}
use Rattle.std.specs.Prelude.{OnOk, IsErrOf}
use Rattle.std.specs.Borrow.{MutBor}
use Rattle.tv_base.specs.declared.cause.Cause.TheVariants.{UnexpectedEnd, TooLong}
use Rattle.tv_base.specs.declared.cause.ReadError.{ReadError}
use Rattle.tv_base.specs.declared.source.ByteSource.{Ghosts}
use Rattle.tv_base.specs.Source.{Failures}
use Rattle.tv_base.specs.Stop.{Stop, Counts, Taken}
use Rattle.tv_base.specs.Stop.Stop.{InputError, Uncounted, Failed, Short, Never}
use Rattle.tv_reader.specs.Error.{read_error, StoreMayStop, StoreMayStopDeep}
use Rattle.tv_reader.specs.Finds.{Found, FindsBy}
use Rattle.tv_reader.specs.declared.error.DeserializeError.{DeserializeError}
use Rattle.tv_reader.specs.declared.error.DeserializeError.TheVariants as errors
use Rattle.tv_reader.specs.declared.value_type.ValueType.{ValueType}
use Rattle.tv_typed.specs.declared.store_reader.StoreReader.{StoreReader}

-- Why a typed read stopped. What is refused is reported by the error itself. Where no more bytes
-- can be counted, those that were taken end too early.
abbrev pub typed_stop : DeserializeError → Stop DeserializeError
typed_stop (errors.CorruptedValue TooLong) = Uncounted (errors.CorruptedValue UnexpectedEnd)
typed_stop (errors.CorruptedValue cause) = InputError (errors.CorruptedValue cause)
typed_stop (errors.TypeMismatch expected actual) = InputError (errors.TypeMismatch expected actual)
typed_stop (errors.UnsupportedType kind) = InputError (errors.UnsupportedType kind)
typed_stop (errors.Custom message) = InputError (errors.Custom message)
typed_stop (errors.Io kind) = Failed kind
typed_stop errors.Memory = Short
typed_stop errors.HeapFull = Never
typed_stop (errors.UnsupportedVersion least most) = Never
typed_stop errors.AlreadyFailed = Never
typed_stop errors.TooDeep = Short

-- Why no document is read of pairs that are given: as of one value, but that the pairs may have no
-- room.
abbrev pub document_stop : DeserializeError → Stop DeserializeError
document_stop errors.HeapFull = Short
document_stop error = typed_stop error

-- After a refusal a reader reads nothing more, and takes nothing. Before one, the bytes that were
-- taken encode what is read, or show why nothing is; a refusal is marked; and an error comes only
-- where it may.
pub record ReadsIf {S X : Type 0} (May : DeserializeError → ℕ → Type 0)
    (is_known : S → Type 0) (left : S → List ℕ) (failures : S → Failures)
    (old new : StoreReader S) (result : Result X DeserializeError)
    (Encodes : List ℕ → X → Type 0) (HasError : List ℕ → DeserializeError → Type 0) : Type 0 where
  pub closed : old.has_failed ≡ true
      → IsErrOf result errors.AlreadyFailed × (new.source ≡ old.source) × (new.count ≡ old.count)
  pub finds : old.has_failed ≡ false
      → FindsBy typed_stop May (errors.CorruptedValue UnexpectedEnd) is_known left failures
      old.source old.count new.source new.count result Encodes HasError
  pub marks_failure : new.has_failed ≡ is_err result
  pub same_version : new.version ≡ old.version
  pub same_levels : new.levels ≡ old.levels

-- What a call that reads a value of a type through a reader promises, whoever wrote it: as
-- `ReadsThrough`, but that a refusal may be left unmarked.
pub record DeserializesBy {S X : Type 0}
    (is_known : S → Type 0) (left : S → List ℕ) (failures : S → Failures)
    (old new : StoreReader S) (result : Result X DeserializeError)
    (Encodes : List ℕ → X → Type 0) (HasError : List ℕ → DeserializeError → Type 0) : Type 0 where
  pub closed : old.has_failed ≡ true
      → IsErrOf result errors.AlreadyFailed × (new.source ≡ old.source) × (new.count ≡ old.count)
  pub unmarked : OnOk result (new.has_failed ≡ false)
  pub found : old.has_failed ≡ false → is_known old.source
      → Found typed_stop (errors.CorruptedValue UnexpectedEnd) Encodes HasError
      (left old.source) (left new.source) new.count result
  pub taken : old.has_failed ≡ false → is_known old.source
      → Taken (left old.source) (left new.source) old.count new.count
  pub stays_known : old.has_failed ≡ false → is_known old.source → is_known new.source
  pub counts : old.has_failed ≡ false → Counts typed_stop result (failures old.source) (failures new.source)
  pub same_version : new.version ≡ old.version
  pub same_levels : new.levels ≡ old.levels

-- ---- as contracts say it, of a source

-- a read, which is never too deep
abbrev pub ReadsThrough : {S X : Type 0} (source : Ghosts S)
    (old new : StoreReader S) (result : Result X DeserializeError)
    (Encodes : List ℕ → X → Type 0) (HasError : List ℕ → DeserializeError → Type 0) → Type 0
ReadsThrough source old new result Encodes HasError =
    ReadsIf StoreMayStop source.is_known source.left source.failures old new result Encodes HasError

-- a read of a tree, which may be too deep
abbrev pub ReadsDeep : {S X : Type 0} (source : Ghosts S)
    (old new : StoreReader S) (result : Result X DeserializeError)
    (Encodes : List ℕ → X → Type 0) (HasError : List ℕ → DeserializeError → Type 0) → Type 0
ReadsDeep source old new result Encodes HasError =
    ReadsIf StoreMayStopDeep source.is_known source.left source.failures old new result Encodes HasError

-- what whoever reads a value of a type promises
abbrev pub Deserializes : {S X : Type 0} (source : Ghosts S)
    (old new : StoreReader S) (result : Result X DeserializeError)
    (Encodes : List ℕ → X → Type 0) (HasError : List ℕ → DeserializeError → Type 0) → Type 0
Deserializes source old new result Encodes HasError =
    DeserializesBy source.is_known source.left source.failures old new result Encodes HasError

-- why such a read gave nothing, where it did
abbrev pub RefusesThrough : {S X Y : Type 0} (source : Ghosts S)
    (Encodes : List ℕ → Y → Type 0) (HasError : List ℕ → DeserializeError → Type 0)
    (old new : StoreReader S) (result : Result X DeserializeError) → Type 0
RefusesThrough {Y = Y} source Encodes HasError old new result =
    IfErr result (λ error. ReadsThrough {X = Y} source old new (Err error) Encodes HasError)

-- Items are refused: that they are is the error, and the reader is left as it is.
pub record RefusesItems {S X : Type 0} (source : Ghosts S) (collection : ValueType)
    (old new : StoreReader S) (result : Result X DeserializeError) : Type 0 where
  pub refuses : result ≡ Err (errors.UnsupportedType collection)
  pub nothing_taken : new ≡ old
  pub deserializes : Deserializes source old new result (λ bytes value. ⊥)
      (λ whole error. error ≡ errors.UnsupportedType collection)

-- ---- the reader behind what a call takes

-- what a call leaves of a value whose code was read: what is seen of the code, and the reader
abbrev pub LeftValue : Type 0 → Type 0 → Type 0
LeftValue K S = K × (MutBor (StoreReader S) × Unit {0})

-- what it leaves of the items of an array or of an object: how many are announced, the place, and
-- the reader
abbrev pub LeftItems : Type 0 → Type 0
LeftItems S = ℕ × (ℕ × (MutBor (StoreReader S) × Unit {0}))

-- the reader of a value, after the call that took it
abbrev pub value_reader : {K S : Type 0} → LeftValue K S → StoreReader S
value_reader left = left.1.0.now

-- the reader of items, after the call that took them
abbrev pub items_reader : {S : Type 0} → LeftItems S → StoreReader S
items_reader left = left.1.1.0.now

-- ---- results of lower layers

-- such a result, in the words of the store
abbrev pub raised : {X : Type 0} → Result X ReadError → Result X DeserializeError
raised (Ok value) = Ok value
raised (Err error) = Err (read_error error)

-- the reader was refused before, or the type is another than that which is expected, and this is
-- the refusal
pub data IsMismatch {Kind : Type 0} (has_failed : Bool) (kind expected : Kind) (refusal : DeserializeError) :
    DeserializeError → Type 0 where
  failed_before : has_failed ≡ true → IsMismatch has_failed kind expected refusal errors.AlreadyFailed
  mismatched : has_failed ≡ false → kind ≢ expected → IsMismatch has_failed kind expected refusal refusal
