-- Documents whose pairs are read one after the other.
use Rattle.std.specs.Prelude.{◌≡◌, ◌<◌, ℕ, suc, Bool, false, true, is_err, List, [], ◌∷◌, ◌++◌, Option, Some}
use Rattle.std.specs.Prelude.{None}
use Rattle.std.specs.Prelude.{Result, Ok, Err, IfOk, IfErr, OnErr, IsErrOf}
use Rattle.tv_base.specs.declared.source.ByteSource.{Ghosts}
use Rattle.tv_base.specs.declared.cause.Cause.{Cause}
use Rattle.tv_base.specs.Parts.{Begins, Then}
use Rattle.tv_base.specs.Source.{Failures}
use Rattle.tv_base.specs.Stop.{Counts}
use Rattle.tv_base.specs.ErrorInPart.{InThen, ErrorInNumber, ErrorInBytes}
use Rattle.tv_base.specs.Number.{Fixed}
use Rattle.tv_reader.specs.Legacy.{Legacy}
use Rattle.tv_format.specs.InputError.{Corrupt}
use Rattle.tv_format.specs.Encoding.{EncodesPair}
use Rattle.tv_format.specs.Tree.{Tree, Document}
use Rattle.tv_format.specs.Version.{Version}
use Rattle.tv_builder.specs.declared.heap_pairs.HeapPairs.{HeapPairs}
use Rattle.tv_reader.specs.Error.{StoreMayStop}
use Rattle.tv_reader.specs.Finds.{FindsIf}
use Rattle.tv_reading.specs.PairValue.{CanStand, FindsValue, FindsNoValue, ValueHasNoRoom}
use Rattle.tv_value.specs.declared.field.Field.{Field}
use Rattle.tv_reader.specs.Version.{version_of}
use Rattle.tv_reader.specs.declared.error.DeserializeError.{DeserializeError}
use Rattle.tv_reader.specs.declared.error.DeserializeError.TheVariants as errors
use Rattle.tv_reader.specs.declared.value_type.ValueType.{ValueType}
use Rattle.tv_typed.specs.Depths.{AtField, AtItem, WhereTooDeepBy}
use Rattle.tv_typed.specs.Lists.{NextItemRefused}
use Rattle.tv_typed.specs.Typed.{typed_stop, document_stop, DeserializesBy, ReadsIf}
use Rattle.tv_typed.specs.Values.{EncodesAs, GivesError, NextRefused}
use Rattle.tv_typed.specs.declared.store_reader.StoreReader.{StoreReader}

-- ---- what bytes encode

-- a field, and then a value
abbrev pub EncodesField : {X : Type 0} → (Tree → X → Type 0) → Version → List ℕ → Field × X → Type 0
EncodesField is version bytes pair =
    Then (λ part. Fixed 4 part pair.0.id) (λ part. EncodesAs is version part pair.1) bytes

-- the number of pairs is malformed
pub data NumberRefused (whole : List ℕ) : DeserializeError → Type 0 where
  in_pair_count : {cause : Cause} → ErrorInNumber whole cause
      → NumberRefused whole (errors.CorruptedValue cause)

-- the field ends within its four bytes
abbrev pub FieldEnds : List ℕ → DeserializeError → Type 0
FieldEnds = GivesError (Corrupt (ErrorInBytes 4))

-- a field, or the value after it
abbrev pub FieldRefused :
    (Version → ValueType → List ℕ → DeserializeError → Type 0) → Version → List ℕ → DeserializeError → Type 0
FieldRefused refused version = InThen FieldEnds (Fixed 4) (λ _. NextRefused refused version)

-- ---- what gives pairs

-- None where all were given, and nothing changes then; else a pair. Where its pairs are known, the
-- value is read of the tree of the pair that is given next.
abbrev pub NextField : {D X : Type 0} → (D → ℕ) → (D → Type 0) → (D → ℕ × Tree → D → Type 0)
    → (Tree → X → Type 0) → D → D → Option (Field × X) → Type 0
NextField remaining is_known gives is old new None = (remaining old ≡ 0) × (new ≡ old)
NextField remaining is_known gives is old new (Some pair) =
    (remaining old ≡ suc (remaining new))
    × (is_known old → is_known new × ((tree : Tree) × gives old (pair.0.id, tree) new × is tree pair.1))

-- these pairs in turn
abbrev pub GivesAll : {D : Type 0} → (D → ℕ × Tree → D → Type 0) → D → Document → D → Type 0
GivesAll gives first [] last = last ≡ first
GivesAll {D} gives first (pair ∷ pairs) last = (next : D) × gives first pair next
    × GivesAll gives next pairs last

-- these pairs were given in turn, from some state on
abbrev pub WereGiven : {D : Type 0} → (D → ℕ × Tree → D → Type 0) → Document → D → Type 0
WereGiven {D} gives pairs last = (first : D) × GivesAll gives first pairs last

-- False where all were given, and nothing changes then; else true. Where its pairs are known, and
-- those that stand there were given by it, the next one stands after them.
abbrev pub NextPair : {D : Type 0} → (D → ℕ) → (D → Type 0) → (D → ℕ × Tree → D → Type 0)
    → D → D → Document → Document → Bool → Type 0
NextPair remaining is_known gives old new before after false =
    (remaining old ≡ 0) × (new ≡ old) × (after ≡ before)
NextPair remaining is_known gives old new before after true =
    (remaining old ≡ suc (remaining new))
    × (is_known old → WereGiven gives before old
    → is_known new × ((pair : ℕ × Tree) × gives old pair new × (after ≡ before ++ pair ∷ [])))

-- ---- what a call promises that gives the next pair

-- The next pair, its value as one of a type, or why there is none; that each refusal is marked; how
-- many reads failed; that after a refusal nothing is read; and that what is read from stays.
pub record GivesField {D X : Type 0} (remaining : D → ℕ) (is_known : D → Type 0)
    (next : D → ℕ × Tree → D → Type 0) (has_failed : D → Bool) (failures : D → Failures) (borrow_name : D → ℕ)
    (is : Tree → X → Type 0) (may_refuse : DeserializeError → Type 0)
    (old new : D) (result : Result (Option (Field × X)) DeserializeError) : Type 0 where
  pub gives : IfOk result (NextField remaining is_known next is old new)
  pub refuses : IfErr result may_refuse
  pub marks_failure : has_failed new ≡ is_err result
  pub counts : has_failed old ≡ false → Counts typed_stop result (failures old) (failures new)
  pub closed : has_failed old ≡ true → IsErrOf result errors.AlreadyFailed × (failures new ≡ failures old)
  pub same_reader : borrow_name new ≡ borrow_name old

-- The same of a call that reads the next pair after others, into a heap. An error comes only where
-- a pair is awaited.
pub record GivesPairInto {D : Type 0} (remaining : D → ℕ) (is_known : D → Type 0)
    (next : D → ℕ × Tree → D → Type 0) (has_failed : D → Bool) (failures : D → Failures) (borrow_name : D → ℕ)
    (may_refuse : DeserializeError → Type 0)
    (old new : D) (before after : Document) (result : Result Bool DeserializeError) : Type 0 where
  pub gives : IfOk result (NextPair remaining is_known next old new before after)
  pub refuses : IfErr result may_refuse
  pub awaited : OnErr result (has_failed old ≡ false → 0 < remaining old)
  pub marks_failure : has_failed new ≡ is_err result
  pub counts : has_failed old ≡ false → Counts document_stop result (failures old) (failures new)
  pub closed : has_failed old ≡ true → IsErrOf result errors.AlreadyFailed × (failures new ≡ failures old)
  pub same_reader : borrow_name new ≡ borrow_name old

-- ---- the pairs of a store

-- nothing was refused, a prefix of the bytes that were left encodes the pair, and the rest is left
pub record GivesPair {S : Type 0} (left : S → List ℕ)
    (old : StoreReader S) (pair : ℕ × Tree) (new : StoreReader S) : Type 0 where
  pub was_open : old.has_failed ≡ false
  pub is_open : new.has_failed ≡ false
  pub same_version : new.version ≡ old.version
  pub same_levels : new.levels ≡ old.levels
  pub encodes : Begins (λ bytes. EncodesPair Legacy (version_of old.version) bytes pair)
      (left old.source) (left new.source)

-- a call that reads a pair may return this error, by what its value's type refuses and where that
-- is too deep
pub record RefusesPairBy {S : Type 0} (is_known : S → Type 0) (left : S → List ℕ) (failures : S → Failures)
    (position announced : ℕ) (old : StoreReader S)
    (refused : Version → ValueType → List ℕ → DeserializeError → Type 0)
    (deep : Version → ℕ → ValueType → List ℕ → List ℕ → Type 0) (error : DeserializeError) : Type 0 where
  pub new : StoreReader S
  pub deserializes : DeserializesBy {X = ℕ} is_known left failures old new (Err error) (λ bytes value. ⊥)
      (NextItemRefused (FieldRefused refused (version_of old.version)) position announced)
  pub too_deep : WhereTooDeepBy {X = ℕ} is_known left old new (Err error)
      (AtItem (AtField deep) position announced)

-- the same, as contracts say it, of a source
abbrev pub RefusesPair : {S : Type 0} → Ghosts S → ℕ → ℕ → StoreReader S
    → (Version → ValueType → List ℕ → DeserializeError → Type 0)
    → (Version → ℕ → ValueType → List ℕ → List ℕ → Type 0) → DeserializeError → Type 0
RefusesPair source position announced old refused deep error =
    RefusesPairBy source.is_known source.left source.failures position announced old refused deep error

-- Where the bytes that are left are known, and these pairs can stand before, the next pair stands
-- after them.
abbrev pub GivesIntoBy : {S : Type 0} (is_known : S → Type 0) (left : S → List ℕ)
    (old new : StoreReader S) → Document → Document → Type 0
GivesIntoBy is_known left old new before after =
    is_known old.source → CanStand (version_of old.version) before
    → is_known new.source × ((pair : ℕ × Tree) × GivesPair left old pair new × (after ≡ before ++ pair ∷ []))

-- Why no pair is read into a heap after these ones: no field is read; or one is, and after it no
-- value, for want of room only where what has come of it has none.
pub data RefusesIntoBy {S : Type 0} (is_known : S → Type 0) (left : S → List ℕ) (failures : S → Failures)
    (old : StoreReader S) (before : Document) (error : DeserializeError) : Type 0 where
  in_field : (new : StoreReader S)
      → ReadsIf {X = ℕ} StoreMayStop is_known left failures old new (Err error) (Fixed 4) FieldEnds
      → RefusesIntoBy is_known left failures old before error
  in_value : (field : ℕ) (mid : StoreReader S) (end : S) (count : ℕ)
      → ReadsIf StoreMayStop is_known left failures old mid (Ok field) (Fixed 4) FieldEnds
      → FindsIf {X = HeapPairs} StoreMayStop is_known left failures mid.source mid.count end count (Err error)
      (FindsValue (version_of old.version) before field) (FindsNoValue (version_of old.version) before)
      → (is_known mid.source → error ≡ errors.HeapFull → CanStand (version_of old.version) before
      → ValueHasNoRoom (version_of old.version) before (left mid.source))
      → RefusesIntoBy is_known left failures old before error

-- ---- the same, as contracts say it, of a source

-- the next pair stands after these
abbrev pub GivesInto : {S : Type 0} → Ghosts S → StoreReader S → StoreReader S → Document → Document → Type 0
GivesInto source old new before after = GivesIntoBy source.is_known source.left old new before after

-- no pair is read after these
abbrev pub RefusesInto : {S : Type 0} → Ghosts S → StoreReader S → Document → DeserializeError → Type 0
RefusesInto source old before error =
    RefusesIntoBy source.is_known source.left source.failures old before error
