-- Which values are read of which bytes, by the trees that these encode.
use Rattle.std.specs.Prelude.{◌≡◌, ◌≢◌, ◌+◌, ◌-◌, ◌^◌, ◌<◌, ℕ, false, List, ◌++◌, length, Option, Some, None}
use Rattle.std.specs.Prelude.{Result, Ok, Err, IsErrOf}
use Rattle.tv_base.specs.declared.source.ByteSource.{Ghosts}
use Rattle.tv_base.specs.declared.cause.Cause.{Cause}
use Rattle.tv_base.specs.ErrorInPart.{InThen}
use Rattle.tv_base.specs.Source.{Failures}
use Rattle.tv_base.specs.Stop.{Stop}
use Rattle.tv_base.specs.Stop.Stop.{InputError, Uncounted, Failed, Short, Never}
use Rattle.tv_reader.specs.Legacy.{Legacy}
use Rattle.tv_format.specs.InputError.{Refusal, corrupted}
use Rattle.tv_value.specs.Owned.{owned_tree}
use Rattle.tv_format.specs.Encoding.{Encodes, NoLegacy}
use Rattle.tv_format.specs.Tree.{Leaf, Tree, leaf}
use Rattle.tv_format.specs.Version.{Version}
use Rattle.tv_value.specs.declared.owned_value.OwnedValue.{OwnedValue}
use Rattle.tv_format.specs.Leaves.{form}
use Rattle.tv_format.specs.declared.leaf_type.LeafType.{LeafType}
use Rattle.tv_reader.specs.Error.{IsRefusal, StoreMayStop}
use Rattle.tv_reader.specs.Heads.{HasWidth}
use Rattle.tv_reader.specs.Trees.{NoneBehind}
use Rattle.tv_reader.specs.ValueType.{leaf_type, type_prefix, IsCoded, ErrorInCode}
use Rattle.tv_reader.specs.Version.{version_of}
use Rattle.tv_reader.specs.declared.error.DeserializeError.{DeserializeError}
use Rattle.tv_reader.specs.declared.error.DeserializeError.TheVariants as errors
use Rattle.tv_reader.specs.declared.value_type.ValueType.{ValueType}
use Rattle.tv_typed.specs.Typed.{typed_stop, ReadsIf, DeserializesBy, LeftValue, value_reader}
use Rattle.tv_typed.specs.declared.de.BinaryValueDeserializer.{BinaryValueDeserializer}
use Rattle.tv_typed.specs.declared.store_reader.StoreReader.{StoreReader}

-- ---- values

-- The bytes encode a tree of which this value is read. `is` says which values are read of which
-- trees.
abbrev pub EncodesAs : {X : Type 0} → (Tree → X → Type 0) → Version → List ℕ → X → Type 0
EncodesAs is version bytes value = (tree : Tree) × Encodes Legacy version bytes tree × is tree value

-- the same after the code of a type
abbrev pub EncodedAs : {X : Type 0} → (Tree → X → Type 0) → Version → ValueType → List ℕ → X → Type 0
EncodedAs is version kind bytes value = EncodesAs is version (type_prefix kind ++ bytes) value

-- leaves of this type have a known width
abbrev pub IsFixed : Option LeafType → Type 0
IsFixed (Some held) = HasWidth (form held)
IsFixed None = ⊥

-- of a leaf, what it holds
abbrev pub IsLeafOf : {X : Type 0} → (X → Leaf) → Tree → X → Type 0
IsLeafOf make tree value = tree ≡ leaf (make value)

-- the whole tree
abbrev pub IsTree : Tree → OwnedValue → Type 0
IsTree tree value = tree ≡ owned_tree value

-- a leaf after the code of its type
abbrev pub EncodesLeaf : {X : Type 0} → Version → ValueType → (X → Leaf) → List ℕ → X → Type 0
EncodesLeaf version kind make bytes value =
    Encodes Legacy version (type_prefix kind ++ bytes) (leaf (make value))

-- ---- refusals

-- a code is malformed
pub data CodeRefused (whole : List ℕ) : DeserializeError → Type 0 where
  in_code : {cause : Cause} → ErrorInCode whole cause → CodeRefused whole (errors.CorruptedValue cause)

-- A value of one type is expected: after the code of its own type stands a value of another, or its
-- bytes are malformed.
pub data LeafRefused (expected : ValueType) (version : Version) (kind : ValueType) (whole : List ℕ) :
    DeserializeError → Type 0 where
  other_type : kind ≢ expected → LeafRefused expected version kind whole (errors.TypeMismatch expected kind)
  in_body : {cause : Cause} → kind ≡ expected → NoneBehind version kind whole (corrupted cause)
      → LeafRefused expected version kind whole (errors.CorruptedValue cause)

-- the error says what is wrong with the bytes
pub record GivesError (HasError : List ℕ → Refusal → Type 0) (whole : List ℕ) (told_by : DeserializeError) :
    Type 0 where
  pub refusal : Refusal
  pub told : IsRefusal told_by refusal
  pub error : HasError whole refusal

-- a value of any type is malformed
abbrev pub TreeRefused : Version → ValueType → List ℕ → DeserializeError → Type 0
TreeRefused version kind = GivesError (NoneBehind version kind)

-- the next value: its code is malformed, or what stands after that is refused
abbrev pub NextRefused :
    (Version → ValueType → List ℕ → DeserializeError → Type 0) → Version → List ℕ → DeserializeError → Type 0
NextRefused refused version = InThen CodeRefused IsCoded (λ kind. refused version kind)

-- ---- what both say of each other

-- Where bytes after a code are refused, no prefix of them encodes, without legacy objects, a tree
-- of which a value is read.
abbrev pub RefusalsExclude : {X : Type 0} → (Tree → X → Type 0)
    → (Version → ValueType → List ℕ → DeserializeError → Type 0) → Type 0
RefusalsExclude {X} is refused =
    (version : Version) (kind : ValueType) (prefix rest : List ℕ) (error : DeserializeError) (tree : Tree)
    (value : X) → refused version kind (prefix ++ rest) error
    → Encodes NoLegacy version (type_prefix kind ++ prefix) tree → is tree value → ⊥

-- the bytes are not malformed: the source failed, memory was refused, or a value of any type nests
-- too deep for the reader
abbrev pub SparesBytes : Stop DeserializeError → Type 0
SparesBytes (InputError error) = ⊥
SparesBytes (Uncounted error) = ⊥
SparesBytes (Failed kind) = Unit {0}
SparesBytes Short = Unit {0}
SparesBytes Never = ⊥

-- a value of this tree was read, and this rest is left
abbrev pub IsReadOf : {X : Type 0} → (Tree → X → Type 0)
    → Tree → List ℕ → Result X DeserializeError → List ℕ → Type 0
IsReadOf is tree rest (Ok value) left = is tree value × (left ≡ rest)
IsReadOf is tree rest (Err error) left = SparesBytes (typed_stop error)

-- Wherever a prefix of what is left encodes, without legacy objects, a tree of which a value is
-- read, a value of that tree is read and the rest is left, unless the source failed, memory was
-- refused, or a value of any type in it nests too deep for the reader. The code of the value was
-- read before.
abbrev pub OnlyBy : {S X : Type 0} (is_known : S → Type 0) (left : S → List ℕ)
    (old new : StoreReader S) (result : Result X DeserializeError)
    → (Tree → X → Type 0) → Version → List ℕ → Type 0
OnlyBy {X = X} is_known left old new result is version code =
    old.has_failed ≡ false → is_known old.source → old.count + length (left old.source) < 2 ^ 64 - 1
    → (tree : Tree) (value : X) (prefix rest : List ℕ) → left old.source ≡ prefix ++ rest
    → Encodes NoLegacy version (code ++ prefix) tree → is tree value
    → IsReadOf is tree rest result (left new.source)

-- What is promised of a call that reads a value after the code of a type: `is` says which values
-- are read of which trees, and `refused` which refusal bytes have.
abbrev pub DeserializesAsBy : {S X : Type 0}
    (is_known : S → Type 0) (left : S → List ℕ) (failures : S → Failures)
    → (Tree → X → Type 0) → (Version → ValueType → List ℕ → DeserializeError → Type 0)
    → ValueType → StoreReader S → StoreReader S → Result X DeserializeError → Type 0
DeserializesAsBy is_known left failures is refused kind old new result =
    DeserializesBy is_known left failures old new result
    (EncodedAs is (version_of old.version) kind) (refused (version_of old.version) kind)

-- ---- one type of leaves

-- A call that expects a leaf of a type and makes a value of what it holds: what it reads, that it
-- reads wherever one is encoded, that memory is refused only where leaves of that type have no
-- known width, and that no leaf is too deep. The code of the value, which is that of some type, was
-- read before.
pub record ReadsLeafBy {S X : Type 0}
    (is_known : S → Type 0) (left : S → List ℕ) (failures : S → Failures)
    (expected : ValueType) (make : X → Leaf) (kind : ValueType)
    (old new : StoreReader S) (result : Result X DeserializeError) : Type 0 where
  pub reads : ReadsIf StoreMayStop is_known left failures old new result
      (EncodesLeaf (version_of old.version) kind make) (LeafRefused expected (version_of old.version) kind)
  pub only : OnlyBy is_known left old new result (IsLeafOf make) (version_of old.version) (type_prefix kind)
  pub deserializes :
      DeserializesAsBy is_known left failures (IsLeafOf make) (LeafRefused expected) kind old new result
  pub no_memory : IsFixed (leaf_type expected) → ¬ IsErrOf result errors.Memory
  pub not_too_deep : ¬ IsErrOf result errors.TooDeep

-- ---- as contracts say it, of a source

-- that a value is read wherever one is encoded
abbrev pub Only : {S X : Type 0} (source : Ghosts S)
    (old new : StoreReader S) (result : Result X DeserializeError)
    → (Tree → X → Type 0) → Version → List ℕ → Type 0
Only source old new result is version code = OnlyBy source.is_known source.left old new result is version code

-- such a leaf is read of a value whose code was read
abbrev pub ReadsLeaf : {K S X : Type 0} (source : Ghosts S) (expected : ValueType) (make : X → Leaf)
    (value : BinaryValueDeserializer S) (left : LeftValue K S) (result : Result X DeserializeError) → Type 0
ReadsLeaf source expected make value left result =
    ReadsLeafBy source.is_known source.left source.failures expected make
    value.kind value.reader.now (value_reader left) result
