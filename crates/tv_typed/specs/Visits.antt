-- What a visitor is handed, and what is done through a reader then.
use Rattle.std.specs.Prelude.{◌≡◌, ℕ, true, false, is_err, List, Result, Ok, Err}
use Rattle.tv_base.specs.declared.source.ByteSource.{Ghosts}
use Rattle.tv_base.specs.ErrorInPart.{InThen}
use Rattle.tv_base.specs.Parts.{Then}
use Rattle.tv_base.specs.Source.{Failures}
use Rattle.tv_base.specs.Stop.{Counts}
use Rattle.tv_reader.specs.Leaves.{is_leaf_type}
use Rattle.tv_reader.specs.Trees.{EncodesBehind}
use Rattle.tv_reader.specs.ValueType.{type_prefix, IsCoded}
use Rattle.tv_reader.specs.Version.{version_of}
use Rattle.tv_reader.specs.declared.error.DeserializeError.{DeserializeError}
use Rattle.tv_reader.specs.declared.value_type.ValueType.{ValueType}
use Rattle.tv_reader.specs.declared.value_type.ValueType.TheVariants as types
use Rattle.tv_value.specs.Owned.{owned_tree}
use Rattle.tv_format.specs.Short.{short}
use Rattle.tv_format.specs.Tree.{Leaf, null, Tree, leaf, array, object}
use Rattle.tv_format.specs.Version.{Version, V2, entry_total}
use Rattle.tv_value.specs.declared.owned_value.OwnedValue.{OwnedValue}
use Rattle.tv_typed.specs.LegacyObjects.{OfEncoding}
use Rattle.tv_typed.specs.Lists.{Length, LengthRefused, element_total}
use Rattle.tv_typed.specs.Typed.{typed_stop, ReadsIf, Deserializes, DeserializesBy}
use Rattle.tv_typed.specs.Values.{CodeRefused, IsLeafOf, EncodesLeaf, LeafRefused, TreeRefused, OnlyBy}
use Rattle.tv_typed.specs.declared.store_reader.StoreReader.{StoreReader}
use Rattle.tv_reader.specs.Error.{StoreMayStop}

-- ---- leaves

-- the leaf that a tree is, if it is one
abbrev pub single_leaf : Tree → Leaf
single_leaf (leaf held) = held
single_leaf (array items) = null
single_leaf (object members) = null

-- no failed read is reported
abbrev pub TellsNoFailure : {X : Type 0} → Result X DeserializeError → Type 0
TellsNoFailure result = (failures : Failures) → Counts typed_stop result failures failures

-- what was read is handed on and returned, and a refusal is given as it is
abbrev pub Answered : {A X : Type 0} → (A → Result X DeserializeError → Type 0)
    → Result A DeserializeError → Result X DeserializeError → Type 0
Answered answers (Ok read) result = answers read result
Answered answers (Err error) result = result ≡ Err error

-- The leaf after the code of its type was read, and the answer to it is given. Where none was read,
-- its refusal is. The reader is as reading has left it, but that its mark may also tell of an
-- answer that is an error.
pub record VisitsBy {S X : Type 0} (is_known : S → Type 0) (left : S → List ℕ) (failures : S → Failures)
    (old new : StoreReader S) (kind : ValueType) (answers : Leaf → Result X DeserializeError → Type 0)
    (result : Result X DeserializeError) : Type 0 where
  pub read : Result Leaf DeserializeError
  pub reads : ReadsIf StoreMayStop is_known left failures old (record new { has_failed = is_err read }) read
      (EncodesLeaf (version_of old.version) kind (λ held. held))
      (LeafRefused kind (version_of old.version) kind)
  pub only : OnlyBy is_known left old (record new { has_failed = is_err read }) read
      (IsLeafOf (λ held. held)) (version_of old.version) (type_prefix kind)
  pub answered : Answered answers read result

-- ---- arrays and objects

-- The number of the values, and this many of them, of which this is made.
abbrev pub EncodesVisited : {X : Type 0} → ValueType → (ℕ → ℕ) → (ℕ → List ℕ → X → Type 0)
    → ValueType → List ℕ → X → Type 0
EncodesVisited collection total Made kind bytes value =
    (count : ℕ) × Then (λ part. Length collection total kind part count) (λ part. Made count part value) bytes

-- The number of the values is refused, or they are.
abbrev pub VisitRefused : ValueType → (ℕ → ℕ) → (ℕ → List ℕ → DeserializeError → Type 0)
    → ValueType → List ℕ → DeserializeError → Type 0
VisitRefused collection total Refused kind =
    InThen (LengthRefused collection total kind) (Length collection total kind) Refused

-- What a visitor makes of this many items, once their number was read.
abbrev pub MakesOfItems : {S X : Type 0} (source : Ghosts S)
    (Made : Version → ℕ → List ℕ → X → Type 0) (Refused : Version → ℕ → List ℕ → DeserializeError → Type 0)
    (count : ℕ) (old new : StoreReader S) (result : Result X DeserializeError) → Type 0
MakesOfItems source Made Refused count old new result =
    Deserializes source old new result
    (Made (version_of old.version) count) (Refused (version_of old.version) count)

-- What was made of this many values, as its maker says it. Where no number was read, nothing was
-- done, and its refusal is given.
abbrev pub Handed : {S X : Type 0} (is_known : S → Type 0) (left : S → List ℕ) (failures : S → Failures)
    (mid new : StoreReader S) → (ℕ → List ℕ → X → Type 0) → (ℕ → List ℕ → DeserializeError → Type 0)
    → Result ℕ DeserializeError → Result X DeserializeError → Type 0
Handed is_known left failures mid new Made Refused (Ok count) result =
    DeserializesBy is_known left failures mid new result (Made count) (Refused count)
Handed is_known left failures mid new Made Refused (Err error) result = (result ≡ Err error) × (new ≡ mid)

-- The number of the values was read after the code, and then they were handed on.
pub record VisitsItemsBy {S X : Type 0} (is_known : S → Type 0) (left : S → List ℕ) (failures : S → Failures)
    (old new : StoreReader S) (collection : ValueType) (total : ℕ → ℕ) (Made : ℕ → List ℕ → X → Type 0)
    (Refused : ℕ → List ℕ → DeserializeError → Type 0) (kind : ValueType)
    (result : Result X DeserializeError) : Type 0 where
  pub behind_number : StoreReader S
  pub announced : Result ℕ DeserializeError
  pub reads : ReadsIf StoreMayStop is_known left failures old behind_number announced
      (Length collection total kind) (LengthRefused collection total kind)
  pub handed : Handed is_known left failures behind_number new Made Refused announced result

-- ---- legacy objects

-- An object after its code, in version 2: this many entries, of which this is made.
abbrev pub EncodesNextVisited : {X : Type 0} → (ℕ → List ℕ → X → Type 0) → List ℕ → X → Type 0
EncodesNextVisited Made bytes value =
    (kind : ValueType) × Then (λ part. IsCoded part kind)
    (λ part. EncodesVisited types.Object (entry_total V2) Made kind part value) bytes

-- The code is malformed, or the entries after it are refused.
abbrev pub NextVisitRefused : (ℕ → List ℕ → DeserializeError → Type 0) → List ℕ → DeserializeError → Type 0
NextVisitRefused Refused =
    InThen CodeRefused IsCoded (λ kind. VisitRefused types.Object (entry_total V2) Refused kind)

-- What was made of the encoding of a legacy object's tree. Where the object was refused, that is
-- given.
abbrev pub GivesEntries : {X : Type 0} → (ℕ → List ℕ → X → Type 0)
    → (ℕ → List ℕ → DeserializeError → Type 0)
    → Result OwnedValue DeserializeError → Result X DeserializeError → Type 0
GivesEntries Made Refused (Ok tree) result =
    OfEncoding (EncodesNextVisited Made) (NextVisitRefused Refused) (short V2 (owned_tree tree)) result
GivesEntries Made Refused (Err error) result = result ≡ Err error

-- A legacy object was read whole after its code, and then the entries that its tree encodes were
-- handed on, or its refusal is given. Nothing more is taken through the reader, whose mark may also
-- tell of an answer that is an error.
pub record VisitsLegacyBy {S X : Type 0} (is_known : S → Type 0) (left : S → List ℕ) (failures : S → Failures)
    (old new : StoreReader S) (Made : ℕ → List ℕ → X → Type 0)
    (Refused : ℕ → List ℕ → DeserializeError → Type 0) (result : Result X DeserializeError) : Type 0 where
  pub behind_object : StoreReader S
  pub read : Result OwnedValue DeserializeError
  pub reads : ReadsIf StoreMayStop is_known left failures old behind_object read
      (EncodesBehind (version_of old.version) types.JSONObject)
      (TreeRefused (version_of old.version) types.JSONObject)
  pub gives : GivesEntries Made Refused read result
  pub same_source : new.source ≡ behind_object.source
  pub same_count : new.count ≡ behind_object.count
  pub same_version : new.version ≡ behind_object.version
  pub same_levels : new.levels ≡ behind_object.levels

-- ---- a value of any type

-- What stands after the code of a type was handed to the visitor's call for it: a leaf, the values
-- of an array, or the entries of an object or of a legacy one. Each failed read is reported.
pub record VisitsKindBy {S X : Type 0} (is_known : S → Type 0) (left : S → List ℕ) (failures : S → Failures)
    (kind : ValueType) (answers : Leaf → Result X DeserializeError → Type 0)
    (of_array : Version → ℕ → List ℕ → X → Type 0)
    (array_refused : Version → ℕ → List ℕ → DeserializeError → Type 0)
    (of_object : Version → ℕ → List ℕ → X → Type 0)
    (object_refused : Version → ℕ → List ℕ → DeserializeError → Type 0)
    (old new : StoreReader S) (result : Result X DeserializeError) : Type 0 where
  pub leaf : is_leaf_type kind ≡ true → VisitsBy is_known left failures old new kind answers result
  pub array : kind ≡ types.Array → VisitsItemsBy is_known left failures old new types.Array element_total
      (of_array (version_of old.version)) (array_refused (version_of old.version)) kind result
  pub object : kind ≡ types.Object
      → VisitsItemsBy is_known left failures old new types.Object (entry_total (version_of old.version))
      (of_object (version_of old.version)) (object_refused (version_of old.version)) kind result
  pub legacy : kind ≡ types.JSONObject
      → VisitsLegacyBy is_known left failures old new (of_object V2) (object_refused V2) result
  pub counts : old.has_failed ≡ false → Counts typed_stop result (failures old.source) (failures new.source)
