-- What calls promise that read values, whole: what each reads, or why it reads none, and how deep
-- values of any type in it nest.
use Rattle.std.specs.Prelude.{◌≡◌, ◌≤◌, ℕ, ◌+◌, false, is_err, List, Option, None, Result, Ok, if◌then◌else◌}
use Rattle.tv_base.specs.declared.source.ByteSource.{Ghosts}
use Rattle.tv_base.specs.ErrorInPart.{InEach}
use Rattle.tv_format.specs.Tree.{Tree}
use Rattle.tv_format.specs.Version.{Version}
use Rattle.tv_reader.specs.Trees.{EncodesBehind}
use Rattle.tv_reader.specs.ValueType.{type_prefix}
use Rattle.tv_reader.specs.Version.{version_of}
use Rattle.tv_reader.specs.declared.error.DeserializeError.{DeserializeError}
use Rattle.tv_reader.specs.declared.value_type.ValueType.{ValueType}
use Rattle.tv_typed.specs.Depths.{AmongRead, AtEach, AtItem, HasDepthBy, OpensBehind, ReadsWithinDepth}
use Rattle.tv_typed.specs.Depths.{WhereGiven, WhereRead, WhereTooDeep}
use Rattle.tv_typed.specs.Lists.{EncodesInto, NextItem, NextItemRefused, gives_some}
use Rattle.tv_typed.specs.Typed.{Deserializes, ReadsDeep, LeftValue, value_reader}
use Rattle.tv_typed.specs.Values.{EncodedAs, IsTree, Only, TreeRefused}
use Rattle.tv_typed.specs.declared.de.BinaryValueDeserializer.{BinaryValueDeserializer}
use Rattle.tv_typed.specs.declared.store_reader.StoreReader.{StoreReader}
use Rattle.tv_value.specs.declared.owned_value.OwnedValue.{OwnedValue}

-- What is read, or why nothing is; where it is that a value in it is too deep; and how deep those
-- nest that were read.
pub record ReadsValue {S X : Type 0} (source : Ghosts S)
    (Encodes : Version → List ℕ → X → Type 0) (HasError : Version → List ℕ → DeserializeError → Type 0)
    (TooDeep Nests : Version → ℕ → List ℕ → List ℕ → Type 0)
    (old new : StoreReader S) (result : Result X DeserializeError) : Type 0 where
  pub deserializes : Deserializes source old new result
      (Encodes (version_of old.version)) (HasError (version_of old.version))
  pub deep : WhereTooDeep source old new result TooDeep
  pub within : WhereRead source old new result Nests

-- the same, and each refusal is marked
pub record ReadsMarked {S X : Type 0} (source : Ghosts S)
    (Encodes : Version → List ℕ → X → Type 0) (HasError : Version → List ℕ → DeserializeError → Type 0)
    (TooDeep Nests : Version → ℕ → List ℕ → List ℕ → Type 0)
    (old new : StoreReader S) (result : Result X DeserializeError) : Type 0 where
  pub deserializes : Deserializes source old new result
      (Encodes (version_of old.version)) (HasError (version_of old.version))
  pub marks_failure : new.has_failed ≡ is_err result
  pub deep : WhereTooDeep source old new result TooDeep
  pub within : WhereRead source old new result Nests

-- ---- after the code of a type

-- a value, as a type says that it is read, refused, too deep and how deep it is
abbrev pub ReadsBehind : {S X : Type 0} (source : Ghosts S) (is : Tree → X → Type 0)
    (refused : Version → ValueType → List ℕ → DeserializeError → Type 0)
    (deep within : Version → ℕ → ValueType → List ℕ → List ℕ → Type 0) (kind : ValueType)
    (old new : StoreReader S) (result : Result X DeserializeError) → Type 0
ReadsBehind source is refused deep within kind old new result =
    ReadsValue source (λ version. EncodedAs is version kind) (λ version. refused version kind)
    (λ version levels. deep version levels kind) (λ version levels. within version levels kind) old new result

-- the same of a value that the call takes
abbrev pub DeserializesValue : {K S X : Type 0} (source : Ghosts S) (is : Tree → X → Type 0)
    (refused : Version → ValueType → List ℕ → DeserializeError → Type 0)
    (deep within : Version → ℕ → ValueType → List ℕ → List ℕ → Type 0)
    (value : BinaryValueDeserializer S) (left : LeftValue K S) (result : Result X DeserializeError) → Type 0
DeserializesValue source is refused deep within value left result =
    ReadsBehind source is refused deep within value.kind value.reader.now (value_reader left) result

-- A value of any type: what is read; that it is read wherever one is encoded; that it nests within
-- the depth; where it is too deep; and that none is told to be too deep which is not.
pub record ReadsTree {S : Type 0} (source : Ghosts S) (kind : ValueType)
    (old new : StoreReader S) (result : Result OwnedValue DeserializeError) : Type 0 where
  pub reads : ReadsDeep source old new result
      (EncodesBehind (version_of old.version) kind) (TreeRefused (version_of old.version) kind)
  pub only : Only source old new result IsTree (version_of old.version) (type_prefix kind)
  pub within : ReadsWithinDepth source old new result (type_prefix kind)
  pub deep : WhereTooDeep source old new result (λ version levels. OpensBehind version levels kind)
  pub no_heap_full : HasDepthBy source.is_known source.left old result (type_prefix kind)

-- the same of a value that the call takes
abbrev pub DeserializesTree : {K S : Type 0} (source : Ghosts S)
    (value : BinaryValueDeserializer S) (left : LeftValue K S) (result : Result OwnedValue DeserializeError)
    → Type 0
DeserializesTree source value left result =
    ReadsTree source value.kind value.reader.now (value_reader left) result

-- ---- items

-- this many items, of which something is made
abbrev pub ReadsItems : {S C X : Type 0} (source : Ghosts S) (Made : C → List X → Type 0)
    (Item : Version → List ℕ → X → Type 0) (Refused : Version → List ℕ → DeserializeError → Type 0)
    (TooDeep Nests : Version → ℕ → List ℕ → List ℕ → Type 0) (count : ℕ)
    (old new : StoreReader S) (result : Result C DeserializeError) → Type 0
ReadsItems source Made Item Refused TooDeep Nests count old new result =
    ReadsValue source (λ version. EncodesInto Made (Item version) count)
    (λ version. InEach (Refused version) (Item version) count)
    (λ version levels. AmongRead (Item version) (TooDeep version levels) count)
    (λ version levels. AtEach (Nests version levels) count) old new result

-- The next of several items, of which some are announced: the place goes on by one where one was
-- given, and each refusal is marked. Where none is left, None is the answer.
pub record ReadsItem {S X : Type 0} (source : Ghosts S)
    (Item : Version → List ℕ → X → Type 0) (Refused : Version → List ℕ → DeserializeError → Type 0)
    (TooDeep Nests : Version → ℕ → List ℕ → List ℕ → Type 0)
    (old_announced old_position : ℕ) (old : StoreReader S) (new_announced new_position : ℕ)
    (new : StoreReader S)
    (result : Result (Option X) DeserializeError) : Type 0 where
  pub announced : new_announced ≡ old_announced
  pub position : new_position ≡ old_position + (if gives_some result then 1 else 0)
  pub deserializes : Deserializes source old new result
      (NextItem (Item (version_of old.version)) old_position old_announced)
      (NextItemRefused (Refused (version_of old.version)) old_position old_announced)
  pub deep : WhereTooDeep source old new result (AtItem TooDeep old_position old_announced)
  pub within : WhereGiven source old new result (AtItem Nests old_position old_announced)
  pub marks_failure : new.has_failed ≡ is_err result
  pub ended : old.has_failed ≡ false → old_announced ≤ old_position → result ≡ Ok None
