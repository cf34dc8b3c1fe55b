-- What calls promise that read values as their type says that they are read: the next one, the next
-- of several, and all that are left.
use Rattle.std.specs.Prelude.{◌≡◌, ◌-◌, ℕ, [], is_err, List, Option, Result, String, Vec}
use Rattle.std.specs.declared.alloc.Global.{Global}
use Rattle.tv_base.specs.declared.source.ByteSource.{Ghosts}
use Rattle.tv_base.specs.ErrorInPart.{InEach}
use Rattle.tv_format.specs.Tree.{Tree}
use Rattle.tv_format.specs.Version.{Version}
use Rattle.tv_reader.specs.Version.{version_of}
use Rattle.tv_reader.specs.declared.error.DeserializeError.{DeserializeError}
use Rattle.tv_reader.specs.declared.value_type.ValueType.{ValueType}
use Rattle.tv_typed.specs.Depths.{AmongRead, AtEach, AtEntry, AtField, AtValue, MembersTooDeep, MembersWithin}
use Rattle.tv_typed.specs.Depths.{ObjectTooDeep, ObjectWithin, WhereRead, WhereTooDeep}
use Rattle.tv_typed.specs.Documents.{EncodesField, FieldRefused}
use Rattle.tv_typed.specs.LegacyObjects.{MembersRefused}
use Rattle.tv_typed.specs.Lists.{EncodesEntry, EncodesInto, EntryRefused, IsListOf, ObjectRefused}
use Rattle.tv_typed.specs.Reads.{ReadsItem, ReadsItems, ReadsMarked, ReadsBehind}
use Rattle.tv_typed.specs.Typed.{Deserializes, LeftItems, LeftValue, items_reader, value_reader}
use Rattle.tv_typed.specs.Values.{EncodedAs, EncodesAs, NextRefused, Only}
use Rattle.tv_typed.specs.declared.array.BinaryArrayDeserializer.{BinaryArrayDeserializer}
use Rattle.tv_typed.specs.declared.de.BinaryValueDeserializer.{BinaryValueDeserializer}
use Rattle.tv_typed.specs.declared.de.ValueDeserialize.{Ghosts as ValueGhosts}
use Rattle.tv_typed.specs.declared.document.BinaryDocumentDeserializer.{BinaryDocumentDeserializer}
use Rattle.tv_typed.specs.declared.object.BinaryObjectDeserializer.{BinaryObjectDeserializer}
use Rattle.tv_typed.specs.declared.store_reader.StoreReader.{StoreReader}
use Rattle.tv_value.specs.declared.field.Field.{Field}

-- ---- the next value

-- The next value, with its code; that it is read wherever one is encoded; and that each refusal is
-- marked, whoever it is of.
pub record ReadsNext {S X : Type 0} (source : Ghosts S) (value : ValueGhosts X)
    (old new : StoreReader S) (result : Result X DeserializeError) : Type 0 where
  pub deserializes : Deserializes source old new result
      (EncodesAs value.is (version_of old.version)) (NextRefused value.refused (version_of old.version))
  pub only : Only source old new result value.is (version_of old.version) []
  pub marks_failure : new.has_failed ≡ is_err result
  pub deep : WhereTooDeep source old new result (AtValue value.deep)
  pub within : WhereRead source old new result (AtValue value.within)

-- the next key, and the value after it
abbrev pub ReadsEntry : {S X : Type 0} (source : Ghosts S) (value : ValueGhosts X)
    (old new : StoreReader S) (result : Result (String Global × X) DeserializeError) → Type 0
ReadsEntry source value old new result =
    ReadsMarked source (EncodesEntry value.is) (EntryRefused value.refused)
    (AtEntry value.deep) (AtEntry value.within) old new result

-- the next field, and the value after it
abbrev pub ReadsPair : {S X : Type 0} (source : Ghosts S) (value : ValueGhosts X)
    (old new : StoreReader S) (result : Result (Field × X) DeserializeError) → Type 0
ReadsPair source value old new result =
    ReadsMarked source (EncodesField value.is) (FieldRefused value.refused)
    (AtField value.deep) (AtField value.within) old new result

-- ---- this many

-- a list of values
abbrev pub ReadsList : {S X : Type 0} (source : Ghosts S) (value : ValueGhosts X) (count : ℕ)
    (old new : StoreReader S) (result : Result (Vec X Global) DeserializeError) → Type 0
ReadsList source value count old new result =
    ReadsItems source IsListOf (EncodesAs value.is) (NextRefused value.refused)
    (AtValue value.deep) (AtValue value.within) count old new result

-- what is made of keys and values
abbrev pub ReadsEntries : {S C X : Type 0} (source : Ghosts S) (Made : C → List (String Global × X) → Type 0)
    (value : ValueGhosts X) (count : ℕ)
    (old new : StoreReader S) (result : Result C DeserializeError) → Type 0
ReadsEntries source Made value count old new result =
    ReadsItems source Made (EncodesEntry value.is) (EntryRefused value.refused)
    (AtEntry value.deep) (AtEntry value.within) count old new result

-- ---- one type's values after their code

-- a value that the call takes, and that each refusal is marked
abbrev pub DeserializesMarked : {K S X : Type 0} (source : Ghosts S) (value : ValueGhosts X)
    (taken : BinaryValueDeserializer S) (left : LeftValue K S) (result : Result X DeserializeError) → Type 0
DeserializesMarked source value taken left result =
    ReadsMarked source (λ version. EncodedAs value.is version taken.kind)
    (λ version. value.refused version taken.kind) (λ version levels. value.deep version levels taken.kind)
    (λ version levels. value.within version levels taken.kind) taken.reader.now (value_reader left) result

-- what is read of any object that the call takes, and that each refusal is marked
abbrev pub DeserializesMembers : {K S C X : Type 0} (source : Ghosts S) (is : Tree → C → Type 0)
    (value : ValueGhosts X) (taken : BinaryValueDeserializer S) (left : LeftValue K S)
    (result : Result C DeserializeError) → Type 0
DeserializesMembers source is value taken left result =
    ReadsMarked source (λ version. EncodedAs is version taken.kind)
    (λ version. MembersRefused (ObjectRefused value.is value.refused) version taken.kind)
    (λ version levels. MembersTooDeep value.is value.deep version levels taken.kind)
    (λ version levels. MembersWithin value.within version levels taken.kind)
    taken.reader.now (value_reader left) result

-- what is read of an object that isn't a legacy one
abbrev pub ReadsObject : {S C X : Type 0} (source : Ghosts S) (is : Tree → C → Type 0) (value : ValueGhosts X)
    (kind : ValueType) (old new : StoreReader S) (result : Result C DeserializeError) → Type 0
ReadsObject source is value kind old new result =
    ReadsBehind source is (ObjectRefused value.is value.refused)
    (ObjectTooDeep value.is value.deep) (ObjectWithin value.within) kind old new result

-- what is read of any object
abbrev pub ReadsMembers : {S C X : Type 0} (source : Ghosts S) (is : Tree → C → Type 0)
    (value : ValueGhosts X)
    (kind : ValueType) (old new : StoreReader S) (result : Result C DeserializeError) → Type 0
ReadsMembers source is value kind old new result =
    ReadsBehind source is (MembersRefused (ObjectRefused value.is value.refused))
    (MembersTooDeep value.is value.deep) (MembersWithin value.within) kind old new result

-- ---- the next of several

-- the next value of an array
abbrev pub ReadsElement : {S X : Type 0} (source : Ghosts S) (value : ValueGhosts X)
    (old new : BinaryArrayDeserializer S) (result : Result (Option X) DeserializeError) → Type 0
ReadsElement source value old new result =
    ReadsItem source (EncodesAs value.is) (NextRefused value.refused) (AtValue value.deep)
    (AtValue value.within)
    old.announced old.position old.reader.now new.announced new.position new.reader.now result

-- the next key of an object, and the value after it
abbrev pub ReadsNextEntry : {S X : Type 0} (source : Ghosts S) (value : ValueGhosts X)
    (old new : BinaryObjectDeserializer S) (result : Result (Option (String Global × X)) DeserializeError)
    → Type 0
ReadsNextEntry source value old new result =
    ReadsItem source (EncodesEntry value.is) (EntryRefused value.refused) (AtEntry value.deep)
    (AtEntry value.within)
    old.announced old.position old.reader.now new.announced new.position new.reader.now result

-- the next field of a document, and the value after it
abbrev pub ReadsNextPair : {S X : Type 0} (source : Ghosts S) (value : ValueGhosts X)
    (old new : BinaryDocumentDeserializer S) (result : Result (Option (Field × X)) DeserializeError) → Type 0
ReadsNextPair source value old new result =
    ReadsItem source (EncodesField value.is) (FieldRefused value.refused) (AtField value.deep)
    (AtField value.within)
    old.announced old.position old.reader.now new.announced new.position new.reader.now result

-- ---- all that are left

-- this many items, and that each refusal is marked
abbrev pub ReadsAll : {S X : Type 0} (source : Ghosts S)
    (Item : Version → List ℕ → X → Type 0) (Refused : Version → List ℕ → DeserializeError → Type 0)
    (TooDeep Nests : Version → ℕ → List ℕ → List ℕ → Type 0) (count : ℕ)
    (old new : StoreReader S) (result : Result (Vec X Global) DeserializeError) → Type 0
ReadsAll source Item Refused TooDeep Nests count old new result =
    ReadsMarked source (λ version. EncodesInto IsListOf (Item version) count)
    (λ version. InEach (Refused version) (Item version) count)
    (λ version levels. AmongRead (Item version) (TooDeep version levels) count)
    (λ version levels. AtEach (Nests version levels) count) old new result

-- the values of an array that the call takes
abbrev pub ReadsAllElements : {S X : Type 0} (source : Ghosts S) (value : ValueGhosts X)
    (taken : BinaryArrayDeserializer S) (left : LeftItems S) (result : Result (Vec X Global) DeserializeError)
    → Type 0
ReadsAllElements source value taken left result =
    ReadsAll source (EncodesAs value.is) (NextRefused value.refused) (AtValue value.deep)
    (AtValue value.within)
    (taken.announced - taken.position) taken.reader.now (items_reader left) result

-- the keys with values of an object that the call takes
abbrev pub ReadsAllEntries : {S X : Type 0} (source : Ghosts S) (value : ValueGhosts X)
    (taken : BinaryObjectDeserializer S) (left : LeftItems S)
    (result : Result (Vec (String Global × X) Global) DeserializeError) → Type 0
ReadsAllEntries source value taken left result =
    ReadsAll source (EncodesEntry value.is) (EntryRefused value.refused) (AtEntry value.deep)
    (AtEntry value.within)
    (taken.announced - taken.position) taken.reader.now (items_reader left) result
