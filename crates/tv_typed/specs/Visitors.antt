-- What calls promise that hand a value to a visitor, by what it answers.
use Rattle.std.specs.Prelude.{Result}
use Rattle.tv_base.specs.declared.source.ByteSource.{Ghosts}
use Rattle.tv_format.specs.Version.{V2, entry_total}
use Rattle.tv_reader.specs.Version.{version_of}
use Rattle.tv_reader.specs.declared.error.DeserializeError.{DeserializeError}
use Rattle.tv_reader.specs.declared.value_type.ValueType.{ValueType}
use Rattle.tv_reader.specs.declared.value_type.ValueType.TheVariants as types
use Rattle.tv_typed.specs.Lists.{element_total}
use Rattle.tv_typed.specs.Typed.{LeftValue, value_reader}
use Rattle.tv_typed.specs.Visits.{VisitsBy, VisitsItemsBy, VisitsKindBy, VisitsLegacyBy}
use Rattle.tv_typed.specs.declared.de.BinaryValueDeserializer.{BinaryValueDeserializer}
use Rattle.tv_typed.specs.declared.leaf_values.ValueVisitor.{Ghosts as VisitorGhosts}
use Rattle.tv_typed.specs.declared.store_reader.StoreReader.{StoreReader}

-- a leaf was handed on
abbrev pub Visits : {S V X : Type 0} (source : Ghosts S) (calls : VisitorGhosts V X) (visitor : V)
    (kind : ValueType)
    (old new : StoreReader S) (result : Result X DeserializeError) → Type 0
Visits source calls visitor kind old new result =
    VisitsBy source.is_known source.left source.failures old new kind (calls.answers visitor) result

-- the values of an array were handed on
abbrev pub VisitsArray : {S V X : Type 0} (source : Ghosts S) (calls : VisitorGhosts V X) (visitor : V)
    (kind : ValueType) (old new : StoreReader S) (result : Result X DeserializeError) → Type 0
VisitsArray source calls visitor kind old new result =
    VisitsItemsBy source.is_known source.left source.failures old new types.Array element_total
    (calls.of_array visitor (version_of old.version)) (calls.array_refused visitor (version_of old.version))
    kind result

-- the entries of an object were handed on
abbrev pub VisitsObject : {S V X : Type 0} (source : Ghosts S) (calls : VisitorGhosts V X) (visitor : V)
    (kind : ValueType) (old new : StoreReader S) (result : Result X DeserializeError) → Type 0
VisitsObject source calls visitor kind old new result =
    VisitsItemsBy source.is_known source.left source.failures old new types.Object
    (entry_total (version_of old.version)) (calls.of_object visitor (version_of old.version))
    (calls.object_refused visitor (version_of old.version)) kind result

-- the entries of a legacy object were handed on
abbrev pub VisitsLegacy : {S V X : Type 0} (source : Ghosts S) (calls : VisitorGhosts V X) (visitor : V)
    (old new : StoreReader S) (result : Result X DeserializeError) → Type 0
VisitsLegacy source calls visitor old new result =
    VisitsLegacyBy source.is_known source.left source.failures old new
    (calls.of_object visitor V2) (calls.object_refused visitor V2) result

-- what stands after the code of a type was handed to the call for it
abbrev pub VisitsKind : {S V X : Type 0} (source : Ghosts S) (calls : VisitorGhosts V X) (visitor : V)
    (kind : ValueType) (old new : StoreReader S) (result : Result X DeserializeError) → Type 0
VisitsKind source calls visitor kind old new result =
    VisitsKindBy source.is_known source.left source.failures kind (calls.answers visitor)
    (calls.of_array visitor) (calls.array_refused visitor) (calls.of_object visitor)
    (calls.object_refused visitor)
    old new result

-- the same of a value that the call takes
abbrev pub VisitsValue : {K S V X : Type 0} (source : Ghosts S) (calls : VisitorGhosts V X) (visitor : V)
    (value : BinaryValueDeserializer S) (left : LeftValue K S) (result : Result X DeserializeError) → Type 0
VisitsValue source calls visitor value left result =
    VisitsKind source calls visitor value.kind value.reader.now (value_reader left) result
