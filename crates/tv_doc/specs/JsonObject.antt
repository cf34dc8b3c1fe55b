-- A JSON object as a document: which values it has for the fields of a schema, and what adding them returns.
--
-- The words of the public contracts:
-- `MakesFromObject`: the document of an object's members. `makes`: it has just the pairs of the object's
-- values, in order, which were added to an empty document, or the error is that of the first value that was
-- refused. `belongs`: each of its pairs has a field of the schema.
-- `ParsesDocument`: the document of a text. `parses`: it is that of the object that the text encodes, or the
-- text is refused for this error.
-- `belongs`: each of its pairs has a field of the schema.
-- `ParsesInto`: the same in the place of a document. `parses` and `belongs`: where the call returns no error,
-- what is left in the place is the document of the text. `none`: where it returns an error, no pair is left
-- in the place.
use Rattle.std.specs.Prelude.{◌≡◌, ◌≢◌, ℕ, List, [], ◌∷◌, ◌++◌, Option, Some, None, Result, Ok, Err, IfOk}
use Rattle.std.specs.Prelude.{OnOk, OnErr, slice_get, string_bytes}
use Rattle.std.specs.Fmt.{take_chars}
use Rattle.serde_json.specs.Data as json
use Rattle.serde_json.specs.Data.{Data, Items, Members}
use Rattle.serde_json.specs.Read.{read}
use Rattle.tv_field.specs.Entry.{Entry}
use Rattle.tv_field.specs.JsonAnswer.{error_of, refusal_of, TakesMemory}
use Rattle.tv_field.specs.JsonTable.{TableRefusal, Table}
use Rattle.tv_schema.specs.Schema.{field_named}
use Rattle.tv_field.specs.declared.field_type.FieldType.{FieldType}
use Rattle.tv_field.specs.declared.json_value.JsonRefusal.{JsonRefusal}
use Rattle.tv_format.specs.Tree.{Tree, Document}
use Rattle.tv_doc.specs.Additions.{AddsEach, IsEmpty, IsMade}
use Rattle.tv_doc.specs.Belongs.{Belongs}
use Rattle.tv_doc.specs.Document.{document_of, RefusesAddition}
use Rattle.tv_doc.specs.InPlace.{in_place}
use Rattle.tv_builder.specs.declared.errors.AddError.{AddError}
use Rattle.tv_builder.specs.declared.errors.AddError.TheVariants as add_error
use Rattle.tv_doc.specs.declared.errors.DocParsingError.{DocParsingError}
use Rattle.tv_doc.specs.declared.errors.DocParsingError.TheVariants as error
use Rattle.tv_doc.specs.declared.document.CompactDoc.{CompactDoc}
use Rattle.tv_doc.specs.declared.json_object.NamedField.{NamedField}

-- a JSON value for a field, with the field's name, number and type
pub record FieldJson : Type 0 where
  pub name : List ℕ
  pub field : ℕ
  pub field_type : FieldType
  pub value : Data

-- an array stands for its items
abbrev pub item_values : List ℕ → ℕ → FieldType → Items → List FieldJson
item_values name field field_type json.no_items = []
item_values name field field_type (json.item d ds) =
    record { name = name; field = field; field_type = field_type; value = d }
    ∷ item_values name field field_type ds

-- the values that a field of the schema is given, for private clauses
abbrev pub value_for : NamedField → Data → FieldJson
value_for to datum = record {
  name = to.name.now;
  field = to.field.id;
  field_type = to.field_type.now;
  value = datum;
}

abbrev pub items_for : NamedField → Items → List FieldJson
items_for to ds = item_values to.name.now to.field.id to.field_type.now ds

abbrev pub values_for : List ℕ → ℕ → FieldType → Data → List FieldJson
values_for name field field_type (json.array ds) = item_values name field field_type ds
values_for name field field_type datum = record {
  name = name;
  field = field;
  field_type = field_type;
  value = datum;
}
    ∷ []

abbrev pub values_of_entry : List ℕ → ℕ → Option Entry → Data → List FieldJson
values_of_entry name field None datum = []
values_of_entry name field (Some entry) datum = values_for name field entry.field_type datum

-- a key that names no field is skipped, whatever its value
abbrev pub values_at : List Entry → List ℕ → Option ℕ → Data → List FieldJson
values_at schema name None datum = []
values_at schema name (Some field) datum = values_of_entry name field (slice_get schema field) datum

-- the values of an object for the fields of a schema, in byte order of the keys
abbrev pub object_values : List Entry → Members → List FieldJson
object_values schema json.no_members = []
object_values schema (json.member k d ms) = values_at schema k (field_named schema k) d
    ++ object_values schema ms

-- the pairs of these values by the table
abbrev pub Pairs : List FieldJson → Document → Type 0
Pairs [] pairs = pairs ≡ []
Pairs (v ∷ vs) pairs =
    (tree : Tree) × (rest : Document) × Table v.field_type v.value (Ok tree)
    × (pairs ≡ (v.field, tree) ∷ rest) × Pairs vs rest

-- Where memory is refused for a value: for its pair, for which the heap has room; for what the field's type
-- makes of it before, see
-- `TakesMemory`; or for the error of a value that the type refuses, which has a copy of the field's name.
pub data IsShort (json : FieldJson) (document : CompactDoc) : Type 0 where
  for_pair : (tree : Tree) → Table json.field_type json.value (Ok tree)
      → RefusesAddition document tree add_error.Memory
      → IsShort json document
  for_value : TakesMemory json.field_type json.value → IsShort json document
  for_error : (refusal : TableRefusal) → Table json.field_type json.value (Err refusal)
      → IsShort json document

-- the tree that the table has for the value is refused by this document
abbrev pub RefusesRow : FieldJson → CompactDoc → AddError → Type 0
RefusesRow v doc e = (tree : Tree) × Table v.field_type v.value (Ok tree) × RefusesAddition doc tree e

-- Why a value is refused: by the table, or by the document that holds what was added before.
abbrev pub IsRefused : FieldJson → CompactDoc → DocParsingError → Type 0
IsRefused v doc (error.ValueError name e) =
    (refusal : TableRefusal) × (string_bytes name ≡ v.name) × (error_of e ≡ Some refusal)
    × Table v.field_type v.value (Err refusal)
IsRefused v doc (error.Add add_error.HeapFull) = RefusesRow v doc add_error.HeapFull
IsRefused v doc (error.Add add_error.Memory) = ⊥
IsRefused v doc (error.InvalidJson text) = ⊥
IsRefused v doc error.Memory = IsShort v doc

-- the error for a value that the type of the field with this name refuses for this
abbrev pub IsValueError : List ℕ → Data → JsonRefusal → DocParsingError → Type 0
IsValueError name datum r (error.ValueError copy e) = (refusal : TableRefusal) × (string_bytes copy ≡ name)
    × (error_of e ≡ Some refusal) × (refusal_of datum r ≡ Some refusal)
IsValueError name datum r error.Memory = Unit {0}
IsValueError name datum r e = ⊥

-- the trees that the table has for these values are added, one after the other
pub record AddsFieldValues (values : List FieldJson) (old new : CompactDoc) : Type 0 where
  pub pairs : Document
  pub by_table : Pairs values pairs
  pub adds : AddsEach pairs old new

-- The first of these values that is refused, by the document to which those before it were added.
pub record StopsAt (values : List FieldJson) (old : CompactDoc) (error : DocParsingError) : Type 0 where
  pub before : List FieldJson
  pub at : FieldJson
  pub behind : List FieldJson
  pub joined : values ≡ before ++ at ∷ behind
  pub mid : CompactDoc
  pub added : AddsFieldValues before old mid
  pub refused : IsRefused at mid error

-- all are added, or the first refusal is returned
abbrev pub AddsValues : {T : Type 0} → List FieldJson → CompactDoc → CompactDoc → Result T DocParsingError
    → Type 0
AddsValues values old new (Ok x) = AddsFieldValues values old new
AddsValues values old new (Err e) = StopsAt values old e

-- the same where memory may be refused at any value, and where the first refusal is reported beside
abbrev pub AddsOrTells : List FieldJson → CompactDoc → CompactDoc → Option (Unit {0}) → Option DocParsingError
    → Type 0
AddsOrTells values old new (Some x) reason = AddsFieldValues values old new
AddsOrTells values old new None (Some e) = e ≢ error.Memory → StopsAt values old e
AddsOrTells values old new None None = ⊥

-- the first refusal of these values by a document that was empty
abbrev pub RefusesValues : List FieldJson → DocParsingError → Type 0
RefusesValues values e = (start : CompactDoc) × IsEmpty start × StopsAt values start e

-- the document has just the pairs of these values, which were added to an empty one, or the first refusal is
-- returned
abbrev pub MakesDocument : List FieldJson → Result CompactDoc DocParsingError → Type 0
MakesDocument values (Ok made) = Pairs values (document_of made) × IsMade made
MakesDocument values (Err e) = RefusesValues values e

-- the error for a text that is no JSON object
abbrev pub IsInvalidJson : List ℕ → DocParsingError → Type 0
IsInvalidJson text (error.InvalidJson start) = string_bytes start ≡ take_chars 20 text
IsInvalidJson text error.Memory = Unit {0}
IsInvalidJson text e = ⊥

-- the text is no JSON object
abbrev pub IsNoObject : List ℕ → Type 0
IsNoObject text = (members : Members) → ¬ (read text ≡ Some (json.object members))

-- The document is that of the object that the text encodes, or the text is refused with its first 20
-- characters. Where memory is refused, that may
-- be as the text is read.
abbrev pub Parses : List Entry → List ℕ → Result CompactDoc DocParsingError → Type 0
Parses schema text (Ok made) =
    (members : Members) × (read text ≡ Some (json.object members))
    × MakesDocument (object_values schema members) (Ok made)
Parses schema text (Err (error.InvalidJson start)) = IsNoObject text
    × (string_bytes start ≡ take_chars 20 text)
Parses schema text (Err error.Memory) = Unit {0}
Parses schema text (Err e) = (members : Members) × (read text ≡ Some (json.object members))
    × RefusesValues (object_values schema members) e

-- the same where the error is reported beside; where none is, the text isn't read so
abbrev pub ParsesOrTells : List Entry → List ℕ → CompactDoc → Option (Unit {0}) → Option DocParsingError
    → Type 0
ParsesOrTells schema text new (Some x) reason = Parses schema text (Ok new)
ParsesOrTells schema text new None (Some e) = Parses schema text (Err e)
ParsesOrTells schema text new None None = Unit {0}

-- ---- the words of the public contracts

-- the document of an object's members, whose fields are those of the schema
pub record MakesFromObject (schema : List Entry) (members : Members)
    (result : Result CompactDoc DocParsingError) : Type 0 where
  pub makes : MakesDocument (object_values schema members) result
  pub belongs : IfOk result (λ made. Belongs schema (document_of made))

-- the document of a text, whose fields are those of the schema
pub record ParsesDocument (schema : List Entry) (text : List ℕ)
    (result : Result CompactDoc DocParsingError) : Type 0 where
  pub parses : Parses schema text result
  pub belongs : IfOk result (λ made. Belongs schema (document_of made))

-- the same in the place of a document, where an error leaves no pair
pub record ParsesInto (schema : List Entry) (text : List ℕ) (new : CompactDoc)
    (result : Result (Unit {0}) DocParsingError) : Type 0 where
  pub parses : Parses schema text (in_place result new)
  pub belongs : OnOk result (Belongs schema (document_of new))
  pub none : OnErr result (document_of new ≡ [])
