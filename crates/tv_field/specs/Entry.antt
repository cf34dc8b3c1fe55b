-- An entry of a schema: a name, and a type with its options.
use Rattle.std.specs.Prelude.{ℕ, Bool, true, false, not, ◌&&◌, ◌==◌, ◌≡◌, List, [], ◌∷◌, IsTrue, Option, None}
use Rattle.std.specs.Prelude.{Some, is_some, if◌then◌else◌, Result, Ok, Err}
use Rattle.tv_options.specs.FastFieldTextOptions.{is_fast_field}
use Rattle.tv_options.specs.declared.text_options.IndexRecordOption.{IndexRecordOption}
use Rattle.tv_options.specs.declared.text_options.IndexRecordOption.TheVariants.{Basic}
use Rattle.tv_options.specs.declared.text_options.TextFieldIndexing.{TextFieldIndexing}
use Rattle.tv_options.specs.declared.types.TypeTag.{TypeTag}
use Rattle.tv_options.specs.declared.types.TypeTag.TheVariants as tags
use Rattle.tv_field.specs.declared.field_type.FieldType.{FieldType}
use Rattle.tv_field.specs.declared.field_type.FieldType.TheVariants as types
use Rattle.tv_field.specs.declared.field_entry.SchemaError.{SchemaError}
use Rattle.tv_field.specs.declared.field_entry.SchemaError.TheVariants.{InvalidName}

pub record Entry : Type 0 where
  pub name : List ℕ
  pub field_type : FieldType

-- not empty, and without a minus sign before it
abbrev pub is_valid_name : List ℕ → Bool
is_valid_name [] = false
is_valid_name (b ∷ bs) = not (b == 45)

abbrev pub IsValidName : List ℕ → Type 0
IsValidName name = IsTrue (is_valid_name name)

-- the entry is of this name and type, and only an invalid name is refused
abbrev pub MakesEntry : List ℕ → FieldType → Result Entry SchemaError → Type 0
MakesEntry name field_type (Ok entry) = IsValidName name
    × (entry ≡ record { name = name; field_type = field_type })
MakesEntry name field_type (Err error) = (is_valid_name name ≡ false) × (error ≡ InvalidName)

abbrev pub value_type : FieldType → TypeTag
value_type (types.Str options) = tags.Str
value_type (types.U64 options) = tags.U64
value_type (types.I64 options) = tags.I64
value_type (types.Bool options) = tags.Bool
value_type (types.Date options) = tags.Date
value_type (types.Facet options) = tags.Facet
value_type (types.Bytes options) = tags.Bytes
value_type (types.JsonObject options) = tags.Json
value_type (types.IpAddr options) = tags.IpAddr

-- whether values of the type are kept in the document store
abbrev pub is_stored_type : FieldType → Bool
is_stored_type (types.Str options) = options.stored
is_stored_type (types.U64 options) = options.stored
is_stored_type (types.I64 options) = options.stored
is_stored_type (types.Bool options) = options.stored
is_stored_type (types.Date options) = options.stored
is_stored_type (types.Facet options) = options.stored
is_stored_type (types.Bytes options) = options.stored
is_stored_type (types.JsonObject options) = options.stored
is_stored_type (types.IpAddr options) = options.stored

-- whether values of the type can be searched for
abbrev pub is_indexed_type : FieldType → Bool
is_indexed_type (types.Str options) = is_some options.indexing
is_indexed_type (types.U64 options) = options.indexed
is_indexed_type (types.I64 options) = options.indexed
is_indexed_type (types.Bool options) = options.indexed
is_indexed_type (types.Date options) = options.indexed
is_indexed_type (types.Facet options) = true
is_indexed_type (types.Bytes options) = options.indexed
is_indexed_type (types.JsonObject options) = is_some options.indexing
is_indexed_type (types.IpAddr options) = options.indexed

-- whether values of the type stand in a column too
abbrev pub is_fast_type : FieldType → Bool
is_fast_type (types.Str options) = is_fast_field options.fast
is_fast_type (types.U64 options) = options.fast
is_fast_type (types.I64 options) = options.fast
is_fast_type (types.Bool options) = options.fast
is_fast_type (types.Date options) = options.fast
is_fast_type (types.Facet options) = true
is_fast_type (types.Bytes options) = options.fast
is_fast_type (types.JsonObject options) = is_fast_field options.fast
is_fast_type (types.IpAddr options) = options.fast

abbrev pub has_fieldnorms_text : Option TextFieldIndexing → Bool
has_fieldnorms_text None = false
has_fieldnorms_text (Some indexing) = indexing.fieldnorms

-- whether field norms are kept: of numbers, truth values and dates only where these can be searched for
abbrev pub has_fieldnorms_type : FieldType → Bool
has_fieldnorms_type (types.Str options) = has_fieldnorms_text options.indexing
has_fieldnorms_type (types.U64 options) = options.fieldnorms && options.indexed
has_fieldnorms_type (types.I64 options) = options.fieldnorms && options.indexed
has_fieldnorms_type (types.Bool options) = options.fieldnorms && options.indexed
has_fieldnorms_type (types.Date options) = options.fieldnorms && options.indexed
has_fieldnorms_type (types.Facet options) = false
has_fieldnorms_type (types.Bytes options) = options.fieldnorms
has_fieldnorms_type (types.JsonObject options) = false
has_fieldnorms_type (types.IpAddr options) = options.fieldnorms

abbrev pub record_of : Option TextFieldIndexing → Option IndexRecordOption
record_of None = None
record_of (Some indexing) = Some indexing.«record»

abbrev pub basic_where : Bool → Option IndexRecordOption
basic_where is_indexed = if is_indexed then Some Basic else None

-- what an index keeps of each term
abbrev pub record_option : FieldType → Option IndexRecordOption
record_option (types.Str options) = record_of options.indexing
record_option (types.U64 options) = basic_where options.indexed
record_option (types.I64 options) = basic_where options.indexed
record_option (types.Bool options) = basic_where options.indexed
record_option (types.Date options) = basic_where options.indexed
record_option (types.Facet options) = Some Basic
record_option (types.Bytes options) = basic_where options.indexed
record_option (types.JsonObject options) = record_of options.indexing
record_option (types.IpAddr options) = basic_where options.indexed

-- whether dots part the keys of the type's JSON objects
abbrev pub expands_dots : FieldType → Bool
expands_dots (types.JsonObject options) = options.part.expand_dots_enabled
expands_dots other = false
