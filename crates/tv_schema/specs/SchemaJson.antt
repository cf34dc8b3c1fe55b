-- A schema as JSON: what is written of it. The members of an object stand in byte order of their keys, which
-- `put` keeps.
use Rattle.std.specs.Prelude.{ℕ, Bool, true, List, [], ◌∷◌, Option, None, Some, option_map, codes}
use Rattle.std.specs.Prelude.{if◌then◌else◌}
use Rattle.serde_json.specs.Data.{Data, null, boolean, string, array, object, Items, no_items, item, Members}
use Rattle.serde_json.specs.Data.{no_members, member, put}
use Rattle.tv_options.specs.FastFieldTextOptions.{is_fast_field, tokenizer_of}
use Rattle.tv_options.specs.declared.facet_options.FacetOptions.{FacetOptions}
use Rattle.tv_options.specs.declared.flag_options.FlagOptions.{FlagOptions}
use Rattle.tv_options.specs.declared.text_options.IndexRecordOption.{IndexRecordOption}
use Rattle.tv_options.specs.declared.text_options.IndexRecordOption.TheVariants.{Basic, WithFreqs}
use Rattle.tv_options.specs.declared.text_options.IndexRecordOption.TheVariants.{WithFreqsAndPositions}
use Rattle.tv_options.specs.declared.own_part.Coercion.{Coercion}
use Rattle.tv_options.specs.declared.own_part.DotExpansion.{DotExpansion}
use Rattle.tv_options.specs.declared.own_part.OfBytes.{OfBytes}
use Rattle.tv_options.specs.declared.own_part.OfIpAddrs.{OfIpAddrs}
use Rattle.tv_options.specs.declared.text_options.TextFieldIndexing.{TextFieldIndexing}
use Rattle.tv_options.specs.declared.textual_options.TextualOptions.{TextualOptions}
use Rattle.tv_options.specs.declared.types.TypeTag.{TypeTag}
use Rattle.tv_options.specs.declared.types.TypeTag.TheVariants as tags
use Rattle.tv_date.specs.declared.date_time.DateTimePrecision.{DateTimePrecision}
use Rattle.tv_date.specs.declared.date_time.DateTimePrecision.TheVariants.{Seconds, Milliseconds}
use Rattle.tv_date.specs.declared.date_time.DateTimePrecision.TheVariants.{Microseconds, Nanoseconds}
use Rattle.tv_field.specs.Entry.{Entry, value_type}
use Rattle.tv_field.specs.declared.field_type.FieldType.{FieldType}
use Rattle.tv_field.specs.declared.field_type.FieldType.TheVariants as types

-- ---- words

abbrev pub type_word : TypeTag → List ℕ
type_word tags.Str = codes "text"
type_word tags.U64 = codes "u64"
type_word tags.I64 = codes "i64"
type_word tags.Bool = codes "bool"
type_word tags.Date = codes "date"
type_word tags.Facet = codes "facet"
type_word tags.Bytes = codes "bytes"
type_word tags.Json = codes "json_object"
type_word tags.IpAddr = codes "ip_addr"

abbrev pub record_word : IndexRecordOption → List ℕ
record_word Basic = codes "basic"
record_word WithFreqs = codes "freq"
record_word WithFreqsAndPositions = codes "position"

abbrev pub precision_word : DateTimePrecision → List ℕ
precision_word Seconds = codes "seconds"
precision_word Milliseconds = codes "milliseconds"
precision_word Microseconds = codes "microseconds"
precision_word Nanoseconds = codes "nanoseconds"

-- ---- members that may be left out

-- the members with `true` at the key, where it is so
abbrev pub put_true : List ℕ → Bool → Members → Members
put_true key is_so members = if is_so then put key (boolean true) members else members

-- the members with what there is at the key
abbrev pub put_some : List ℕ → Option Data → Members → Members
put_some key None members = members
put_some key (Some found) members = put key found members

-- ---- options

-- a fast field's tokenizer, or else whether there is a fast field
abbrev pub fast_json : Bool → Option (List ℕ) → Data
fast_json is_fast None = boolean is_fast
fast_json is_fast (Some tokenizer) = object (member (codes "with_tokenizer") (string tokenizer) no_members)

abbrev pub indexing_json : TextFieldIndexing → Data
indexing_json indexing = object (
    member (codes "fieldnorms") (boolean indexing.fieldnorms) (
    member (codes "record") (string (record_word indexing.«record»)) (
    member (codes "tokenizer") (string indexing.tokenizer) no_members)))

-- neither an indexing that isn't there nor `coerce` that isn't set is written
abbrev pub text_json : TextualOptions Coercion → Data
text_json options = object (
    put_true (codes "coerce") options.part.coerce (
    put_some (codes "indexing") (option_map indexing_json options.indexing) (
    member (codes "fast") (fast_json (is_fast_field options.fast) (tokenizer_of options.fast)) (
    member (codes "stored") (boolean options.stored) no_members))))

-- `fieldnorms` as it was asked for; `coerce` is not written where it isn't set
abbrev pub numeric_json : FlagOptions Coercion → Data
numeric_json options = object (
    put_true (codes "coerce") options.part.coerce (
    member (codes "fast") (boolean options.fast) (
    member (codes "fieldnorms") (boolean options.fieldnorms) (
    member (codes "indexed") (boolean options.indexed) (
    member (codes "stored") (boolean options.stored) no_members)))))

abbrev pub date_json : FlagOptions DateTimePrecision → Data
date_json options = object (
    member (codes "fast") (boolean options.fast) (
    member (codes "fieldnorms") (boolean options.fieldnorms) (
    member (codes "indexed") (boolean options.indexed) (
    member (codes "precision") (string (precision_word options.part)) (
    member (codes "stored") (boolean options.stored) no_members)))))

abbrev pub facet_json : FacetOptions → Data
facet_json options = object (member (codes "stored") (boolean options.stored) no_members)

abbrev pub bytes_json : FlagOptions OfBytes → Data
bytes_json options = object (
    member (codes "fast") (boolean options.fast) (
    member (codes "fieldnorms") (boolean options.fieldnorms) (
    member (codes "indexed") (boolean options.indexed) (
    member (codes "stored") (boolean options.stored) no_members))))

-- the indexing, or null
abbrev pub indexing_or_null : Option TextFieldIndexing → Data
indexing_or_null None = null
indexing_or_null (Some indexing) = indexing_json indexing

abbrev pub json_object_json : TextualOptions DotExpansion → Data
json_object_json options = object (
    member (codes "expand_dots_enabled") (boolean options.part.expand_dots_enabled) (
    member (codes "fast") (fast_json (is_fast_field options.fast) (tokenizer_of options.fast)) (
    member (codes "indexing") (indexing_or_null options.indexing) (
    member (codes "stored") (boolean options.stored) no_members))))

abbrev pub ip_addr_json : FlagOptions OfIpAddrs → Data
ip_addr_json options = object (
    member (codes "fast") (boolean options.fast) (
    member (codes "fieldnorms") (boolean options.fieldnorms) (
    member (codes "indexed") (boolean options.indexed) (
    member (codes "stored") (boolean options.stored) no_members))))

abbrev pub options_json : FieldType → Data
options_json (types.Str options) = text_json options
options_json (types.U64 options) = numeric_json options
options_json (types.I64 options) = numeric_json options
options_json (types.Bool options) = numeric_json options
options_json (types.Date options) = date_json options
options_json (types.Facet options) = facet_json options
options_json (types.Bytes options) = bytes_json options
options_json (types.JsonObject options) = json_object_json options
options_json (types.IpAddr options) = ip_addr_json options

-- ---- entries

abbrev pub entry_json : Entry → Data
entry_json entry = object (
    member (codes "name") (string entry.name) (
    member (codes "options") (options_json entry.field_type) (
    member (codes "type") (string (type_word (value_type entry.field_type))) no_members)))

abbrev pub entries_json : List Entry → Items
entries_json [] = no_items
entries_json (entry ∷ entries) = item (entry_json entry) (entries_json entries)

abbrev pub schema_json : List Entry → Data
schema_json schema = array (entries_json schema)
