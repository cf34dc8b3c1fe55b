-- Options of fields, as the members of a JSON object tell them, or the first key, in the order of reading, at
-- which what is wanted does not stand.
-- Keys that aren't named are passed over.
use Rattle.std.specs.Prelude.{ℕ, Bool, true, false, List, [], ◌∷◌, Option, None, Some, option_and_then, ok_or}
use Rattle.std.specs.Prelude.{Result, Ok, Err, codes, find}
use Rattle.std.specs.Str.{bytes_eq}
use Rattle.serde_json.specs.Data.{Data, null, boolean, object, Members}
use Rattle.serde_json.specs.Find.{get_member, as_bool, as_str, as_object}
use Rattle.tv_options.specs.Types.{all_types}
use Rattle.tv_options.specs.declared.facet_options.FacetOptions.{FacetOptions}
use Rattle.tv_options.specs.declared.flag_options.FlagOptions.{FlagOptions}
use Rattle.tv_options.specs.declared.text_options.IndexRecordOption.{IndexRecordOption}
use Rattle.tv_options.specs.declared.text_options.IndexRecordOption.TheVariants.{Basic, WithFreqs}
use Rattle.tv_options.specs.declared.text_options.IndexRecordOption.TheVariants.{WithFreqsAndPositions}
use Rattle.tv_options.specs.declared.own_part.Coercion.{Coercion}
use Rattle.tv_options.specs.declared.own_part.DotExpansion.{DotExpansion}
use Rattle.tv_options.specs.declared.own_part.OfBytes.{OfBytes}
use Rattle.tv_options.specs.declared.own_part.OfIpAddrs.{OfIpAddrs}
use Rattle.tv_options.specs.declared.text_options.FastFieldTextOptions.{FastFieldTextOptions}
use Rattle.tv_options.specs.declared.text_options.FastFieldTextOptions.TheVariants.{IsEnabled}
use Rattle.tv_options.specs.declared.text_options.FastFieldTextOptions.TheVariants.{EnabledWithTokenizer}
use Rattle.tv_options.specs.declared.text_options.TextFieldIndexing.{TextFieldIndexing}
use Rattle.tv_options.specs.declared.textual_options.TextualOptions.{TextualOptions}
use Rattle.tv_options.specs.declared.types.TypeTag.{TypeTag}
use Rattle.tv_options.specs.declared.types.TypeTag.TheVariants as tags
use Rattle.tv_date.specs.declared.date_time.DateTimePrecision.{DateTimePrecision}
use Rattle.tv_date.specs.declared.date_time.DateTimePrecision.TheVariants.{Seconds, Milliseconds}
use Rattle.tv_date.specs.declared.date_time.DateTimePrecision.TheVariants.{Microseconds, Nanoseconds}
use Rattle.tv_schema.specs.SchemaJson.{type_word, record_word, precision_word}
use Rattle.tv_schema.specs.declared.json.key.SchemaKey.{SchemaKey}
use Rattle.tv_schema.specs.declared.json.key.SchemaKey.TheVariants as keys
use Rattle.tv_field.specs.declared.field_type.FieldType.{FieldType}
use Rattle.tv_field.specs.declared.field_type.FieldType.TheVariants as types

infixl 10 ◌>>=◌
abbrev pub ◌>>=◌ : {A B : Type 0} → Result A SchemaKey → (A → Result B SchemaKey) → Result B SchemaKey
Ok found >>= next = next found
Err key >>= next = Err key

abbrev pub key_map : {A B : Type 0} → (A → B) → Result A SchemaKey → Result B SchemaKey
key_map f (Ok found) = Ok (f found)
key_map f (Err key) = Err key

-- ---- words

-- which of the values has this word
abbrev pub by_word : {A : Type 0} → (A → List ℕ) → List A → List ℕ → Option A
by_word word values text = find (λ value. bytes_eq (word value) text) values

unfoldable pub type_of_word : List ℕ → Option TypeTag
type_of_word text = by_word type_word all_types text

unfoldable pub record_of_word : List ℕ → Option IndexRecordOption
record_of_word text = by_word record_word (Basic ∷ WithFreqs ∷ WithFreqsAndPositions ∷ []) text

unfoldable pub precision_of_word : List ℕ → Option DateTimePrecision
precision_of_word text = by_word precision_word
    (Seconds ∷ Milliseconds ∷ Microseconds ∷ Nanoseconds ∷ []) text

-- ---- keys

abbrev pub key_name : SchemaKey → List ℕ
key_name keys.Name = codes "name"
key_name keys.Type = codes "type"
key_name keys.Options = codes "options"
key_name keys.Indexed = codes "indexed"
key_name keys.Stored = codes "stored"
key_name keys.Fieldnorms = codes "fieldnorms"
key_name keys.Fast = codes "fast"
key_name keys.FastOfText = codes "fast"
key_name keys.Coerce = codes "coerce"
key_name keys.Precision = codes "precision"
key_name keys.Indexing = codes "indexing"
key_name keys.Record = codes "record"
key_name keys.IndexingFieldnorms = codes "fieldnorms"
key_name keys.Tokenizer = codes "tokenizer"
key_name keys.WithTokenizer = codes "with_tokenizer"
key_name keys.ExpandDots = codes "expand_dots_enabled"

-- the data at the key
abbrev pub value_at : SchemaKey → Members → Option Data
value_at key members = get_member (key_name key) members

-- what is read of the data at the key, which must be there
abbrev pub required : {A : Type 0} → (Data → Option A) → SchemaKey → Members → Result A SchemaKey
required read key members = ok_or (option_and_then read (value_at key members)) key

unfoldable pub required_bool : SchemaKey → Members → Result Bool SchemaKey
required_bool key members = required as_bool key members

unfoldable pub required_text : SchemaKey → Members → Result (List ℕ) SchemaKey
required_text key members = required as_str key members

unfoldable pub required_object : SchemaKey → Members → Result Members SchemaKey
required_object key members = required as_object key members

-- what is read of the data, or the default where there is none
abbrev pub read_or : {A : Type 0} → A → (Data → Result A SchemaKey) → Option Data → Result A SchemaKey
read_or default read None = Ok default
read_or default read (Some found) = read found

-- the truth value at the key, or the default where the key isn't there
unfoldable pub bool_or : Bool → SchemaKey → Members → Result Bool SchemaKey
bool_or default key members = read_or default (λ found. ok_or (as_bool found) key) (value_at key members)

unfoldable pub text_or : List ℕ → SchemaKey → Members → Result (List ℕ) SchemaKey
text_or default key members = read_or default (λ found. ok_or (as_str found) key) (value_at key members)

-- the data, unless it is null
abbrev pub unless_null : Option Data → Option Data
unless_null None = None
unless_null (Some null) = None
unless_null (Some other) = Some other

-- the truth value at the key `fieldnorms`; as `indexed` where the key isn't there or null stands there
unfoldable pub fieldnorms_or : Bool → Members → Result Bool SchemaKey
fieldnorms_or indexed members = read_or indexed (λ found. ok_or (as_bool found) keys.Fieldnorms)
    (unless_null (value_at keys.Fieldnorms members))

-- ---- indexing and fast fields

unfoldable pub record_or_basic : Members → Result IndexRecordOption SchemaKey
record_or_basic members = read_or Basic (λ found. ok_or
    (option_and_then record_of_word (as_str found)) keys.Record) (value_at keys.Record members)

unfoldable pub indexing_of : Members → Result TextFieldIndexing SchemaKey
indexing_of members = do
  kept ← record_or_basic members
  fieldnorms ← bool_or true keys.IndexingFieldnorms members
  tokenizer ← text_or (codes "default") keys.Tokenizer members
  Ok (record { «record» = kept; fieldnorms = fieldnorms; tokenizer = tokenizer })

-- an indexing, which an object tells
abbrev pub some_indexing : Option Members → Result (Option TextFieldIndexing) SchemaKey
some_indexing None = Err keys.Indexing
some_indexing (Some members) = key_map Some (indexing_of members)

-- the indexing at the key `indexing`, and no indexing where the key isn't there or null stands there
unfoldable pub optional_indexing : Members → Result (Option TextFieldIndexing) SchemaKey
optional_indexing members = read_or None (λ found. some_indexing (as_object found))
    (unless_null (value_at keys.Indexing members))

-- a truth value, or an object with a tokenizer's name
unfoldable pub fast_field_of : Data → Result FastFieldTextOptions SchemaKey
fast_field_of (boolean enabled) = Ok (IsEnabled enabled)
fast_field_of (object members) = key_map EnabledWithTokenizer (required_text keys.WithTokenizer members)
fast_field_of other = Err keys.FastOfText

unfoldable pub fast_field_or_none : Members → Result FastFieldTextOptions SchemaKey
fast_field_or_none members = read_or (IsEnabled false) fast_field_of (value_at keys.FastOfText members)

-- a fast field, where there is a value
abbrev pub fast_field_in : Option Data → Result FastFieldTextOptions SchemaKey
fast_field_in None = Err keys.FastOfText
fast_field_in (Some found) = fast_field_of found

unfoldable pub required_fast_field : Members → Result FastFieldTextOptions SchemaKey
required_fast_field members = fast_field_in (value_at keys.FastOfText members)

-- ---- options

unfoldable pub text_options_of : Members → Result (TextualOptions Coercion) SchemaKey
text_options_of members = do
  indexing ← optional_indexing members
  stored ← bool_or false keys.Stored members
  fast ← fast_field_or_none members
  coerce ← bool_or false keys.Coerce members
  Ok (record { indexing = indexing; stored = stored; fast = fast; part = record { coerce = coerce } })

unfoldable pub numeric_options_of : Members → Result (FlagOptions Coercion) SchemaKey
numeric_options_of members = do
  indexed ← required_bool keys.Indexed members
  stored ← required_bool keys.Stored members
  fieldnorms ← fieldnorms_or indexed members
  fast ← bool_or false keys.Fast members
  coerce ← bool_or false keys.Coerce members
  Ok (record {
    indexed = indexed;
    fieldnorms = fieldnorms;
    fast = fast;
    stored = stored;
    part = record { coerce = coerce };
  })

unfoldable pub bytes_options_of : Members → Result (FlagOptions OfBytes) SchemaKey
bytes_options_of members = do
  indexed ← required_bool keys.Indexed members
  fast ← required_bool keys.Fast members
  stored ← required_bool keys.Stored members
  fieldnorms ← fieldnorms_or indexed members
  Ok (record { indexed = indexed; fieldnorms = fieldnorms; fast = fast; stored = stored; part = record {} })

unfoldable pub precision_or_seconds : Members → Result DateTimePrecision SchemaKey
precision_or_seconds members = read_or Seconds
    (λ found. ok_or (option_and_then precision_of_word (as_str found)) keys.Precision)
    (value_at keys.Precision members)

unfoldable pub date_options_of : Members → Result (FlagOptions DateTimePrecision) SchemaKey
date_options_of members = do
  indexed ← required_bool keys.Indexed members
  fieldnorms ← required_bool keys.Fieldnorms members
  stored ← required_bool keys.Stored members
  fast ← bool_or false keys.Fast members
  precision ← precision_or_seconds members
  Ok (record { indexed = indexed; fieldnorms = fieldnorms; fast = fast; stored = stored; part = precision })

unfoldable pub facet_options_of : Members → Result FacetOptions SchemaKey
facet_options_of members = do
  stored ← required_bool keys.Stored members
  Ok (record { stored = stored })

unfoldable pub json_object_options_of : Members → Result (TextualOptions DotExpansion) SchemaKey
json_object_options_of members = do
  stored ← required_bool keys.Stored members
  fast ← required_fast_field members
  indexing ← optional_indexing members
  expand_dots_enabled ← bool_or false keys.ExpandDots members
  Ok (record {
    stored = stored;
    indexing = indexing;
    fast = fast;
    part = record { expand_dots_enabled = expand_dots_enabled };
  })

unfoldable pub ip_addr_options_of : Members → Result (FlagOptions OfIpAddrs) SchemaKey
ip_addr_options_of members = do
  fast ← required_bool keys.Fast members
  stored ← required_bool keys.Stored members
  indexed ← required_bool keys.Indexed members
  fieldnorms ← required_bool keys.Fieldnorms members
  Ok (record { indexed = indexed; fieldnorms = fieldnorms; fast = fast; stored = stored; part = record {} })

-- the type with its options
unfoldable pub options_of : TypeTag → Members → Result FieldType SchemaKey
options_of tags.Str members = key_map types.Str (text_options_of members)
options_of tags.U64 members = key_map types.U64 (numeric_options_of members)
options_of tags.I64 members = key_map types.I64 (numeric_options_of members)
options_of tags.Bool members = key_map types.Bool (numeric_options_of members)
options_of tags.Date members = key_map types.Date (date_options_of members)
options_of tags.Facet members = key_map types.Facet (facet_options_of members)
options_of tags.Bytes members = key_map types.Bytes (bytes_options_of members)
options_of tags.Json members = key_map types.JsonObject (json_object_options_of members)
options_of tags.IpAddr members = key_map types.IpAddr (ip_addr_options_of members)
