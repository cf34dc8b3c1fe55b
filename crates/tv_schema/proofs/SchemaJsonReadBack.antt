-- What is written of a schema is read as that schema.
use Rattle.std.proofs.Common.{◌≡◌, ◌≢◌, ℕ, suc, ◌+◌, ◌<◌, Bool, true, false, List, [], ◌∷◌, ◌++◌, length, get_or, Option, Some, None, Result, Ok, Err, refl, sym, ap, ◌∙◌, arith, append_assoc, append-nil, subst, eqb}
use Rattle.std.proofs.lemmas.Bool.{ne_eqb}
use Rattle.std.proofs.lemmas.Grind.{common_steps}
use Rattle.std.proofs.lemmas.List.{length-append}
use Rattle.std.proofs.lemmas.Slice.Eq.{bytes_eq-Decides}
use Rattle.std.specs.Str.{bytes_eq}
use Rattle.serde_json.specs.Find.{as_object}
use Rattle.tv_options.specs.declared.flag_options.FlagOptions.{FlagOptions}
use Rattle.tv_options.specs.declared.text_options.IndexRecordOption.{IndexRecordOption}
use Rattle.tv_options.specs.declared.text_options.IndexRecordOption.TheVariants.{Basic, WithFreqs, WithFreqsAndPositions}
use Rattle.tv_options.specs.declared.own_part.Coercion.{Coercion}
use Rattle.tv_options.specs.declared.text_options.FastFieldTextOptions.{FastFieldTextOptions}
use Rattle.tv_options.specs.declared.text_options.FastFieldTextOptions.TheVariants.{IsEnabled, EnabledWithTokenizer}
use Rattle.tv_options.specs.declared.text_options.TextFieldIndexing.{TextFieldIndexing}
use Rattle.tv_options.specs.declared.types.TypeTag.{TypeTag}
use Rattle.tv_options.specs.declared.types.TypeTag.TheVariants as tags
use Rattle.tv_options.specs.FastFieldTextOptions.{is_fast_field, tokenizer_of}
use Rattle.tv_date.specs.declared.date_time.DateTimePrecision.{DateTimePrecision}
use Rattle.tv_date.specs.declared.date_time.DateTimePrecision.TheVariants.{Seconds, Milliseconds, Microseconds, Nanoseconds}
use Rattle.tv_field.specs.Entry.{Entry, value_type, is_valid_name}
use Rattle.tv_schema.specs.Schema.{IsSchema, refusal, field_named, place_from}
use Rattle.tv_schema.specs.SchemaJson.{type_word, record_word, precision_word, fast_json, indexing_json, text_json, numeric_json, date_json, json_object_json, options_json, entry_json, entries_json, schema_json}
use Rattle.tv_schema.specs.SchemaJsonOptions.{type_of_word, record_of_word, precision_of_word, required_bool, required_text, required_object, bool_or, text_or, fieldnorms_or, record_or_basic, indexing_of, optional_indexing, fast_field_of, fast_field_or_none, required_fast_field, text_options_of, numeric_options_of, bytes_options_of, precision_or_seconds, date_options_of, facet_options_of, json_object_options_of, ip_addr_options_of, options_of}
use Rattle.std.specs.Prelude.{ok_or}
use Rattle.tv_schema.specs.SchemaJsonReading.{by_key, ◌>>=◌, type_named, entry_of, with_entry, with_entries, schema_by_key, plain, schema_of}
use Rattle.tv_schema.proofs.SchemaJsonWords.{cond-not}
use Rattle.tv_schema.specs.declared.json.error.EntryFault.{EntryFault}
use Rattle.tv_schema.specs.declared.json.key.SchemaKey.{SchemaKey}
use Rattle.tv_schema.specs.declared.json.key.SchemaKey.TheVariants as keys
use Rattle.tv_field.specs.declared.field_type.FieldType.{FieldType}
use Rattle.tv_field.specs.declared.field_type.FieldType.TheVariants as types

-- ---- words

record_of_word-record_word : (kept : IndexRecordOption) → record_of_word (record_word kept) ≡ Some kept
unfolding record_of_word
record_of_word-record_word Basic = refl
record_of_word-record_word WithFreqs = refl
record_of_word-record_word WithFreqsAndPositions = refl

precision_of_word-precision_word : (precision : DateTimePrecision) → precision_of_word (precision_word precision) ≡ Some precision
unfolding precision_of_word
precision_of_word-precision_word Seconds = refl
precision_of_word-precision_word Milliseconds = refl
precision_of_word-precision_word Microseconds = refl
precision_of_word-precision_word Nanoseconds = refl

type_named-type_word : (type_tag : TypeTag) → type_named (type_word type_tag) ≡ Ok type_tag
unfolding type_named type_of_word
type_named-type_word tags.Str = refl
type_named-type_word tags.U64 = refl
type_named-type_word tags.I64 = refl
type_named-type_word tags.Bool = refl
type_named-type_word tags.Date = refl
type_named-type_word tags.Facet = refl
type_named-type_word tags.Bytes = refl
type_named-type_word tags.Json = refl
type_named-type_word tags.IpAddr = refl

-- ---- options

-- what is read of the members, where there are some
abbrev read_in : {A B : Type 0} → (A → Result B SchemaKey) → Option A → Result B SchemaKey
read_in read None = Err keys.Options
read_in read (Some members) = read members

fast_field_of-fast_json : (fast : FastFieldTextOptions) → fast_field_of (fast_json (is_fast_field fast) (tokenizer_of fast)) ≡ Ok fast
unfolding fast_field_of required_text
fast_field_of-fast_json (IsEnabled enabled) = refl
fast_field_of-fast_json (EnabledWithTokenizer tokenizer) = refl

indexing_of-indexing_json : (indexing : TextFieldIndexing) → read_in indexing_of (as_object (indexing_json indexing)) ≡ Ok indexing
unfolding indexing_of record_or_basic bool_or text_or
indexing_of-indexing_json indexing = rw (record_of_word-record_word indexing.«record»)

text_members_read : (indexing : Option TextFieldIndexing) (stored : Bool) (fast : FastFieldTextOptions) (coerce : Bool)
    → read_in text_options_of (as_object (text_json (record { indexing = indexing; stored = stored; fast = fast; part = record { coerce = coerce } })))
    ≡ Ok (record { indexing = indexing; stored = stored; fast = fast; part = record { coerce = coerce } })
unfolding text_options_of optional_indexing bool_or fast_field_or_none
text_members_read None stored fast true = rw (fast_field_of-fast_json fast)
text_members_read None stored fast false = rw (fast_field_of-fast_json fast)
text_members_read (Some indexing) stored fast true = rw (indexing_of-indexing_json indexing, fast_field_of-fast_json fast)
text_members_read (Some indexing) stored fast false = rw (indexing_of-indexing_json indexing, fast_field_of-fast_json fast)

numeric_members_read : (indexed fieldnorms fast stored coerce : Bool)
    → read_in numeric_options_of (as_object (numeric_json (record { indexed = indexed; fieldnorms = fieldnorms; fast = fast; stored = stored; part = record { coerce = coerce } })))
    ≡ Ok (record { indexed = indexed; fieldnorms = fieldnorms; fast = fast; stored = stored; part = record { coerce = coerce } })
unfolding numeric_options_of required_bool bool_or fieldnorms_or
numeric_members_read indexed fieldnorms fast stored true = refl
numeric_members_read indexed fieldnorms fast stored false = refl

numeric_options_of-numeric_json : (options : FlagOptions Coercion) → read_in numeric_options_of (as_object (numeric_json options)) ≡ Ok options
numeric_options_of-numeric_json options = numeric_members_read options.indexed options.fieldnorms options.fast options.stored options.part.coerce

date_options_of-date_json : (options : FlagOptions DateTimePrecision) → read_in date_options_of (as_object (date_json options)) ≡ Ok options
unfolding date_options_of required_bool bool_or precision_or_seconds
date_options_of-date_json options = rw (precision_of_word-precision_word options.part)

json_object_members_read : (stored : Bool) (indexing : Option TextFieldIndexing) (fast : FastFieldTextOptions) (expand_dots_enabled : Bool)
    → read_in json_object_options_of (as_object (json_object_json (record { stored = stored; indexing = indexing; fast = fast; part = record { expand_dots_enabled = expand_dots_enabled } })))
    ≡ Ok (record { stored = stored; indexing = indexing; fast = fast; part = record { expand_dots_enabled = expand_dots_enabled } })
unfolding json_object_options_of optional_indexing required_bool bool_or required_fast_field
json_object_members_read stored None fast dots = rw (fast_field_of-fast_json fast)
json_object_members_read stored (Some indexing) fast dots = rw (fast_field_of-fast_json fast, indexing_of-indexing_json indexing)

-- each type's options
options_of-options_json : (field_type : FieldType) → read_in (options_of (value_type field_type)) (as_object (options_json field_type)) ≡ Ok field_type
unfolding options_of bytes_options_of facet_options_of ip_addr_options_of required_bool fieldnorms_or
options_of-options_json (types.Str options) = rw (text_members_read options.indexing options.stored options.fast options.part.coerce)
options_of-options_json (types.U64 options) = rw (numeric_options_of-numeric_json options)
options_of-options_json (types.I64 options) = rw (numeric_options_of-numeric_json options)
options_of-options_json (types.Bool options) = rw (numeric_options_of-numeric_json options)
options_of-options_json (types.Date options) = rw (date_options_of-date_json options)
options_of-options_json (types.Facet options) = refl
options_of-options_json (types.Bytes options) = refl
options_of-options_json (types.JsonObject options) = rw (json_object_members_read options.stored options.indexing options.fast options.part.expand_dots_enabled)
options_of-options_json (types.IpAddr options) = refl

-- ---- entries

options_then : {A B : Type 0} (found : Option A) (read : A → Result B SchemaKey) (make : B → Result Entry EntryFault) (b : B) → read_in read found ≡ Ok b
    → (by_key (ok_or found keys.Options) >>= (λ a. by_key (read a) >>= make)) ≡ make b
options_then None read make b e = cc
options_then (Some a) read make b e = rw e

entry_of-entry_json : (entry : Entry) → entry_of (entry_json entry) ≡ Ok entry
unfolding entry_of required_text required_object
entry_of-entry_json entry =
    rw (type_named-type_word (value_type entry.field_type))
    (options_then (as_object (options_json entry.field_type)) (options_of (value_type entry.field_type)) (λ field_type. Ok (record { name = entry.name; field_type = field_type }))
    entry.field_type (options_of-options_json entry.field_type))

with_entry-entry_json : (schema : List Entry) (entry : Entry) → refusal schema entry.name ≡ None → with_entry schema (entry_json entry) ≡ Ok (schema ++ entry ∷ [])
unfolding with_entry
with_entry-entry_json schema entry taken = rw (entry_of-entry_json entry, taken)

-- ---- schemas

get_or-prefix : (xs ys : List Entry) (k : ℕ) (d : Entry) → k < length xs → get_or (xs ++ ys) k d ≡ get_or xs k d
get_or-prefix xs ys k d h = grind (arith, common_steps)

get_or-middle : (xs : List Entry) (y : Entry) (ys : List Entry) (d : Entry) → get_or (xs ++ y ∷ ys) (length xs) d ≡ y
get_or-middle [] y ys d = refl
get_or-middle (x ∷ xs) y ys d = get_or-middle xs y ys d

-- a name that is no entry's has no place
place_from-other : (n : ℕ) (es : List Entry) (q : List ℕ) → ((k : ℕ) (d : Entry) → k < length es → (get_or es k d).name ≢ q) → place_from n es q ≡ None
place_from-other n [] q other = refl
place_from-other n (e ∷ es) q other =
    cond-not (bytes_eq e.name q) n (place_from (n + 1) es q) (λ same. other 0 e (omega arith) ((bytes_eq-Decides e.name q).0 same))
    ∙ place_from-other (n + 1) es q (λ k d h. other (suc k) d (omega arith))

-- each entry of a schema is taken after those before it
refusal-fresh : (schema : List Entry) (entry : Entry) (rest : List Entry) → IsSchema (schema ++ entry ∷ rest) → refusal schema entry.name ≡ None
refusal-fresh schema entry rest is =
    let long : length schema < length (schema ++ entry ∷ rest) = omega (arith, length-append schema (entry ∷ rest)) in
    let valid : is_valid_name entry.name ≡ true = rw get_or-middle at (is.valid (length schema) entry long) in
    let fresh : field_named schema entry.name ≡ None = place_from-other 0 schema entry.name
    (λ k d h same. is.distinct k (length schema) d h long (rw (get_or-prefix schema (entry ∷ rest) k d h, get_or-middle schema entry rest d) same)) in
    let few : eqb (length schema) 4294967295 ≡ false = ne_eqb _ _ (λ same. omega (arith, is.in_32_bits, long, same)) in
    rw (valid, fresh, few)

with_entries-entries_json : (prefix rest : List Entry) → IsSchema (prefix ++ rest) → with_entries prefix (entries_json rest) ≡ Ok (prefix ++ rest)
with_entries-entries_json prefix [] is = ap Ok (sym (append-nil prefix))
with_entries-entries_json prefix (entry ∷ rest) is =
    let again : (prefix ++ entry ∷ []) ++ rest ≡ prefix ++ entry ∷ rest = append_assoc prefix (entry ∷ []) rest in
    rw (with_entry-entry_json prefix entry (refusal-fresh prefix entry rest is))
    (with_entries-entries_json (prefix ++ entry ∷ []) rest (subst IsSchema (sym again) is) ∙ ap Ok again)

schema_by_key-schema_json : (schema : List Entry) → IsSchema schema → schema_by_key (schema_json schema) ≡ Ok schema
schema_by_key-schema_json schema is = with_entries-entries_json [] schema is

pub schema_of-schema_json : (schema : List Entry) → IsSchema schema → schema_of (schema_json schema) ≡ Ok schema
schema_of-schema_json schema is = ap plain (schema_by_key-schema_json schema is)
