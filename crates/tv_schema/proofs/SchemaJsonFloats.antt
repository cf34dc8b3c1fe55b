-- What is written of a schema has no floats.
use Rattle.std.proofs.Common.{◌≡◌, List, [], ◌∷◌, Bool, true, false, Option, Some, None, refl}
use Rattle.serde_json.specs.Written.{has_float, items_have_float}
use Rattle.tv_options.specs.declared.text_options.FastFieldTextOptions.{FastFieldTextOptions}
use Rattle.tv_options.specs.declared.text_options.FastFieldTextOptions.TheVariants.{IsEnabled, EnabledWithTokenizer}
use Rattle.tv_options.specs.declared.text_options.TextFieldIndexing.{TextFieldIndexing}
use Rattle.tv_field.specs.Entry.{Entry}
use Rattle.tv_field.specs.declared.field_type.FieldType.{FieldType}
use Rattle.tv_field.specs.declared.field_type.FieldType.TheVariants as types
use Rattle.tv_schema.specs.SchemaJson.{text_json, numeric_json, json_object_json, options_json, entry_json, entries_json, schema_json}

text_has_none : (indexing : Option TextFieldIndexing) (stored : Bool) (fast : FastFieldTextOptions) (coerce : Bool)
    → has_float (text_json (record { indexing = indexing; stored = stored; fast = fast; part = record { coerce = coerce } })) ≡ false
text_has_none None stored (IsEnabled enabled) true = refl
text_has_none None stored (IsEnabled enabled) false = refl
text_has_none None stored (EnabledWithTokenizer tokenizer) true = refl
text_has_none None stored (EnabledWithTokenizer tokenizer) false = refl
text_has_none (Some indexing) stored (IsEnabled enabled) true = refl
text_has_none (Some indexing) stored (IsEnabled enabled) false = refl
text_has_none (Some indexing) stored (EnabledWithTokenizer tokenizer) true = refl
text_has_none (Some indexing) stored (EnabledWithTokenizer tokenizer) false = refl

numeric_has_none : (indexed fieldnorms fast stored coerce : Bool)
    → has_float (numeric_json (record { indexed = indexed; fieldnorms = fieldnorms; fast = fast; stored = stored; part = record { coerce = coerce } })) ≡ false
numeric_has_none indexed fieldnorms fast stored true = refl
numeric_has_none indexed fieldnorms fast stored false = refl

json_object_has_none : (stored : Bool) (indexing : Option TextFieldIndexing) (fast : FastFieldTextOptions) (expand_dots_enabled : Bool)
    → has_float (json_object_json (record { stored = stored; indexing = indexing; fast = fast; part = record { expand_dots_enabled = expand_dots_enabled } })) ≡ false
json_object_has_none stored None (IsEnabled enabled) dots = refl
json_object_has_none stored None (EnabledWithTokenizer tokenizer) dots = refl
json_object_has_none stored (Some indexing) (IsEnabled enabled) dots = refl
json_object_has_none stored (Some indexing) (EnabledWithTokenizer tokenizer) dots = refl

options_have_none : (field_type : FieldType) → has_float (options_json field_type) ≡ false
options_have_none (types.Str options) = text_has_none options.indexing options.stored options.fast options.part.coerce
options_have_none (types.U64 options) = numeric_has_none options.indexed options.fieldnorms options.fast options.stored options.part.coerce
options_have_none (types.I64 options) = numeric_has_none options.indexed options.fieldnorms options.fast options.stored options.part.coerce
options_have_none (types.Bool options) = numeric_has_none options.indexed options.fieldnorms options.fast options.stored options.part.coerce
options_have_none (types.Date options) = refl
options_have_none (types.Facet options) = refl
options_have_none (types.Bytes options) = refl
options_have_none (types.JsonObject options) = json_object_has_none options.stored options.indexing options.fast options.part.expand_dots_enabled
options_have_none (types.IpAddr options) = refl

entry_has_none : (entry : Entry) → has_float (entry_json entry) ≡ false
entry_has_none entry = rw (options_have_none entry.field_type)

entries_have_none : (schema : List Entry) → items_have_float (entries_json schema) ≡ false
entries_have_none [] = refl
entries_have_none (entry ∷ entries) = rw (entry_has_none entry) (entries_have_none entries)

pub schema_has_no_float : (schema : List Entry) → has_float (schema_json schema) ≡ false
schema_has_no_float schema = entries_have_none schema
