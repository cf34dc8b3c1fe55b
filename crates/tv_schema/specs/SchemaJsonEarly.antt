-- The errors of a schema's description that are found before any memory is taken.
use Rattle.std.specs.Prelude.{ℕ, Option, None, Some, option_map, ok_or, Result, Ok, Err}
use Rattle.serde_json.specs.Data.{Data, Items, no_items, item, Members}
use Rattle.serde_json.specs.Find.{as_array, as_object}
use Rattle.tv_schema.specs.SchemaJsonOptions.{required_text, required_object}
use Rattle.tv_schema.specs.SchemaJsonReading.{◌>>=◌, by_key, type_named, at_entry, plain_error}
use Rattle.tv_field.specs.declared.field_entry.SchemaError.{SchemaError}
use Rattle.tv_field.specs.declared.field_entry.SchemaError.TheVariants.{BadJson}
use Rattle.tv_schema.specs.declared.json.error.EntryFault.{EntryFault}
use Rattle.tv_schema.specs.declared.json.error.EntryFault.TheVariants.{NoObject}
use Rattle.tv_schema.specs.declared.json.error.SchemaJsonError.{SchemaJsonError}
use Rattle.tv_schema.specs.declared.json.error.SchemaJsonError.TheVariants.{Other}
use Rattle.tv_schema.specs.declared.json.key.SchemaKey.TheVariants as keys

-- the members of an entry's options, after its name and the word of its type
unfoldable pub opened : Data → Result Members EntryFault
opened description = do
  members ← ok_or (as_object description) NoObject
  name ← by_key (required_text keys.Name members)
  word ← by_key (required_text keys.Type members)
  type_tag ← type_named word
  by_key (required_object keys.Options members)

abbrev pub fault_in : {A : Type 0} → Result A EntryFault → Option EntryFault
fault_in (Ok found) = None
fault_in (Err fault) = Some fault

abbrev pub error_at : {A : Type 0} → ℕ → Result A EntryFault → Option SchemaJsonError
error_at place (Ok found) = None
error_at place (Err fault) = Some (at_entry place fault)

-- the error of an entry's description before the members of its options
abbrev pub head_error : ℕ → Data → Option SchemaJsonError
head_error place description = error_at place (opened description)

-- the same of the first entry
abbrev pub first_error : Items → Option SchemaJsonError
first_error no_items = None
first_error (item first others) = head_error 0 first

abbrev pub early_error_of : Option Items → Option SchemaJsonError
early_error_of None = Some (Other (BadJson None))
early_error_of (Some items) = first_error items

-- a value that is no array, or the first entry's name, type or options
abbrev pub early_by_key : Data → Option SchemaJsonError
early_by_key description = early_error_of (as_array description)

-- the same, without the key
abbrev pub early_error : Data → Option SchemaError
early_error description = option_map plain_error (early_by_key description)
