-- The schema that a JSON value describes, or why it describes none: the first malformed entry says.
use Rattle.std.specs.Prelude.{◌≡◌, ℕ, List, [], ◌∷◌, ◌++◌, length, Option, None, Some, ok_or, Result, Ok, Err}
use Rattle.std.specs.Prelude.{codes, if◌then◌else◌, ⊤}
use Rattle.std.specs.Str.{bytes_eq}
use Rattle.serde_json.specs.Data.{Data, Items, no_items, item}
use Rattle.serde_json.specs.Find.{as_array, as_object}
use Rattle.tv_options.specs.declared.types.TypeTag.{TypeTag}
use Rattle.tv_field.specs.Entry.{Entry}
use Rattle.tv_field.specs.declared.field_entry.SchemaError.{SchemaError}
use Rattle.tv_field.specs.declared.field_entry.SchemaError.TheVariants as schemas
use Rattle.tv_schema.specs.Schema.{refusal}
use Rattle.tv_schema.specs.SchemaJsonOptions.{type_of_word, required_text, required_object, options_of}
use Rattle.tv_schema.specs.declared.json.error.EntryFault.{EntryFault}
use Rattle.tv_schema.specs.declared.json.error.EntryFault.TheVariants.{NoObject, Key, FloatField, Memory}
use Rattle.tv_schema.specs.declared.json.error.SchemaJsonError.{SchemaJsonError}
use Rattle.tv_schema.specs.declared.json.error.SchemaJsonError.TheVariants.{BadKey, Refused, Other}
use Rattle.tv_schema.specs.declared.json.key.SchemaKey.{SchemaKey}
use Rattle.tv_schema.specs.declared.json.key.SchemaKey.TheVariants as keys

-- ---- an entry

infixl 10 ◌>>=◌
abbrev pub ◌>>=◌ : {A B : Type 0} → Result A EntryFault → (A → Result B EntryFault) → Result B EntryFault
Ok found >>= next = next found
Err fault >>= next = Err fault

-- what was read, or else the key is at fault
abbrev pub by_key : {A : Type 0} → Result A SchemaKey → Result A EntryFault
by_key (Ok found) = Ok found
by_key (Err key) = Err (Key key)

-- the type of the word; `f64` is a type of tantivy's that this library doesn't have
unfoldable pub type_named : List ℕ → Result TypeTag EntryFault
type_named word = if bytes_eq word (codes "f64") then Err FloatField
    else ok_or (type_of_word word) (Key keys.Type)

-- the entry that an object describes; whether a schema takes it is asked later
unfoldable pub entry_of : Data → Result Entry EntryFault
entry_of description = do
  members ← ok_or (as_object description) NoObject
  name ← by_key (required_text keys.Name members)
  word ← by_key (required_text keys.Type members)
  type_tag ← type_named word
  options ← by_key (required_object keys.Options members)
  field_type ← by_key (options_of type_tag options)
  Ok (record { name = name; field_type = field_type })

-- ---- a schema

-- the error, at the entry of this place
abbrev pub at_entry : ℕ → EntryFault → SchemaJsonError
at_entry place NoObject = Other (schemas.BadJson (Some place))
at_entry place (Key key) = BadKey place key
at_entry place FloatField = Other (schemas.FloatField place)
at_entry place Memory = Other schemas.Memory

-- the error, where a schema doesn't take the entry of this place
abbrev pub refused_at : ℕ → SchemaError → SchemaJsonError
refused_at place schemas.Memory = Other schemas.Memory
refused_at place error = Refused place error

-- the schema with the entry after the others, unless it is refused
abbrev pub accepted_entry : List Entry → Entry → Option SchemaError → Result (List Entry) SchemaJsonError
accepted_entry schema entry None = Ok (schema ++ entry ∷ [])
accepted_entry schema entry (Some error) = Err (refused_at (length schema) error)

-- the schema with the entry that was read
abbrev pub with_read : List Entry → Result Entry EntryFault → Result (List Entry) SchemaJsonError
with_read schema (Ok entry) = accepted_entry schema entry (refusal schema entry.name)
with_read schema (Err fault) = Err (at_entry (length schema) fault)

-- the schema with the next entry
unfoldable pub with_entry : List Entry → Data → Result (List Entry) SchemaJsonError
with_entry schema description = with_read schema (entry_of description)

abbrev pub and_then : Result (List Entry) SchemaJsonError → (List Entry → Result (List Entry) SchemaJsonError)
    → Result (List Entry) SchemaJsonError
and_then (Ok schema) next = next schema
and_then (Err error) next = Err error

-- the schema with all of these entries, in order
abbrev pub with_entries : List Entry → Items → Result (List Entry) SchemaJsonError
with_entries schema no_items = Ok schema
with_entries schema (item description descriptions) =
    and_then (with_entry schema description) (λ longer. with_entries longer descriptions)

abbrev pub of_items : Option Items → Result (List Entry) SchemaJsonError
of_items None = Err (Other (schemas.BadJson None))
of_items (Some items) = with_entries [] items

-- the schema, or why there is none, with the key that is at fault
abbrev pub schema_by_key : Data → Result (List Entry) SchemaJsonError
schema_by_key description = of_items (as_array description)

-- ---- without the key

abbrev pub plain_error : SchemaJsonError → SchemaError
plain_error (BadKey entry key) = schemas.BadJson (Some entry)
plain_error (Refused entry error) = error
plain_error (Other error) = error

abbrev pub plain : Result (List Entry) SchemaJsonError → Result (List Entry) SchemaError
plain (Ok schema) = Ok schema
plain (Err error) = Err (plain_error error)

abbrev pub schema_of : Data → Result (List Entry) SchemaError
schema_of description = plain (schema_by_key description)

-- ---- what is returned

-- the options are these, or the key is at fault, unless memory was refused
abbrev pub ReadsOptions : {A : Type 0} → Result A SchemaKey → Result A EntryFault → Type 0
ReadsOptions outcome (Ok found) = outcome ≡ Ok found
ReadsOptions outcome (Err (Key key)) = outcome ≡ Err key
ReadsOptions outcome (Err Memory) = ⊤
ReadsOptions outcome (Err fault) = ⊥

-- the same of an entry, its parts seen through the view
abbrev pub Describes : {A : Type 0} → (A → Entry) → Result Entry EntryFault → Result A EntryFault → Type 0
Describes view outcome (Ok found) = outcome ≡ Ok (view found)
Describes view outcome (Err Memory) = ⊤
Describes view outcome (Err fault) = outcome ≡ Err fault

-- the same of a schema
abbrev pub GivesSchema : {A : Type 0} → (A → List Entry) → Result (List Entry) SchemaJsonError
    → Result A SchemaJsonError → Type 0
GivesSchema view outcome (Ok found) = outcome ≡ Ok (view found)
GivesSchema view outcome (Err (Other schemas.Memory)) = ⊤
GivesSchema view outcome (Err error) = outcome ≡ Err error
