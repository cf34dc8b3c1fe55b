-- Schemas out of bytes, and into them.
use Rattle.std.specs.Prelude.{◌≡◌, ℕ, List}
use Rattle.serde_json.specs.Written.{compact_text}
use Rattle.tv_blocks.specs.Refusals.{IsSchemaRefusal}
use Rattle.tv_blocks.specs.declared.block_error.BlockError.{BlockError}
use Rattle.tv_blocks.specs.declared.block_error.BlockError.TheVariants as errors
use Rattle.tv_field.specs.Entry.{Entry}
use Rattle.tv_field.specs.declared.field_entry.SchemaError.TheVariants.{Memory}
use Rattle.tv_schema.specs.SchemaJson.{schema_json}
use Rattle.tv_schema.specs.declared.json.error.SchemaJsonError.{SchemaJsonError}
use Rattle.tv_schema.specs.declared.json.error.SchemaJsonError.TheVariants.{BadKey, Refused, Other}

-- the text describes no schema, or memory was refused
abbrev pub IsRefusedSchema : List ℕ → BlockError → Type 0
IsRefusedSchema text errors.Memory = Unit {0}
IsRefusedSchema text error = IsSchemaRefusal text error

-- the text of the schema's JSON, without spaces
abbrev pub IsSchemaText : List Entry → List ℕ → Type 0
IsSchemaText schema text = text ≡ compact_text (schema_json schema)

-- ---- for private clauses

-- what is said where reading a schema returns an error
abbrev pub schema_refusal : SchemaJsonError → BlockError
schema_refusal (BadKey entry key) = errors.BadSchemaKey entry key
schema_refusal (Refused entry error) = errors.BadSchemaEntry entry error
schema_refusal (Other Memory) = errors.Memory
schema_refusal (Other error) = errors.BadSchema error
