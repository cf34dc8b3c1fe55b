-- What a handle holds.
use Rattle.std.specs.Prelude.{List, Option}
use Rattle.std.specs.Option.{option_map}
use Rattle.tv_field.specs.Entry.{Entry}
use Rattle.tv_blocks.specs.declared.schema_handle.SchemaHandle.{SchemaHandle}

-- the entries of its schema, if it holds one
abbrev pub entries_of : SchemaHandle → Option (List Entry)
entries_of handle = option_map (λ memory. memory.schema) handle.memory
