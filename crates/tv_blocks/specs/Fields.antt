-- The field that a path names.
use Rattle.std.specs.Prelude.{◌≡◌, ℕ, ◌≤◌, List, length, drop, Some, IsUtf8}
use Rattle.tv_blocks.specs.Refusals.{IsPathRefusal}
use Rattle.tv_blocks.specs.declared.block_error.BlockError.{BlockError}
use Rattle.tv_blocks.specs.declared.block_error.BlockError.TheVariants as errors
use Rattle.tv_blocks.specs.declared.field_path.FoundField.{FoundField}
use Rattle.tv_field.specs.Entry.{Entry}
use Rattle.tv_lines.specs.Answers.{ReadsSchema}
use Rattle.tv_schema.specs.Path.{find}

-- the path names this field by the entries, and its rest begins there
pub record FindsAmong (entries : List Entry) (path : List ℕ) (found : FoundField) : Type 0 where
  pub utf8 : IsUtf8 path
  pub within : found.rest ≤ length path
  pub named : find entries path ≡ Some (found.field, drop found.rest path)

-- it names it by the entries of the schema that the text describes
abbrev pub FindsInText : List ℕ → List ℕ → FoundField → Type 0
FindsInText schema path found = (entries : List Entry) × ReadsSchema schema entries
    × FindsAmong entries path found

-- it names none, or memory was refused
abbrev pub IsPathAnswer : List ℕ → List ℕ → BlockError → Type 0
IsPathAnswer schema path errors.Memory = Unit {0}
IsPathAnswer schema path error = IsPathRefusal schema path error
