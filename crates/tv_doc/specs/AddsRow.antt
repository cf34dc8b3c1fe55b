-- The addition of the tree that the table has for a JSON value.
use Rattle.std.specs.Prelude.{ℕ, Ok}
use Rattle.serde_json.specs.Data.{Data}
use Rattle.tv_field.specs.JsonTable.{Table}
use Rattle.tv_field.specs.declared.field_type.FieldType.{FieldType}
use Rattle.tv_format.specs.Tree.{Tree}
use Rattle.tv_doc.specs.Additions.{Accepts}
use Rattle.tv_doc.specs.declared.document.CompactDoc.{CompactDoc}

-- the addition of the tree that the table has for this value is accepted
abbrev pub AddsRow : CompactDoc → CompactDoc → ℕ → FieldType → Data → Type 0
AddsRow old new field field_type datum = (tree : Tree) × Table field_type datum (Ok tree)
    × Accepts old new field tree
