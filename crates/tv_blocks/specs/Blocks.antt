-- Blocks of documents that stand one after the other, printed as lines of JSON.
use Rattle.std.specs.Prelude.{List, ℕ}
use Rattle.tv_blocks.specs.Refusals.{IsBlockRefusal}
use Rattle.tv_blocks.specs.declared.block_error.BlockError.{BlockError}
use Rattle.tv_blocks.specs.declared.block_error.BlockError.TheVariants as errors
use Rattle.tv_field.specs.Entry.{Entry}
use Rattle.tv_format.specs.Tree.{Document}
use Rattle.tv_format.specs.Version.{Version}
use Rattle.tv_lines.specs.Answers.{ReadsSchema}
use Rattle.tv_lines.specs.Printing.{ArePrinted}
use Rattle.tv_lines.specs.declared.export.JsonLayout.TheVariants.{Compact}
use Rattle.tv_store.specs.BlockMigration.{EncodesBlock}

-- The block encodes documents, and these are their lines by the names of the schema's fields.
pub record IsExported (schema : List ℕ) (version : Version) (block content : List ℕ) : Type 0 where
  pub entries : List Entry
  pub reads : ReadsSchema schema entries
  pub documents : List Document
  pub encoded : EncodesBlock version block documents
  pub printed : ArePrinted entries Compact documents content

-- ---- for private clauses

-- the block encodes documents, and these are their lines
abbrev pub IsPrintedBlock : List Entry → Version → List ℕ → List ℕ → Type 0
IsPrintedBlock entries version block content = (documents : List Document)
    × EncodesBlock version block documents
    × ArePrinted entries Compact documents content

-- a document of the block is refused, or memory was
abbrev pub IsRefusedBlock : Version → List ℕ → BlockError → Type 0
IsRefusedBlock version block errors.Memory = Unit {0}
IsRefusedBlock version block error = IsBlockRefusal version block error
