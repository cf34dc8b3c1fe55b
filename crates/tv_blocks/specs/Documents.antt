-- One document: read from the bytes that it begins, printed, and written.
use Rattle.std.specs.Prelude.{◌≡◌, ℕ, ◌≤◌, List, ◌∷◌, ◌++◌, length, take}
use Rattle.tv_blocks.specs.Refusals.{RefusesDocument}
use Rattle.tv_blocks.specs.declared.block_error.BlockError.{BlockError}
use Rattle.tv_blocks.specs.declared.block_error.BlockError.TheVariants as errors
use Rattle.tv_doc.specs.Belongs.{Belongs}
use Rattle.tv_doc.specs.Named.{IsJsonText, field_names}
use Rattle.tv_field.specs.Entry.{Entry}
use Rattle.tv_format.specs.Encoding.{EncodesDocument}
use Rattle.tv_format.specs.Short.{short_document}
use Rattle.tv_format.specs.Tree.{Document, Tree}
use Rattle.tv_format.specs.Version.{Version}
use Rattle.tv_reader.specs.Legacy.{Legacy}
use Rattle.tv_store.specs.Stored.{stored}

-- The first `taken` bytes encode the document.
pub record ReadsFirst (version : Version) (bytes : List ℕ) (document : Document) (taken : ℕ) : Type 0 where
  pub within : taken ≤ length bytes
  pub encoded : EncodesDocument Legacy version (take taken bytes) document

-- the document that begins there is refused, or memory was
abbrev pub IsUnread : Version → List ℕ → BlockError → Type 0
IsUnread version bytes (errors.BadDocument start refusal) =
    RefusesDocument version bytes refusal × (start ≡ 0)
IsUnread version bytes errors.Memory = Unit {0}
IsUnread version bytes error = ⊥

-- the text is the document's JSON, by the names of the fields
abbrev pub IsPrintedBy : List Entry → Document → List ℕ → Type 0
IsPrintedBy schema document text = IsJsonText (field_names schema) document text

-- The first pair whose field the schema doesn't have has this field.
pub record IsForeign (schema : List Entry) (document : Document) (field : ℕ) : Type 0 where
  pub before : Document
  pub behind : Document
  pub value : Tree
  pub joined : document ≡ before ++ (field, value) ∷ behind
  pub belongs : Belongs schema before
  pub outside : length schema ≤ field

abbrev pub IsForeignRefusal : List Entry → Document → BlockError → Type 0
IsForeignRefusal schema document (errors.ForeignField field) = IsForeign schema document field
IsForeignRefusal schema document error = ⊥

-- The schema has all fields, and these are the stored pairs in their shortest encoding.
pub record IsStoredDocument (schema : List Entry) (version : Version) (document : Document)
    (bytes : List ℕ) : Type 0 where
  pub belongs : Belongs schema document
  pub written : bytes ≡ short_document version (stored schema document)

-- ---- for private clauses

-- the schema has the fields of the pairs before those that are left
pub record BelongsSoFar (schema : List Entry) (document left : Document) : Type 0 where
  pub before : Document
  pub joined : document ≡ before ++ left
  pub belongs : Belongs schema before
