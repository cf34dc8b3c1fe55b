-- Why a call writes nothing.
use Rattle.std.specs.Prelude.{◌≡◌, ◌≢◌, ℕ, List, [], ◌++◌, length, None, Result, Err, IsErrOf, IsUtf8}
use Rattle.serde_json.specs.Data.{Data}
use Rattle.tv_base.specs.Facet.{parse}
use Rattle.tv_blocks.specs.declared.block_error.BlockError.{BlockError}
use Rattle.tv_blocks.specs.declared.block_error.BlockError.TheVariants as errors
use Rattle.tv_blocks.specs.declared.block_error.DocumentRefusal.{DocumentRefusal}
use Rattle.tv_blocks.specs.declared.block_error.DocumentRefusal.TheVariants as documents
use Rattle.tv_field.specs.Entry.{Entry}
use Rattle.tv_format.specs.InputError.{corrupted, no_text_key}
use Rattle.tv_format.specs.Tree.{Document}
use Rattle.tv_format.specs.Version.{Version}
use Rattle.tv_lines.specs.Answers.{IsJson, ReadsSchema}
use Rattle.tv_lines.specs.declared.errors.WorkError.{WorkError}
use Rattle.tv_lines.specs.declared.errors.WorkError.TheVariants as work
use Rattle.tv_reader.specs.declared.error.DeserializeError.{DeserializeError}
use Rattle.tv_reader.specs.declared.error.DeserializeError.TheVariants as reads
use Rattle.tv_schema.specs.Path.{find}
use Rattle.tv_schema.specs.Schema.{field_named}
use Rattle.tv_schema.specs.SchemaJsonReading.{schema_by_key}
use Rattle.tv_schema.specs.declared.json.error.SchemaJsonError.TheVariants.{BadKey, Refused, Other}
use Rattle.tv_store.specs.BlockMigration.{EncodesBlock}
use Rattle.tv_store.specs.Documents.{NoDocument, HasNoRoom}
use Rattle.tv_store.specs.declared.block_migration.MigrateBlockError.{MigrateBlockError}
use Rattle.tv_store.specs.declared.block_migration.MigrateBlockError.TheVariants.{Read, Write, TooMany}
use Rattle.tv_store.specs.declared.limits.LimitedReadError.{LimitedReadError}
use Rattle.tv_store.specs.declared.limits.LimitedReadError.TheVariants as limited

-- ---- texts of facets

-- the text is no UTF-8
abbrev pub IsTextRefusal : List ℕ → BlockError → Type 0
IsTextRefusal text errors.NotUtf8 = ¬ IsUtf8 text
IsTextRefusal text error = ⊥

-- or it names no facet
abbrev pub IsFacetRefusal : List ℕ → BlockError → Type 0
IsFacetRefusal text errors.NotFacet = IsUtf8 text × (parse text ≡ None)
IsFacetRefusal text error = IsTextRefusal text error

-- bytes that aren't UTF-8 are refused as that, whether or not there is memory
abbrev pub TellsNotUtf8 : {T : Type 0} → List ℕ → Result T BlockError → Type 0
TellsNotUtf8 bytes result = ¬ IsUtf8 bytes → IsErrOf result errors.NotUtf8

-- and so is a name that no field has
abbrev pub TellsNoField : {T : Type 0} → List Entry → List ℕ → Result T BlockError → Type 0
TellsNoField entries name result = IsUtf8 name → field_named entries name ≡ None
    → IsErrOf result errors.NoField

-- ---- schemas

-- The text is no JSON, or describes no schema: for this key, or else for another reason.
abbrev pub IsSchemaRefusal : List ℕ → BlockError → Type 0
IsSchemaRefusal text errors.InvalidJson = (value : Data) → ¬ IsJson text value
IsSchemaRefusal text (errors.BadSchemaKey entry key) =
    (value : Data) × IsJson text value × (schema_by_key value ≡ Err (BadKey entry key))
IsSchemaRefusal text (errors.BadSchemaEntry entry error) =
    (value : Data) × IsJson text value × (schema_by_key value ≡ Err (Refused entry error))
IsSchemaRefusal text (errors.BadSchema error) = (value : Data) × IsJson text value
    × (schema_by_key value ≡ Err (Other error))
IsSchemaRefusal text error = ⊥

-- ---- bytes that are read from the front

-- The first `start` bytes are good, and after them stand others that are refused.
pub record BreaksAt (IsGood IsRefused : List ℕ → Type 0) (bytes : List ℕ) (start : ℕ) : Type 0 where
  pub before : List ℕ
  pub behind : List ℕ
  pub joined : bytes ≡ before ++ behind
  pub measured : start ≡ length before
  pub good : IsGood before
  pub some : behind ≢ []
  pub refused : IsRefused behind

-- ---- documents of a block

-- the document that begins there is refused for this
abbrev pub RefusesDocument : Version → List ℕ → DocumentRefusal → Type 0
RefusesDocument version bytes (documents.Corrupted cause) = NoDocument version bytes (corrupted cause)
RefusesDocument version bytes documents.KeyIsNoText = (code : ℕ) × NoDocument version bytes (no_text_key code)
RefusesDocument version bytes documents.HeapFull = HasNoRoom version bytes

-- The first `start` bytes encode documents, and the document that begins after them is refused. Something
-- stands there.
pub record Breaks (version : Version) (block : List ℕ) (start : ℕ) (refusal : DocumentRefusal) : Type 0 where
  pub before : List ℕ
  pub behind : List ℕ
  pub joined : block ≡ before ++ behind
  pub measured : start ≡ length before
  pub some : behind ≢ []
  pub documents : List Document
  pub encoded : EncodesBlock version before documents
  pub refused : RefusesDocument version behind refusal

abbrev pub IsBlockRefusal : Version → List ℕ → BlockError → Type 0
IsBlockRefusal version block (errors.BadDocument start refusal) = Breaks version block start refusal
IsBlockRefusal version block error = ⊥

-- what is said where reading a document after `start` bytes returns an error
abbrev pub document_refusal : ℕ → DeserializeError → BlockError
document_refusal start (reads.CorruptedValue cause) = errors.BadDocument start (documents.Corrupted cause)
document_refusal start (reads.TypeMismatch expected actual) = errors.BadDocument start documents.KeyIsNoText
document_refusal start reads.HeapFull = errors.BadDocument start documents.HeapFull
document_refusal start error = errors.Memory

-- the same of reading it where no limits are set
abbrev pub refusal_within : ℕ → LimitedReadError → BlockError
refusal_within start (limited.Read error) = document_refusal start error
refusal_within start (limited.Limit l) = errors.Memory

-- the same of migrating a block: that a document isn't written is because memory was refused
abbrev pub migration_refusal : MigrateBlockError → BlockError
migration_refusal (Read error) = refusal_within error.start error.error
migration_refusal (Write document start error) = errors.Memory
migration_refusal TooMany = errors.Memory

-- the same of printing a block
abbrev pub export_refusal : WorkError → BlockError
export_refusal (work.Read error) = refusal_within error.start error.error
export_refusal (work.Write error) = errors.Memory
export_refusal work.Memory = errors.Memory
export_refusal work.TooMany = errors.Memory

-- the schema is refused, or else a document of the block
abbrev pub IsExportRefusal : List ℕ → Version → List ℕ → BlockError → Type 0
IsExportRefusal schema version block (errors.BadDocument start refusal) =
    ((entries : List Entry) × ReadsSchema schema entries) × Breaks version block start refusal
IsExportRefusal schema version block error = IsSchemaRefusal schema error

-- ---- paths

-- the path is no UTF-8, or names no field of the entries
abbrev pub IsUnfound : List Entry → List ℕ → BlockError → Type 0
IsUnfound entries path errors.NotUtf8 = ¬ IsUtf8 path
IsUnfound entries path errors.NoField = IsUtf8 path × (find entries path ≡ None)
IsUnfound entries path error = ⊥

-- the schema is refused, the path is no UTF-8, or it names no field
abbrev pub IsPathRefusal : List ℕ → List ℕ → BlockError → Type 0
IsPathRefusal schema path errors.NotUtf8 = (entries : List Entry) × ReadsSchema schema entries
    × IsUnfound entries path errors.NotUtf8
IsPathRefusal schema path errors.NoField = (entries : List Entry) × ReadsSchema schema entries
    × IsUnfound entries path errors.NoField
IsPathRefusal schema path error = IsSchemaRefusal schema error
