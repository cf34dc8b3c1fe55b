-- A block of documents, printed as JSON.
use Rattle.std.specs.Prelude.{◌≡◌, ◌⊎◌, ◌-◌, ◌^◌, ℕ, List, [], ◌++◌, Result, Ok, Err, length, map}
use Rattle.tv_base.specs.Sink.{AppendsPrefix}
use Rattle.tv_lines.specs.Printing.{AppendsJson, ArePrinted}
use Rattle.tv_lines.specs.declared.export.JsonLayout.{JsonLayout}
use Rattle.tv_lines.specs.declared.errors.WorkError.{WorkError}
use Rattle.tv_lines.specs.declared.errors.WorkError.TheVariants as errors
use Rattle.tv_field.specs.Entry.{Entry}
use Rattle.tv_format.specs.Tree.{Document}
use Rattle.tv_format.specs.Version.{Version}
use Rattle.tv_store.specs.Documents.{BeginsWithDocument}
use Rattle.tv_store.specs.Projections.{EncodesBlockWithin, IsRefusedAt, kept, limits_of}
use Rattle.tv_store.specs.declared.projection.Projection.{Projection}

-- The block encodes these documents, and what is kept of each was printed.
pub record Exported (schema : List Entry) (layout : JsonLayout) (version : Version) (projection : Projection)
    (block old new : List ℕ) (documents : List Document) : Type 0 where
  pub encoded : EncodesBlockWithin version (limits_of projection) block documents
  pub lines : List ℕ
  pub printed : ArePrinted schema layout (map (kept projection) documents) lines
  pub held : new ≡ old ++ lines

-- The whole block was printed, `number` documents.
abbrev pub ExportsAll : List Entry → JsonLayout → Version → Projection → List ℕ → List ℕ → List ℕ → ℕ → Type 0
ExportsAll schema layout version projection block old new number =
    (documents : List Document) × Exported schema layout version projection block old new documents
    × (number ≡ length documents)

-- nothing is appended, or a beginning of what is printed of the document
abbrev pub AppendsBegun : List Entry → JsonLayout → Document → List ℕ → List ℕ → Type 0
AppendsBegun schema layout document old new = (new ≡ old)
    ⊎ ((text : List ℕ) × AppendsJson schema layout document [] text × AppendsPrefix old new text)

-- What was appended of the document with which `bytes` begin, and why no more: nothing where it can't be
-- read, or isn't. Before it come `number` documents, in `start` bytes.
abbrev pub LeavesNext : List Entry → JsonLayout → Version → Projection → List ℕ → List ℕ → ℕ → ℕ → List ℕ
    → List ℕ → WorkError → Type 0
LeavesNext schema layout version projection bytes left number start old new (errors.Read error) =
    (new ≡ old) × (error.document ≡ number) × IsRefusedAt version projection bytes left start error
LeavesNext schema layout version projection bytes left number start old new errors.TooMany =
    (new ≡ old) × (number ≡ 2 ^ 64 - 1)
LeavesNext schema layout version projection bytes left number start old new error =
    (document : Document) × (rest : List ℕ) × BeginsWithDocument version bytes rest document
    × AppendsBegun schema layout (kept projection document) old new

-- The documents before were printed, and the one with which the rest of the block begins was not, or not
-- whole. `left` is what was left of the block.
pub record BreaksOff (schema : List Entry) (layout : JsonLayout) (version : Version) (projection : Projection)
    (block left old new : List ℕ) (error : WorkError) : Type 0 where
  pub before : List ℕ
  pub behind : List ℕ
  pub joined : block ≡ before ++ behind
  pub documents : List Document
  pub middle : List ℕ
  pub exported : Exported schema layout version projection before old middle documents
  pub next : LeavesNext schema layout version projection behind left (length documents) (length before) middle
      new
      error

-- The block was printed, whole or up to the document at which that broke off.
abbrev pub PrintsBlock : List Entry → JsonLayout → Version → Projection → List ℕ → List ℕ → List ℕ → List ℕ
    → Result ℕ WorkError → Type 0
PrintsBlock schema layout version projection block left old new (Ok number) =
    ExportsAll schema layout version projection block old new number
PrintsBlock schema layout version projection block left old new (Err error) =
    BreaksOff schema layout version projection block left old new error
