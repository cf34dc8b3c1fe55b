-- The documents of a block that a query wants, printed as lines of JSON, and what becomes of each document.
use Rattle.std.specs.Prelude.{◌≡◌, ◌↔◌, ◌-◌, ◌^◌, ◌<◌, ◌+◌, ℕ, List, [], ◌∷◌, ◌++◌, Bool, true, false, IsTrue}
use Rattle.std.specs.Prelude.{Result, Ok, Err, count_by, length}
use Rattle.std.specs.List.{filter}
use Rattle.tv_base.specs.Stop.{Stop}
use Rattle.tv_base.specs.Stop.Stop.{Short}
use Rattle.tv_lines.specs.Printing.{AppendsJson}
use Rattle.tv_lines.specs.Exporting.{AppendsBegun}
use Rattle.tv_lines.specs.WorkErrors.{sink_stop, source_stop}
use Rattle.tv_lines.specs.declared.export.JsonLayout.TheVariants.{Compact}
use Rattle.tv_lines.specs.declared.find.DocumentOutcome.{DocumentOutcome}
use Rattle.tv_lines.specs.declared.find.DocumentOutcome.TheVariants as outcome
use Rattle.tv_lines.specs.declared.find.FindError.{FindError}
use Rattle.tv_lines.specs.declared.find.FindError.TheVariants as finding
use Rattle.tv_lines.specs.declared.find.Found.{Found}
use Rattle.tv_lines.specs.declared.report.DocumentReport.{DocumentReport}
use Rattle.tv_lines.specs.declared.errors.WorkError.{WorkError}
use Rattle.tv_lines.specs.declared.errors.WorkError.TheVariants as errors
use Rattle.tv_field.specs.Entry.{Entry}
use Rattle.tv_format.specs.InputError.{Refusal}
use Rattle.tv_format.specs.Tree.{Document}
use Rattle.tv_format.specs.Version.{Version}
use Rattle.tv_indexing.specs.DocumentTerms.{Terms, document_terms}
use Rattle.tv_indexing.specs.declared.document.TermValuesError.{TermValuesError}
use Rattle.tv_query.specs.Fields.{names_field}
use Rattle.tv_query.specs.Grammar.{QueryTree, steps_of}
use Rattle.tv_query.specs.Matching.{Matches}
use Rattle.tv_store.specs.Documents.{BeginsWithDocument}
use Rattle.tv_store.specs.Projections.{EncodesWithinLimits, IsRefusedAt, kept, limits_of}
use Rattle.tv_store.specs.declared.projection.Projection.{Projection}

-- ---- a document

-- the terms of the fields that the query names, or why there are none
abbrev pub named_terms : List Entry → QueryTree → Document → Terms
named_terms schema tree document = document_terms schema
    (filter (λ pair. names_field (steps_of tree) pair.0) document)

-- What becomes of a document: these terms match the query, and its line is appended; or they don't, or there
-- are none, and nothing is.
abbrev pub FindsDocument : List Entry → QueryTree → Document → List ℕ → List ℕ → DocumentOutcome → Type 0
FindsDocument schema tree document old new outcome.Found =
    (terms : List (List ℕ)) × (named_terms schema tree document ≡ Ok terms) × Matches terms tree
    × AppendsJson schema Compact document old new
FindsDocument schema tree document old new outcome.NotFound =
    (terms : List (List ℕ)) × (named_terms schema tree document ≡ Ok terms) × (¬ Matches terms tree)
    × (new ≡ old)
FindsDocument schema tree document old new (outcome.Faulty why) =
    (named_terms schema tree document ≡ Err why) × (new ≡ old)

-- what was appended of a document, and why no more
abbrev pub LeavesDocument : List Entry → QueryTree → Document → List ℕ → List ℕ → WorkError → Type 0
LeavesDocument schema tree document old new (errors.Write kind) =
    (terms : List (List ℕ)) × (named_terms schema tree document ≡ Ok terms) × Matches terms tree
    × AppendsBegun schema Compact document old new
LeavesDocument schema tree document old new errors.Memory = AppendsBegun schema Compact document old new
LeavesDocument schema tree document old new error = ⊥

-- ---- documents

-- These bytes encode documents, one after the other, each within the limits, and each of these reports is
-- true of what is kept of one, with its number and the place where it begins. They are the first of the
-- block.
pub data FindsEach (schema : List Entry) (version : Version) (projection : Projection) (tree : QueryTree)
    (block old : List ℕ) : List ℕ → List ℕ → List DocumentReport → Type 0 where
  none : FindsEach schema version projection tree block old [] old []
  one_more : {before middle new : List ℕ} {reports : List DocumentReport} (bytes : List ℕ)
      (document : Document)
      (report : DocumentReport) → FindsEach schema version projection tree block old before middle reports
      → EncodesWithinLimits version (limits_of projection) bytes document → report.document ≡ length reports
      → (length block < 2 ^ 64 - 1 → report.start ≡ length before)
      → FindsDocument schema tree (kept projection document) middle new report.outcome
      → FindsEach schema version projection tree block old (before ++ bytes) new (reports ++ report ∷ [])

abbrev pub is_found : DocumentOutcome → Bool
is_found outcome.Found = true
is_found outcome.NotFound = false
is_found (outcome.Faulty why) = false

abbrev pub is_faulty : DocumentOutcome → Bool
is_faulty outcome.Found = false
is_faulty outcome.NotFound = false
is_faulty (outcome.Faulty why) = true

-- The block is documents. Where it is known what was told, that is what became of each, and `found` has the
-- number of each kind.
pub record FindsAll (schema : List Entry) (version : Version) (projection : Projection) (tree : QueryTree)
    (block old new : List ℕ) (IsTold : Type 0) (begun ended : List DocumentReport) (found : Found) :
    Type 0 where
  pub reports : List DocumentReport
  pub each : FindsEach schema version projection tree block old block new reports
  pub told : IsTold → ended ≡ begun ++ reports
  pub documents : found.documents ≡ length reports
  pub matching : found.found ≡ count_by (λ report. is_found report.outcome) reports
  pub faulty : found.faulty ≡ count_by (λ report. is_faulty report.outcome) reports

-- What was appended of the document with which `bytes` begin, and why the search went no further: nothing
-- where it can't be read, or isn't. Before it come `number` documents, in `start` bytes.
abbrev pub LeavesUnsearched : List Entry → Version → Projection → QueryTree → List ℕ → List ℕ → ℕ → ℕ → List ℕ
    → List ℕ → WorkError → Type 0
LeavesUnsearched schema version projection tree bytes left number start old new (errors.Read error) =
    (new ≡ old) × (error.document ≡ number) × IsRefusedAt version projection bytes left start error
LeavesUnsearched schema version projection tree bytes left number start old new errors.TooMany =
    (new ≡ old) × (number ≡ 2 ^ 64 - 1)
LeavesUnsearched schema version projection tree bytes left number start old new error =
    (document : Document) × (rest : List ℕ) × BeginsWithDocument version bytes rest document
    × LeavesDocument schema tree (kept projection document) old new error

-- the same, or it was gone over and only the report failed
abbrev pub LeavesSearch : {E : Type 0} → List Entry → Version → Projection → QueryTree → List ℕ → List ℕ → ℕ
    → ℕ → List ℕ → List ℕ → FindError E → Type 0
LeavesSearch schema version projection tree bytes left number start old new (finding.Work error) =
    LeavesUnsearched schema version projection tree bytes left number start old new error
LeavesSearch schema version projection tree bytes left number start old new (finding.Report error) =
    (document : Document) × (rest : List ℕ) × (said : DocumentOutcome)
    × BeginsWithDocument version bytes rest document
    × FindsDocument schema tree (kept projection document) old new said

-- The documents before were gone over, and the one with which the rest of the block begins was not, or not to
-- the end. `left` is what was left of the block.
pub record StopsFinding {E : Type 0} (schema : List Entry) (version : Version) (projection : Projection)
    (tree : QueryTree) (block left old new : List ℕ) (IsTold : Type 0) (begun ended : List DocumentReport)
    (error : FindError E) : Type 0 where
  pub before : List ℕ
  pub after : List ℕ
  pub joined : block ≡ before ++ after
  pub middle : List ℕ
  pub reports : List DocumentReport
  pub each : FindsEach schema version projection tree block old before middle reports
  pub told : IsTold → ended ≡ begun ++ reports
  pub next : LeavesSearch schema version projection tree after left (length reports) (length before) middle
      new
      error

-- The block was searched, whole or up to the document at which that broke off.
abbrev pub SearchesBlock : {E : Type 0} → List Entry → Version → Projection → QueryTree → List ℕ → List ℕ
    → List ℕ → List ℕ → Type 0 → List DocumentReport → List DocumentReport → Result Found (FindError E)
    → Type 0
SearchesBlock schema version projection tree block left old new IsTold begun ended (Ok found) =
    FindsAll schema version projection tree block old new IsTold begun ended found
SearchesBlock schema version projection tree block left old new IsTold begun ended (Err error) =
    StopsFinding schema version projection tree block left old new IsTold begun ended error

-- why a search broke off, as its source and its sink see it
abbrev pub find_source_stop : {E : Type 0} → FindError E → Stop Refusal
find_source_stop (finding.Work error) = source_stop error
find_source_stop (finding.Report error) = Short

abbrev pub find_sink_stop : {E : Type 0} → FindError E → Stop Refusal
find_sink_stop (finding.Work error) = sink_stop error
find_sink_stop (finding.Report error) = Short

-- ---- for private clauses

-- a document was searched, and its line appended if it is found, whole or in part
abbrev pub SearchesDocument : List Entry → QueryTree → Document → List ℕ → List ℕ
    → Result DocumentOutcome WorkError → Type 0
SearchesDocument schema tree document old new (Ok said) = FindsDocument schema tree document old new said
SearchesDocument schema tree document old new (Err error) = LeavesDocument schema tree document old new error

-- one document more is counted
abbrev pub CountsFound : Found → DocumentOutcome → Found → Type 0
CountsFound old outcome.Found new = (new.documents ≡ old.documents + 1) × (new.found ≡ old.found + 1)
    × (new.faulty ≡ old.faulty)
CountsFound old outcome.NotFound new = (new.documents ≡ old.documents + 1) × (new.found ≡ old.found)
    × (new.faulty ≡ old.faulty)
CountsFound old (outcome.Faulty why) new = (new.documents ≡ old.documents + 1) × (new.found ≡ old.found)
    × (new.faulty ≡ old.faulty + 1)

-- whether these terms match the query, or why there are none
abbrev pub TellsMatch : Terms → QueryTree → Result Bool TermValuesError → Type 0
TellsMatch terms tree (Ok truth) = (made : List (List ℕ)) × (terms ≡ Ok made)
    × (IsTrue truth ↔ Matches made tree)
TellsMatch terms tree (Err why) = terms ≡ Err why
