-- The terms that documents have by a schema, with the numbers of the documents, and which documents have
-- none.
--
-- The words of the public contract. `with_faults` says whether a document that has a value without a term has
-- a record, or is refused. `AreSchemaTerms`: these are the records of the documents of a block.
-- `IsSchemaTermsRefusal`: this document of the block is refused.
use Rattle.std.specs.Prelude.{◌≡◌, ℕ, suc, ◌-◌, ◌^◌, Bool, false, List, [], ◌∷◌, ◌++◌, drop, length, map}
use Rattle.std.specs.Prelude.{nat_eq, Option, Some, None, Ok, Err}
use Rattle.std.specs.Int.{to_le_bytes, w64}
use Rattle.std.specs.List.{All, common_prefix_len}
use Rattle.tv_blocks.specs.Records.{numbered_record}
use Rattle.tv_blocks.specs.Refusals.{RefusesDocument, BreaksAt}
use Rattle.tv_blocks.specs.TermsRefusals.{refusal_of, terms_error, terms_number}
use Rattle.tv_blocks.specs.declared.block_error.BlockError.{BlockError}
use Rattle.tv_blocks.specs.declared.block_error.BlockError.TheVariants as errors
use Rattle.tv_blocks.specs.declared.terms_refusal.TermsRefusal.{TermsRefusal}
use Rattle.tv_field.specs.Entry.{Entry}
use Rattle.tv_format.specs.Tree.{Document}
use Rattle.tv_format.specs.Version.{Version}
use Rattle.tv_indexing.specs.DocumentTerms.{Terms, document_terms}
use Rattle.tv_indexing.specs.declared.document.TermValuesError.{TermValuesError}
use Rattle.tv_store.specs.BlockMigration.{EncodesBlock}
use Rattle.tv_store.specs.Documents.{BeginsWithDocument}
use Rattle.tv_value.specs.declared.field.Field.{Field}

-- ---- records

-- how many bytes both begin with
abbrev pub common_len : List ℕ → List ℕ → ℕ
common_len before term = common_prefix_len nat_eq before term

-- the record of a term that stands after another
abbrev pub shared_record : ℕ → List ℕ → List ℕ → List ℕ
shared_record number before term = numbered_record number (common_len before term)
    (drop (common_len before term) term)

-- those of terms, each after the one before it
abbrev pub term_records : ℕ → List ℕ → List (List ℕ) → List ℕ
term_records number before [] = []
term_records number before (term ∷ terms) = shared_record number before term ++ term_records number term terms

-- the number of the reason, and that of the field whose value has no term
abbrev pub fault_bytes : Option (TermsRefusal × Field) → List ℕ
fault_bytes (Some why) = to_le_bytes w64 (terms_number why.0) ++ to_le_bytes w64 why.1.id
fault_bytes None = []

-- the record of a document that has no terms
abbrev pub fault_record : ℕ → TermValuesError → List ℕ
fault_record number error = numbered_record number (2 ^ 64 - 1) (fault_bytes (refusal_of error))

-- those of a document: of its terms, the first of which shares nothing, or the one of why it has none
abbrev pub document_records : ℕ → Terms → List ℕ
document_records number (Ok terms) = term_records number [] terms
document_records number (Err error) = fault_record number error

-- those of documents, of which the first has this number
abbrev pub records_from : ℕ → List Terms → List ℕ
records_from first [] = []
records_from first (terms ∷ others) = document_records first terms ++ records_from (suc first) others

-- ---- documents

-- each of its values has its terms
abbrev pub HasTermRecords : List Entry → Document → Type 0
HasTermRecords schema document = (terms : List (List ℕ)) × (document_terms schema document ≡ Ok terms)

-- The block encodes documents, and these are their records, the documents counted from 0. Without faults each
-- has terms.
pub record AreSchemaTerms (with_faults : Bool) (schema : List Entry) (version : Version)
    (block content : List ℕ) : Type 0 where
  pub documents : List Document
  pub encoded : EncodesBlock version block documents
  pub listed : content ≡ records_from 0 (map (document_terms schema) documents)
  pub have_terms : with_faults ≡ false → All (HasTermRecords schema) documents

-- ---- why there are none

-- the document has no terms, and this is said of it
abbrev pub HasNoTerms : List Entry → ℕ → Document → BlockError → Type 0
HasNoTerms schema start document said = (error : TermValuesError)
    × (document_terms schema document ≡ Err error)
    × (said ≡ terms_error start error)

-- the bytes begin with a document that has no terms
abbrev pub BeginsWithoutTerms : List Entry → Version → ℕ → TermsRefusal → List ℕ → Type 0
BeginsWithoutTerms schema version start refusal bytes =
    (rest : List ℕ) × (document : Document) × BeginsWithDocument version bytes rest document
    × HasNoTerms schema start document (errors.NoTerms start refusal)

-- the documents of these bytes have records
abbrev pub HaveRecords : Bool → List Entry → Version → List ℕ → Type 0
HaveRecords with_faults schema version bytes = (content : List ℕ)
    × AreSchemaTerms with_faults schema version bytes content

-- The document that begins there is the first that can't be read or, without faults, has no terms.
abbrev pub IsSchemaTermsRefusal : Bool → List Entry → Version → List ℕ → BlockError → Type 0
IsSchemaTermsRefusal with_faults schema version block (errors.BadDocument start refusal) =
    BreaksAt (HaveRecords with_faults schema version) (λ bytes. RefusesDocument version bytes refusal) block
    start
IsSchemaTermsRefusal with_faults schema version block (errors.NoTerms start refusal) =
    (with_faults ≡ false) × BreaksAt (HaveRecords with_faults schema version)
    (BeginsWithoutTerms schema version start refusal) block start
IsSchemaTermsRefusal with_faults schema version block error = ⊥

-- ---- for private clauses

-- the last of the terms, or what was before them
abbrev pub last_term : List ℕ → List (List ℕ) → List ℕ
last_term before [] = before
last_term before (term ∷ terms) = last_term term terms

-- the records of the document are appended, and without faults it has terms
abbrev pub AppendsDocument : Bool → List Entry → ℕ → Document → List ℕ → List ℕ → Type 0
AppendsDocument with_faults schema number document old new =
    (with_faults ≡ false → HasTermRecords schema document)
    × (new ≡ old ++ document_records number (document_terms schema document))

-- without faults it has none, or memory was refused
abbrev pub IsWithoutTerms : Bool → List Entry → ℕ → Document → BlockError → Type 0
IsWithoutTerms with_faults schema start document errors.Memory = Unit {0}
IsWithoutTerms with_faults schema start document error =
    (with_faults ≡ false) × HasNoTerms schema start document error

-- a document of the block is refused, or memory was
abbrev pub IsTermsBlockRefusal : Bool → List Entry → Version → List ℕ → BlockError → Type 0
IsTermsBlockRefusal with_faults schema version block errors.Memory = Unit {0}
IsTermsBlockRefusal with_faults schema version block error =
    IsSchemaTermsRefusal with_faults schema version block error

-- so far the records of the documents before the rest of the block have been appended
pub record SchemaTermsSoFar (with_faults : Bool) (schema : List Entry) (version : Version)
    (block rest content : List ℕ) (number : ℕ) : Type 0 where
  pub before : List ℕ
  pub joined : block ≡ before ++ rest
  pub are : AreSchemaTerms with_faults schema version before content
  pub counted : number ≡ length are.documents
