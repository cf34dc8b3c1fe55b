-- The terms of a field's values in a block, the text of a term, and where a prefix of terms ends.
use Rattle.std.specs.Prelude.{◌≡◌, ℕ, suc, List, [], ◌∷◌, ◌++◌, length, Option, Some, None, IsUtf8}
use Rattle.std.specs.Global.{Vec}
use Rattle.std.specs.List.{flat_map}
use Rattle.tv_blocks.specs.Records.{record_of}
use Rattle.tv_blocks.specs.declared.block_error.BlockError.{BlockError}
use Rattle.tv_blocks.specs.declared.block_error.BlockError.TheVariants as errors
use Rattle.tv_doc.specs.FieldValues.{values_of}
use Rattle.tv_format.specs.Tree.{Document}
use Rattle.tv_format.specs.Version.{Version}
use Rattle.tv_indexing.specs.LeafTerms.{tree_value}
use Rattle.tv_indexing.specs.TermText.{text_of_value}
use Rattle.tv_store.specs.BlockMigration.{EncodesBlock}
use Rattle.tv_term.specs.Key.{TermValue, Text, IsTerm, term}
use Rattle.tv_term.specs.Range.{EndsPrefix}

-- the record of a document's number and the value's term
abbrev pub term_record : ℕ → ℕ → Option TermValue → List ℕ
term_record document field None = []
term_record document field (Some value) = record_of document (term field value)

-- those of a field's values in a document, in order
abbrev pub document_records : ℕ → ℕ → Document → List ℕ
document_records document field d = flat_map (λ tree. term_record document field (tree_value tree))
    (values_of field d)

-- those of documents, of which the first has this number
abbrev pub records_from : ℕ → ℕ → List Document → List ℕ
records_from first field [] = []
records_from first field (document ∷ more) = document_records first field document
    ++ records_from (suc first) field more

-- the block encodes documents, and these are the records of the field's values, the documents counted from 0
abbrev pub IsTermList : Version → ℕ → List ℕ → List ℕ → Type 0
IsTermList version field block content = (documents : List Document) × EncodesBlock version block documents
    × (content ≡ records_from 0 field documents)

-- ---- one term, and the end of a prefix

-- the text is UTF-8, and this is its term
abbrev pub IsTextTerm : ℕ → List ℕ → List ℕ → Type 0
IsTextTerm field t content = IsUtf8 t × (content ≡ term field (Text t))

-- just those byte strings that begin with the prefix are from it on and below these
abbrev pub IsEnd : List ℕ → List ℕ → Type 0
IsEnd prefix content = (end : Vec ℕ) × (end.items ≡ content) × EndsPrefix prefix (Some end)

-- all from the prefix on begin with it
abbrev pub IsEndRefusal : List ℕ → BlockError → Type 0
IsEndRefusal prefix errors.NoEnd = EndsPrefix prefix None
IsEndRefusal prefix error = ⊥

-- ---- the text of a term

-- the bytes are a term, and this is the text of its value
abbrev pub IsTermText : List ℕ → List ℕ → Type 0
IsTermText bytes content = (field : ℕ) × (value : TermValue) × IsTerm bytes field value
    × (text_of_value value ≡ Some content)

-- they are no term of a value that has a text
abbrev pub IsTermRefusal : List ℕ → BlockError → Type 0
IsTermRefusal bytes errors.NotTerm = (field : ℕ) (value : TermValue) → IsTerm bytes field value
    → text_of_value value ≡ None
IsTermRefusal bytes error = ⊥

-- ---- for private clauses

-- so far the records of the documents before the rest of the block have been appended
pub record TermsSoFar (version : Version) (field : ℕ) (block rest content : List ℕ)
    (number : ℕ) : Type 0 where
  pub before : List ℕ
  pub joined : block ≡ before ++ rest
  pub documents : List Document
  pub counted : number ≡ length documents
  pub encoded : EncodesBlock version before documents
  pub listed : content ≡ records_from 0 field documents
