-- Why a document has no terms.
use Rattle.std.specs.Prelude.{List, Option, Some, None, Ok, Err}
use Rattle.tv_field.specs.Entry.{Entry}
use Rattle.tv_format.specs.Tree.{Document}
use Rattle.tv_indexing.specs.DocumentTerms.{Terms, document_terms}
use Rattle.tv_indexing.specs.declared.document.TermValuesError.{TermValuesError}

-- why there are none, if there are none
abbrev pub fault_of : Terms → Option TermValuesError
fault_of (Ok made) = None
fault_of (Err why) = Some why

-- the reason of the first value of the document that has no term
abbrev pub document_fault : List Entry → Document → Option TermValuesError
document_fault schema document = fault_of (document_terms schema document)
