-- What the calls answer whose document a handle holds.
use Rattle.std.specs.Prelude.{◌≡◌, ℕ, List, Option, None, Some, Result, Ok, Err}
use Rattle.tv_blocks.specs.Documents.{IsUnread, ReadsFirst}
use Rattle.tv_blocks.specs.LineRefusals.{IsLineDocument, IsUnparsed}
use Rattle.tv_blocks.specs.Status.{call_answer}
use Rattle.tv_blocks.specs.declared.block_error.BlockError.{BlockError}
use Rattle.tv_blocks.specs.declared.status.Answer.{Answer}
use Rattle.tv_doc.specs.Document.{document_of}
use Rattle.tv_doc.specs.declared.document.CompactDoc.{CompactDoc}
use Rattle.tv_field.specs.Entry.{Entry}
use Rattle.tv_format.specs.Version.{Version}

-- the handle holds the document with which the bytes begin; or it holds none, for this reason
abbrev pub ReadsOr : Version → List ℕ → Option CompactDoc → Result ℕ BlockError → Type 0
ReadsOr v bytes held (Ok taken) =
    (document : CompactDoc) × (held ≡ Some document) × ReadsFirst v bytes (document_of document) taken
ReadsOr v bytes held (Err e) = IsUnread v bytes e × (held ≡ None)

abbrev pub AnswersRead : Version → List ℕ → Option CompactDoc → Answer → Type 0
AnswersRead v bytes held answer = (told : Result ℕ BlockError) × ReadsOr v bytes held told
    × (answer ≡ call_answer told)

-- the handle holds the line's document; or it holds none, for this reason
abbrev pub ParsesOr : List Entry → List ℕ → Option CompactDoc → Result ℕ BlockError → Type 0
ParsesOr schema line held (Ok size) =
    (document : CompactDoc) × (held ≡ Some document) × IsLineDocument schema line (document_of document)
    × (size ≡ 0)
ParsesOr schema line held (Err e) = IsUnparsed schema line e × (held ≡ None)

abbrev pub AnswersParsed : List Entry → List ℕ → Option CompactDoc → Answer → Type 0
AnswersParsed schema line held answer = (told : Result ℕ BlockError) × ParsesOr schema line held told
    × (answer ≡ call_answer told)

-- this is the answer, and the handle holds no document
abbrev pub HoldsNone : Answer → Option CompactDoc → Answer → Type 0
HoldsNone why held answer = (answer ≡ why) × (held ≡ None)
