-- What is answered for a document's line.
use Rattle.std.proofs.Common.{ℕ, List, Result, Ok, Err, inl, inr}
use Rattle.std.specs.Prelude.{IfErr, IsUtf8, OnOk}
use Rattle.tv_doc.specs.Document.{document_of}
use Rattle.tv_doc.specs.JsonObject.{Parses}
use Rattle.tv_doc.specs.declared.document.CompactDoc.{CompactDoc}
use Rattle.tv_field.specs.Entry.{Entry}
use Rattle.tv_lines.specs.Answers.{Answer, IsDocumentText}
use Rattle.tv_lines.specs.Answers.Answer.{no_memory, no_room, written}
use Rattle.tv_lines.specs.Run.{WritesText}
use Rattle.tv_lines.specs.Unwritten.{IsRefusalText}
use Rattle.tv_store.specs.Stored.{stored}

pub document_answers : (schema : List Entry) (line old new : List ℕ) (made : CompactDoc) → IsUtf8 line → Parses schema line (Ok made)
    → WritesText (IsDocumentText schema (stored schema (document_of made))) old new → WritesText (Answer schema line) old new
document_answers schema line old new made utf8 parses writes = (writes.0, written made utf8 parses writes.1, writes.2)

pub unwritten_answers : (schema : List Entry) (line text : List ℕ) (made : CompactDoc) → IsUtf8 line → Parses schema line (Ok made) → IsRefusalText (document_of made) text
    → Answer schema line text
unwritten_answers schema line text made utf8 parses (inl memory) = no_memory memory
unwritten_answers schema line text made utf8 parses (inr full) = no_room made utf8 parses full.0 full.1

pub ok_maps : {T E P Q : Type 0} (result : Result T E) → (P → Q) → OnOk result P → OnOk result Q
ok_maps (Ok x) f p = f p
ok_maps (Err e) f p = tt

pub err_maps : {T E : Type 0} {P Q : E → Type 0} (result : Result T E) → ((e : E) → P e → Q e) → IfErr result P → IfErr result Q
err_maps (Ok x) f p = tt
err_maps (Err e) f p = f e p
