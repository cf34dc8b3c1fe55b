-- What becomes of a line that was taken.
use Rattle.std.proofs.Common.{◌≡◌, ◌∙◌, ℕ, List, [], ◌++◌, length, Option, Some, Result, Ok, Err, append-nil, refl, sym, ap, inr}
use Rattle.std.specs.Prelude.{OnErr}
use Rattle.tv_base.specs.Sink.{AppendsPrefix}
use Rattle.tv_doc.specs.Document.{document_of}
use Rattle.tv_doc.specs.declared.document.CompactDoc.{CompactDoc}
use Rattle.tv_field.specs.Entry.{Entry}
use Rattle.tv_format.specs.Short.{short_document}
use Rattle.tv_format.specs.WriteVersion.{written_version}
use Rattle.tv_indexing.specs.TermFault.{document_fault}
use Rattle.tv_indexing.specs.declared.document.TermValuesError.{TermValuesError}
use Rattle.tv_lines.specs.Importing.{Imports, IsJudged, IsLineError, LeavesBegun, RefusesFault, TellsUnsearchable}
use Rattle.tv_lines.specs.LineDocuments.{MakesLineDocument}
use Rattle.tv_lines.specs.Reader.{TakesLine}
use Rattle.tv_lines.specs.Terms.{faulty_name}
use Rattle.tv_lines.specs.declared.import.ImportRules.{ImportRules}
use Rattle.tv_lines.specs.declared.import.LineOutcome.TheVariants as outcome
use Rattle.tv_lines.specs.declared.line_document.LineError.{LineError}
use Rattle.tv_lines.specs.declared.line_document.LineError.TheVariants.{Unsearchable}
use Rattle.tv_store.specs.Stored.{stored}

-- ---- what becomes of it

pub refuses : (schema : List Entry) (rules : ImportRules) (input rest line held : List ℕ) (count : ℕ) (e : LineError) → TakesLine input line rest (Some count)
    → IsLineError schema rules line e → Imports schema rules input rest held held (Some (outcome.Refused e))
refuses schema rules input rest line held count e took is = ([], (took.0, line, took.1, (is, refl)), sym (append-nil held))

-- the document can't be searched, and that is told
pub refuses_fault : (schema : List Entry) (rules : ImportRules) (line : List ℕ) (made : CompactDoc) (why : TermValuesError) (said : LineError) → MakesLineDocument schema rules.strict line made
    → RefusesFault rules.faults (document_fault schema (document_of made)) why → TellsUnsearchable schema why said → IsLineError schema rules line said
refuses_fault schema rules line made why (Unsearchable name other) makes refuses tells =
    (made, makes, rw tells.0 refuses, tells.1 ∙ ap (faulty_name schema) (sym tells.0))
refuses_fault schema rules line made why _ makes refuses tells = absurd tells

abbrev encoded : List Entry → ImportRules → CompactDoc → List ℕ
encoded schema rules made = short_document (written_version rules.version) (stored schema (document_of made))

pub stores : (schema : List Entry) (rules : ImportRules) (input rest line text held new : List ℕ) (made : CompactDoc) (fault : Option TermValuesError) (size count : ℕ) → TakesLine input line rest (Some count)
    → IsJudged schema rules line made (Ok fault) → text ≡ encoded schema rules made → size ≡ length text → new ≡ held ++ text
    → Imports schema rules input rest held new (Some (outcome.Stored size fault))
stores schema rules input rest line text held new made fault size count took is written sized appends =
    (text, (took.0, line, took.1, ((made, is.0, written, is.2), sized)), appends)

pub leaves : (schema : List Entry) (rules : ImportRules) (input rest line text held new : List ℕ) (made : CompactDoc) (fault : Option TermValuesError) (count : ℕ) → TakesLine input line rest (Some count)
    → IsJudged schema rules line made (Ok fault) → text ≡ encoded schema rules made → AppendsPrefix held new text → LeavesBegun schema rules input held new
leaves schema rules input rest line text held new made fault count took is written appends =
    inr (rest, text, fault, (took.0, line, took.1, ((made, is.0, written, is.2), refl)), appends)

-- ---- failures
