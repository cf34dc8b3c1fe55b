-- What becomes of the next line of an input: its document is stored, or there is a reason why it makes none,
-- or why it isn't to be stored.
use Rattle.std.specs.Prelude.{◌≡◌, ◌≢◌, ◌+◌, ◌⊎◌, ℕ, List, [], ◌++◌, Option, Some, None, Result, Ok, Err}
use Rattle.std.specs.Prelude.{length, string_bytes}
use Rattle.tv_base.specs.Sink.{AppendsPrefix}
use Rattle.tv_doc.specs.Belongs.{Belongs}
use Rattle.tv_doc.specs.Document.{document_of}
use Rattle.tv_doc.specs.declared.document.CompactDoc.{CompactDoc}
use Rattle.tv_field.specs.Entry.{Entry}
use Rattle.tv_format.specs.Short.{short_document}
use Rattle.tv_format.specs.WriteVersion.{written_version}
use Rattle.tv_indexing.specs.TermFault.{document_fault}
use Rattle.tv_indexing.specs.declared.document.TermValuesError.{TermValuesError}
use Rattle.tv_lines.specs.LineDocuments.{MakesLineDocument, MakesNone}
use Rattle.tv_lines.specs.Lines.{FirstLine}
use Rattle.tv_lines.specs.Reader.{most_left, unread}
use Rattle.tv_lines.specs.Terms.{faulty_name}
use Rattle.tv_lines.specs.declared.errors.Halt.{Halt}
use Rattle.tv_lines.specs.declared.import.FaultRule.{FaultRule}
use Rattle.tv_lines.specs.declared.import.FaultRule.TheVariants.{Ignore, Tell, Refuse}
use Rattle.tv_lines.specs.declared.import.ImportRules.{ImportRules}
use Rattle.tv_lines.specs.declared.import.LineImporter.{LineImporter}
use Rattle.tv_lines.specs.declared.import.LineOutcome.{LineOutcome}
use Rattle.tv_lines.specs.declared.import.LineOutcome.TheVariants as outcome
use Rattle.tv_lines.specs.declared.line_document.LineError.{LineError}
use Rattle.tv_lines.specs.declared.line_document.LineError.TheVariants.{Unsearchable}
use Rattle.tv_store.specs.Stored.{stored}

-- what is said of a document that is stored, of which this is why it can't be searched, if it can't
abbrev pub SaysFault : FaultRule → Option TermValuesError → Option TermValuesError → Type 0
SaysFault Ignore fault said = said ≡ None
SaysFault Tell fault said = said ≡ fault
SaysFault Refuse fault said = (said ≡ None) × (fault ≡ None)

-- the document of a line is refused, since it can't be searched: by this rule, for this reason
abbrev pub RefusesFault : FaultRule → Option TermValuesError → TermValuesError → Type 0
RefusesFault Refuse fault why = fault ≡ Some why
RefusesFault _ fault why = ⊥

-- why a line makes no document, or one that isn't to be stored
abbrev pub IsLineError : List Entry → ImportRules → List ℕ → LineError → Type 0
IsLineError schema rules line (Unsearchable name why) =
    (made : CompactDoc) × MakesLineDocument schema rules.strict line made
    × RefusesFault rules.faults (document_fault schema (document_of made)) why
    × (string_bytes name ≡ faulty_name schema why)
IsLineError schema rules line error = MakesNone schema rules.strict line error

-- The line makes a document. This is its stored encoding, and what is said of why it can't be searched.
abbrev pub IsStoredLine : List Entry → ImportRules → List ℕ → List ℕ → Option TermValuesError → Type 0
IsStoredLine schema rules line text fault =
    (made : CompactDoc) × MakesLineDocument schema rules.strict line made
    × (text ≡ short_document (written_version rules.version) (stored schema (document_of made)))
    × SaysFault rules.faults (document_fault schema (document_of made)) fault

-- what becomes of a line, and what is appended: `size` bytes, if its document is stored
abbrev pub IsOutcome : List Entry → ImportRules → List ℕ → List ℕ → LineOutcome → Type 0
IsOutcome schema rules line text (outcome.Stored size fault) =
    IsStoredLine schema rules line text fault × (size ≡ length text)
IsOutcome schema rules line text (outcome.Refused error) = IsLineError schema rules line error × (text ≡ [])

-- what becomes of the next line, if there is one, with what follows it and what is appended
abbrev pub ImportsNext : List Entry → ImportRules → List ℕ → List ℕ → List ℕ → Option LineOutcome → Type 0
ImportsNext schema rules input rest text None = (input ≡ []) × (rest ≡ []) × (text ≡ [])
ImportsNext schema rules input rest text (Some said) =
    (input ≢ []) × (line : List ℕ) × FirstLine input line rest × IsOutcome schema rules line text said

-- The next line of an input was taken, and this became of it: what follows it is left, and the sink has what
-- is appended for it.
abbrev pub Imports : List Entry → ImportRules → List ℕ → List ℕ → List ℕ → List ℕ → Option LineOutcome
    → Type 0
Imports schema rules input rest old new said = (text : List ℕ) × ImportsNext schema rules input rest text said
    × (new ≡ old ++ text)

-- The sink holds what it held, or also a beginning of the document of the next line.
abbrev pub LeavesBegun : List Entry → ImportRules → List ℕ → List ℕ → List ℕ → Type 0
LeavesBegun schema rules input old new =
    (new ≡ old) ⊎ ((rest : List ℕ) × (text : List ℕ) × (fault : Option TermValuesError)
    × ImportsNext schema rules input rest text (Some (outcome.Stored (length text) fault))
    × AppendsPrefix old new text)

-- The next line of an input was taken, or that broke off.
abbrev pub ImportsLine : List Entry → ImportRules → List ℕ → List ℕ → List ℕ → List ℕ
    → Result (Option LineOutcome) Halt → Type 0
ImportsLine schema rules input rest old new (Ok said) = Imports schema rules input rest old new said
ImportsLine schema rules input rest old new (Err error) = LeavesBegun schema rules input old new

-- what an importer has left to read of a source that has these bytes left
abbrev pub left_to : LineImporter → List ℕ → List ℕ
left_to importer left = unread importer.lines ++ left

-- how many bytes it can still take at most
abbrev pub most_to : LineImporter → ℕ
most_to importer = most_left importer.lines

-- what the importer says it took is what it had left to read before and not after
abbrev pub CountsTaken : LineImporter → List ℕ → LineImporter → List ℕ → Type 0
CountsTaken old old_left new new_left = length (left_to old old_left)
    ≡ new.taken + length (left_to new new_left)

-- ---- for private clauses

-- the document is the line's, with what is said of why it can't be searched; or the line is refused
abbrev pub IsJudged : List Entry → ImportRules → List ℕ → CompactDoc
    → Result (Option TermValuesError) LineError → Type 0
IsJudged schema rules line made (Ok fault) = MakesLineDocument schema rules.strict line made
    × Belongs schema (document_of made) × SaysFault rules.faults (document_fault schema (document_of made))
    fault
IsJudged schema rules line made (Err error) = IsLineError schema rules line error

-- this is told of a document that is refused since it can't be searched
abbrev pub TellsUnsearchable : List Entry → TermValuesError → LineError → Type 0
TellsUnsearchable schema why (Unsearchable name said) =
    (said ≡ why) × (string_bytes name ≡ faulty_name schema why)
TellsUnsearchable schema why error = ⊥
