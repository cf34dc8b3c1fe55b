-- The document of a line of JSON, or why there is none.
use Rattle.std.specs.Prelude.{◌≡◌, ℕ, Bool, true, false, List, [], Option, Some, None, Result, Ok, Err}
use Rattle.std.specs.Prelude.{IsUtf8, string_bytes}
use Rattle.serde_json.specs.View.{view}
use Rattle.serde_json.specs.declared.value.Value.{Value}
use Rattle.tv_doc.specs.Belongs.{Belongs}
use Rattle.tv_doc.specs.Document.{document_of}
use Rattle.tv_doc.specs.JsonObject.{Parses}
use Rattle.tv_doc.specs.StrictJson.{ParsesStrictly}
use Rattle.tv_doc.specs.TextFault.{IsFault}
use Rattle.tv_doc.specs.declared.errors.DocParsingError.{DocParsingError}
use Rattle.tv_doc.specs.declared.errors.DocParsingError.TheVariants as parsing
use Rattle.tv_doc.specs.declared.document.CompactDoc.{CompactDoc}
use Rattle.tv_doc.specs.declared.errors.StrictParsingError.{StrictParsingError}
use Rattle.tv_doc.specs.declared.errors.StrictParsingError.TheVariants.{Parsing}
use Rattle.tv_field.specs.Entry.{Entry}
use Rattle.tv_field.specs.declared.value_parsing_error.ValueParsingError.TheVariants.{FloatNumber}
use Rattle.tv_json.specs.declared.json_fault.JsonFault.{JsonFault}
use Rattle.tv_lines.specs.RefusedValues.{IsFloatOf}
use Rattle.tv_lines.specs.declared.line_document.LineError.{LineError}
use Rattle.tv_lines.specs.declared.line_document.LineError.TheVariants.{Float, NoObject, NotUtf8, Refused}
use Rattle.tv_lines.specs.declared.line_document.LineError.TheVariants.{Unsearchable}

-- the document of a text, or why there is none, strictly or not
abbrev pub ParsesBy : List Entry → Bool → List ℕ → Result CompactDoc StrictParsingError → Type 0
ParsesBy schema true text r = ParsesStrictly schema text r
ParsesBy schema false text (Ok made) = Parses schema text (Ok made)
ParsesBy schema false text (Err (Parsing error)) = Parses schema text (Err error)
ParsesBy schema false text (Err error) = ⊥

-- the error has all that is told of it: it is not a text that is no object, whose place is told too, nor a
-- float, nor want of memory
abbrev pub IsToldWhole : StrictParsingError → Type 0
IsToldWhole (Parsing (parsing.InvalidJson start)) = ⊥
IsToldWhole (Parsing (parsing.ValueError name FloatNumber)) = ⊥
IsToldWhole (Parsing parsing.Memory) = ⊥
IsToldWhole _ = Unit {0}

-- the line makes this document, by strict rules or not
abbrev pub MakesLineDocument : List Entry → Bool → List ℕ → CompactDoc → Type 0
MakesLineDocument schema strict line made = IsUtf8 line × ParsesBy schema strict line (Ok made)

-- why a line makes no document
abbrev pub MakesNone : List Entry → Bool → List ℕ → LineError → Type 0
MakesNone schema strict line NotUtf8 = ¬ IsUtf8 line
MakesNone schema strict line (NoObject start fault) =
    IsUtf8 line × ParsesBy schema strict line (Err (Parsing (parsing.InvalidJson start))) × IsFault line fault
MakesNone schema strict line (Float name json) =
    IsUtf8 line × ParsesBy schema strict line (Err (Parsing (parsing.ValueError name FloatNumber)))
    × IsFloatOf schema line (string_bytes name) (view json)
MakesNone schema strict line (Refused error) = IsUtf8 line × ParsesBy schema strict line (Err error)
    × IsToldWhole error
MakesNone schema strict line (Unsearchable name why) = ⊥

-- what comes of a line: its document, whose fields are those of the schema, or why there is none, and then
-- the document has no pairs
abbrev pub IsParsed : List Entry → Bool → List ℕ → CompactDoc → Option LineError → Type 0
IsParsed schema strict line made None = MakesLineDocument schema strict line made
    × Belongs schema (document_of made)
IsParsed schema strict line made (Some error) = MakesNone schema strict line error × (document_of made ≡ [])

-- ---- for private clauses

-- the line is refused for this error, and this is told of it
abbrev pub Tells : List Entry → List ℕ → DocParsingError → LineError → Type 0
Tells schema line (parsing.InvalidJson start) said =
    (fault : JsonFault) × (said ≡ NoObject start fault) × IsFault line fault
Tells schema line (parsing.ValueError name FloatNumber) said =
    (json : Value) × (said ≡ Float name json) × IsFloatOf schema line (string_bytes name) (view json)
Tells schema line parsing.Memory said = ⊥
Tells schema line error said = said ≡ Refused (Parsing error)
