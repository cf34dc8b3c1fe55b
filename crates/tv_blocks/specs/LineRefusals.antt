-- Documents of lines of JSON, and what is said where there is none.
use Rattle.std.specs.Prelude.{◌≡◌, ℕ, false, List, string_bytes, unwrap_or}
use Rattle.tv_blocks.specs.declared.block_error.BlockError.{BlockError}
use Rattle.tv_blocks.specs.declared.block_error.BlockError.TheVariants as errors
use Rattle.tv_blocks.specs.declared.line_refusal.LineRefusal.{LineRefusal}
use Rattle.tv_blocks.specs.declared.line_refusal.LineRefusal.TheVariants as lines
use Rattle.tv_blocks.specs.declared.line_refusal.ValueRefusal.{ValueRefusal}
use Rattle.tv_blocks.specs.declared.line_refusal.ValueRefusal.TheVariants as refusals
use Rattle.tv_doc.specs.Document.{document_of}
use Rattle.tv_doc.specs.declared.errors.DocParsingError.TheVariants as parsing
use Rattle.tv_doc.specs.declared.document.CompactDoc.{CompactDoc}
use Rattle.tv_doc.specs.declared.errors.StrictParsingError.TheVariants.{Parsing}
use Rattle.tv_field.specs.Entry.{Entry}
use Rattle.tv_json.specs.declared.json_expected.JsonExpected.{JsonExpected}
use Rattle.tv_json.specs.declared.json_expected.JsonExpected.TheVariants as expected
use Rattle.tv_json.specs.declared.json_fault.JsonFaultKind.{JsonFaultKind}
use Rattle.tv_json.specs.declared.json_fault.JsonFaultKind.TheVariants as faults
use Rattle.tv_field.specs.declared.value_parsing_error.ValueParsingError.{ValueParsingError}
use Rattle.tv_field.specs.declared.value_parsing_error.ValueParsingError.TheVariants as values
use Rattle.tv_format.specs.Tree.{Document}
use Rattle.tv_lines.specs.LineDocuments.{MakesLineDocument, MakesNone}
use Rattle.tv_lines.specs.declared.line_document.LineError.{LineError}
use Rattle.tv_lines.specs.declared.line_document.LineError.TheVariants.{Float, NoObject, NotUtf8, Refused}
use Rattle.tv_schema.specs.Schema.{field_named}

-- the line makes a document, which has these pairs
abbrev pub IsLineDocument : List Entry → List ℕ → Document → Type 0
IsLineDocument schema line pairs = (made : CompactDoc) × MakesLineDocument schema false line made
    × (pairs ≡ document_of made)

-- what is said where the type of a field refuses a value
abbrev pub value_refusal : ValueParsingError → ValueRefusal
value_refusal (values.OverflowError expected json) = refusals.Overflow
value_refusal (values.TypeError expected json) = refusals.WrongType
value_refusal (values.ParseError cause json) = refusals.BadText
value_refusal (values.InvalidBase64 text) = refusals.BadBase64
value_refusal values.FloatNumber = refusals.FloatNumber
value_refusal values.Memory = refusals.WrongType

-- what is said of a value of the field with this name
abbrev pub bad_value : List Entry → List ℕ → ValueRefusal → LineRefusal
bad_value schema name refusal = lines.BadValue (unwrap_or (field_named schema name) 0) refusal

-- what is said of a line that makes no document: of a value of which field, and why
abbrev pub refusal_of : List Entry → LineError → LineRefusal
refusal_of schema NotUtf8 = lines.NotUtf8
refusal_of schema (NoObject start fault) = lines.InvalidJson fault
refusal_of schema (Float name json) = bad_value schema (string_bytes name) refusals.FloatNumber
refusal_of schema (Refused (Parsing (parsing.ValueError name error))) =
    bad_value schema (string_bytes name) (value_refusal error)
refusal_of schema (Refused (Parsing (parsing.Add error))) = lines.HeapFull
refusal_of schema error = lines.NotUtf8

-- a line makes no document for this reason, which is said so
abbrev pub RefusesLine : List Entry → List ℕ → LineRefusal → Type 0
RefusesLine schema line said = (error : LineError) × MakesNone schema false line error
    × (said ≡ refusal_of schema error)

-- the line is refused, or memory was
abbrev pub IsUnparsed : List Entry → List ℕ → BlockError → Type 0
IsUnparsed schema line (errors.BadLine why) = RefusesLine schema line why
IsUnparsed schema line errors.Memory = Unit {0}
IsUnparsed schema line error = ⊥

-- ---- as numbers

abbrev pub value_number : ValueRefusal → ℕ
value_number refusals.Overflow = 2
value_number refusals.WrongType = 3
value_number refusals.BadText = 4
value_number refusals.BadBase64 = 5
value_number refusals.FloatNumber = 6

abbrev pub line_number : LineRefusal → ℕ
line_number lines.NotUtf8 = 1
line_number (lines.InvalidJson fault) = 1
line_number (lines.BadValue field refusal) = value_number refusal
line_number lines.HeapFull = 7

-- what was expected, from 4 on
abbrev pub expected_number : JsonExpected → ℕ
expected_number expected.Value = 4
expected_number expected.ValueOrArrayEnd = 5
expected_number expected.Key = 6
expected_number expected.KeyOrObjectEnd = 7
expected_number expected.Colon = 8
expected_number expected.CommaOrArrayEnd = 9
expected_number expected.CommaOrObjectEnd = 10
expected_number expected.TextEnd = 11
expected_number expected.StringCharacter = 12
expected_number expected.Escape = 13
expected_number expected.HexadecimalDigit = 14
expected_number expected.HexadecimalDigitBelowC = 15
expected_number (expected.LowSurrogate part) = 16
expected_number expected.Digit = 17
expected_number expected.DigitOrSign = 18
expected_number (expected.Word word) = 19

-- what is wrong with a text that is no JSON object
abbrev pub fault_number : JsonFaultKind → ℕ
fault_number faults.TooDeep = 1
fault_number faults.NumberTooLarge = 2
fault_number faults.NoObject = 3
fault_number (faults.EndsEarly error) = expected_number error
fault_number (faults.Unexpected error) = expected_number error

-- the field whose value is refused, or what is wrong with the JSON, or 0
abbrev pub line_field : LineRefusal → ℕ
line_field lines.NotUtf8 = 0
line_field (lines.InvalidJson fault) = fault_number fault.kind
line_field (lines.BadValue field refusal) = field
line_field lines.HeapFull = 0

-- where the JSON is refused, or 0
abbrev pub line_byte : LineRefusal → ℕ
line_byte lines.NotUtf8 = 0
line_byte (lines.InvalidJson fault) = fault.offset
line_byte (lines.BadValue field refusal) = 0
line_byte lines.HeapFull = 0

-- ---- for private clauses

-- a reason that a line may have whose keys may name no field
abbrev pub IsLenient : LineError → Type 0
IsLenient NotUtf8 = Unit {0}
IsLenient (NoObject start fault) = Unit {0}
IsLenient (Float name json) = Unit {0}
IsLenient (Refused (Parsing (parsing.ValueError name error))) = Unit {0}
IsLenient (Refused (Parsing (parsing.Add error))) = Unit {0}
IsLenient error = ⊥
