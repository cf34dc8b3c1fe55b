-- What is answered for a line: the first is a schema's, each other one a document's.
use Rattle.std.specs.Prelude.{◌≡◌, ℕ, ◌<◌, List, [], ◌∷◌, ◌++◌, Ok, Err, Some, IsUtf8}
use lib.Chars.{codes}
use Rattle.hex.specs.Hex.{encode_lower}
use Rattle.serde_json.specs.Data.{Data}
use Rattle.serde_json.specs.Read.{read}
use Rattle.tv_doc.specs.Document.{document_of}
use Rattle.tv_doc.specs.JsonObject.{Parses}
use Rattle.tv_doc.specs.Named.{IsJsonText, field_names}
use Rattle.tv_doc.specs.declared.errors.DocParsingError.{DocParsingError}
use Rattle.tv_doc.specs.declared.errors.DocParsingError.TheVariants as errors
use Rattle.tv_doc.specs.declared.document.CompactDoc.{CompactDoc}
use Rattle.tv_field.specs.Entry.{Entry}
use Rattle.tv_field.specs.declared.field_entry.SchemaError.{SchemaError}
use Rattle.tv_field.specs.declared.field_entry.SchemaError.TheVariants as schema_error
use Rattle.tv_field.specs.declared.value_parsing_error.ValueParsingError.{ValueParsingError}
use Rattle.tv_field.specs.declared.value_parsing_error.ValueParsingError.TheVariants as values
use Rattle.tv_format.specs.Short.{short_document}
use Rattle.tv_format.specs.Tree.{Document}
use Rattle.tv_format.specs.Version.{V2}
use Rattle.tv_heap.specs.Room.{document_room}
use Rattle.tv_schema.specs.SchemaJsonReading.{schema_of}
use Rattle.tv_store.specs.Stored.{stored}

-- the line is UTF-8, and encodes this JSON value
abbrev pub IsJson : List ℕ → Data → Type 0
IsJson line value = IsUtf8 line × (read line ≡ Some value)

-- ---- the schema's line

abbrev pub schema_error_name : SchemaError → List ℕ
schema_error_name schema_error.InvalidName = codes "InvalidName"
schema_error_name schema_error.DuplicateName = codes "DuplicateName"
schema_error_name schema_error.TooManyFields = codes "TooManyFields"
schema_error_name schema_error.Memory = codes "Memory"
schema_error_name schema_error.FieldNotFound = codes "FieldNotFound"
schema_error_name (schema_error.BadJson entry) = codes "BadJson"
schema_error_name (schema_error.FloatField entry) = codes "FloatField"

-- the line describes this schema
abbrev pub ReadsSchema : List ℕ → List Entry → Type 0
ReadsSchema line schema = (value : Data) × IsJson line value × (schema_of value ≡ Ok schema)

-- what is answered for a line that describes no schema, or where memory was refused
pub data SchemaRefusal (line text : List ℕ) : Type 0 where
  no_json : ((value : Data) → ¬ (IsJson line value)) → text ≡ codes "error InvalidJson"
      → SchemaRefusal line text
  no_schema : (value : Data) (error : SchemaError) → IsJson line value → schema_of value ≡ Err error
      → text ≡ codes "error " ++ schema_error_name error
      → SchemaRefusal line text
  no_memory : text ≡ codes "error Memory" → SchemaRefusal line text

-- ---- a document's line

abbrev pub value_error_text : ValueParsingError → List ℕ
value_error_text (values.OverflowError expected json) = codes "error ValueError OverflowError"
value_error_text (values.TypeError expected json) = codes "error ValueError TypeError"
value_error_text (values.ParseError cause json) = codes "error ValueError ParseError"
value_error_text (values.InvalidBase64 text) = codes "error ValueError InvalidBase64"
value_error_text values.FloatNumber = codes "error ValueError FloatNumber"
value_error_text values.Memory = codes "error Memory"

-- what is answered where there is no document of a text, for this reason
abbrev pub error_text : DocParsingError → List ℕ
error_text (errors.InvalidJson start) = codes "error InvalidJson"
error_text (errors.ValueError name error) = value_error_text error
error_text (errors.Add refused) = codes "error HeapFull"
error_text errors.Memory = codes "error Memory"

-- the bytes of a document in lower-case hexadecimal, a space, and its text of JSON by the names of the fields
abbrev pub IsDocumentText : List Entry → Document → List ℕ → Type 0
IsDocumentText schema document text =
    (json : List ℕ) × IsJsonText (field_names schema) document json
    × (text ≡ encode_lower (short_document V2 document) ++ 32 ∷ json)

-- What is answered for a document's line: that it is no text, why there is no document of it, or the stored
-- pairs; or that memory was refused, or that there is no room to read them back.
pub data Answer (schema : List Entry) (line text : List ℕ) : Type 0 where
  no_text : ¬ IsUtf8 line → text ≡ codes "error InvalidJson" → Answer schema line text
  refused : (error : DocParsingError) → IsUtf8 line → Parses schema line (Err error) → text ≡ error_text error
      → Answer schema line text
  written : (made : CompactDoc) → IsUtf8 line → Parses schema line (Ok made)
      → IsDocumentText schema (stored schema (document_of made)) text → Answer schema line text
  no_memory : text ≡ codes "error Memory" → Answer schema line text
  no_room : (made : CompactDoc) → IsUtf8 line → Parses schema line (Ok made)
      → 4294967295 < document_room (document_of made) → text ≡ codes "error HeapFull"
      → Answer schema line text

-- an answer for each line, with its line feed
pub data AreAnswers (schema : List Entry) : List (List ℕ) → List ℕ → Type 0 where
  no_answers : AreAnswers schema [] []
  next_answer : {line text rest : List ℕ} {lines : List (List ℕ)} → Answer schema line text
      → AreAnswers schema lines rest → AreAnswers schema (line ∷ lines) (text ++ 10 ∷ rest)
