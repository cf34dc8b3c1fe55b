-- Answers as numbers.
use Rattle.std.specs.Prelude.{ℕ, ◌+◌, ◌-◌, ◌^◌, min, Option, Some, None, Result, Ok, Err}
use Rattle.tv_base.specs.declared.cause.Cause.{Cause}
use Rattle.tv_base.specs.declared.cause.Cause.TheVariants as causes
use Rattle.tv_blocks.specs.LineRefusals.{line_byte, line_field, line_number}
use Rattle.tv_blocks.specs.QueryRefusals.{query_field, query_number}
use Rattle.tv_blocks.specs.TermsRefusals.{terms_number}
use Rattle.tv_blocks.specs.declared.block_error.BlockError.{BlockError}
use Rattle.tv_blocks.specs.declared.block_error.BlockError.TheVariants as errors
use Rattle.tv_blocks.specs.declared.block_error.DocumentRefusal.{DocumentRefusal}
use Rattle.tv_blocks.specs.declared.block_error.DocumentRefusal.TheVariants as documents
use Rattle.tv_blocks.specs.declared.import.Imported.{Imported}
use Rattle.tv_blocks.specs.declared.status.Answer.{Answer}
use Rattle.tv_field.specs.declared.field_entry.SchemaError.{SchemaError}
use Rattle.tv_field.specs.declared.field_entry.SchemaError.TheVariants as schemas
use Rattle.tv_schema.specs.declared.json.key.SchemaKey.{SchemaKey}
use Rattle.tv_schema.specs.declared.json.key.SchemaKey.TheVariants as keys

abbrev pub nothing_written : ℕ → ℕ → ℕ → Answer
nothing_written status detail place = record {
  status = status;
  detail = detail;
  place = place;
  bytes = 0;
  lines = 0;
}

abbrev pub wrong_version : Answer
wrong_version = nothing_written 9 0 0

abbrev pub cause_number : Cause → ℕ
cause_number causes.UnexpectedEnd = 1
cause_number (causes.UnknownTypeCode code) = 2
cause_number (causes.UnknownExtCode code) = 3
cause_number causes.FloatCode = 4
cause_number causes.BadNumber = 5
cause_number causes.BadBool = 6
cause_number causes.NotUtf8 = 7
cause_number causes.OddObject = 8
cause_number causes.DateRange = 9
cause_number causes.LegacyJson = 10
cause_number causes.LegacyFloat = 11
cause_number causes.TooLong = 14

abbrev pub refusal_number : DocumentRefusal → ℕ
refusal_number (documents.Corrupted cause) = cause_number cause
refusal_number documents.KeyIsNoText = 12
refusal_number documents.HeapFull = 13

-- the place of an entry, from 1
abbrev pub entry_place : Option ℕ → ℕ
entry_place None = 0
entry_place (Some entry) = min (entry + 1) (2 ^ 64 - 1)

abbrev pub key_number : SchemaKey → ℕ
key_number keys.Name = 6
key_number keys.Type = 7
key_number keys.Options = 8
key_number keys.Indexed = 9
key_number keys.Stored = 10
key_number keys.Fieldnorms = 11
key_number keys.Fast = 12
key_number keys.FastOfText = 13
key_number keys.Coerce = 14
key_number keys.Precision = 15
key_number keys.Indexing = 16
key_number keys.Record = 17
key_number keys.IndexingFieldnorms = 18
key_number keys.Tokenizer = 19
key_number keys.WithTokenizer = 20
key_number keys.ExpandDots = 21

abbrev pub schema_answer : SchemaError → Answer
schema_answer schemas.InvalidName = nothing_written 6 1 0
schema_answer schemas.DuplicateName = nothing_written 6 2 0
schema_answer schemas.TooManyFields = nothing_written 6 3 0
schema_answer (schemas.BadJson entry) = nothing_written 6 4 (entry_place entry)
schema_answer (schemas.FloatField entry) = nothing_written 6 5 (entry_place (Some entry))
schema_answer schemas.Memory = nothing_written 2 0 0
schema_answer schemas.FieldNotFound = nothing_written 7 0 0

-- the answer with the place of an entry
abbrev pub placed : ℕ → Answer → Answer
placed entry answer = nothing_written answer.status answer.detail (entry_place (Some entry))

abbrev pub error_answer : BlockError → Answer
error_answer (errors.TooSmall bytes lines) = record {
  status = 1;
  detail = 0;
  place = 0;
  bytes = bytes;
  lines = lines;
}
error_answer errors.Memory = nothing_written 2 0 0
error_answer errors.NotUtf8 = nothing_written 3 0 0
error_answer errors.NotFacet = nothing_written 4 0 0
error_answer errors.InvalidJson = nothing_written 5 0 0
error_answer (errors.BadSchema error) = schema_answer error
error_answer (errors.BadSchemaEntry entry error) = placed entry (schema_answer error)
error_answer (errors.BadSchemaKey entry key) = nothing_written 6 (key_number key) (entry_place (Some entry))
error_answer errors.NoField = nothing_written 7 0 0
error_answer errors.NoEnd = nothing_written 10 0 0
error_answer (errors.BadDocument start refusal) = nothing_written 8 (refusal_number refusal) start
error_answer (errors.BadLine why) = record {
  status = 11;
  detail = line_number why;
  place = line_field why;
  bytes = line_byte why;
  lines = 0;
}
error_answer (errors.ForeignField field) = nothing_written 12 0 field
error_answer (errors.BadQuery why) = nothing_written 13 (query_number why) (query_field why)
error_answer (errors.NoTerms start refusal) = nothing_written 8 (terms_number refusal) start
error_answer (errors.BadPair start) = nothing_written 14 0 start
error_answer errors.NotTerm = nothing_written 17 0 0

abbrev pub call_answer : Result ℕ BlockError → Answer
call_answer (Ok bytes) = record { status = 0; detail = 0; place = 0; bytes = bytes; lines = 0 }
call_answer (Err error) = error_answer error

abbrev pub import_answer : Result Imported BlockError → Answer
import_answer (Ok count) = record {
  status = 0;
  detail = 0;
  place = 0;
  bytes = count.bytes;
  lines =
      count.lines;
}
import_answer (Err error) = error_answer error
