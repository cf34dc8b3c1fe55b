-- Why a text of a query has no terms, or no ranges of them, as numbers.
use Rattle.std.specs.Prelude.{ℕ, ◌+◌, Option, Some, None}
use Rattle.tv_blocks.specs.LineRefusals.{value_number}
use Rattle.tv_blocks.specs.declared.block_error.BlockError.{BlockError}
use Rattle.tv_blocks.specs.declared.block_error.BlockError.TheVariants as errors
use Rattle.tv_blocks.specs.declared.line_refusal.ValueRefusal.{ValueRefusal}
use Rattle.tv_blocks.specs.declared.line_refusal.ValueRefusal.TheVariants as refusals
use Rattle.tv_blocks.specs.declared.query_refusal.QueryRefusal.{QueryRefusal}
use Rattle.tv_blocks.specs.declared.query_refusal.QueryRefusal.TheVariants as queries
use Rattle.tv_field.specs.declared.json_value.JsonRefusal.{JsonRefusal}
use Rattle.tv_field.specs.declared.json_value.JsonRefusal.TheVariants as values
use Rattle.tv_indexing.specs.declared.text_terms_error.TextTermsError.{TextTermsError}
use Rattle.tv_indexing.specs.declared.text_terms_error.TextTermsError.TheVariants as texts

-- ---- what is said of an error

-- why the type of a field refuses a text; none where memory was refused
abbrev pub text_refusal : JsonRefusal → Option ValueRefusal
text_refusal (values.Overflow expected) = Some refusals.Overflow
text_refusal (values.Mismatch expected) = Some refusals.WrongType
text_refusal (values.Parse cause) = Some refusals.BadText
text_refusal values.InvalidBase64 = Some refusals.BadBase64
text_refusal values.FloatNumber = Some refusals.FloatNumber
text_refusal values.Memory = None

abbrev pub bad_text_of : ℕ → Option ValueRefusal → BlockError
bad_text_of field (Some refusal) = errors.BadQuery (queries.BadText field refusal)
bad_text_of field None = errors.Memory

-- what is said where a text has no terms, or no ranges
abbrev pub query_error : TextTermsError → BlockError
query_error (texts.UnknownPath start) = errors.NoField
query_error (texts.NotIndexed field) = errors.BadQuery (queries.NotIndexed field.id)
query_error (texts.PathEnds field) = errors.BadQuery (queries.PathEnds field.id)
query_error (texts.NulInPath field) = errors.BadQuery (queries.NulInPath field.id)
query_error (texts.WrongText field type refusal start) = bad_text_of field.id (text_refusal refusal)
query_error (texts.WrongRange start) = errors.BadQuery queries.NoRange
query_error (texts.Backwards field) = errors.BadQuery (queries.Backwards field.id)
query_error (texts.NoRange field) = errors.Memory
query_error texts.Memory = errors.Memory

-- ---- as numbers

abbrev pub query_number : QueryRefusal → ℕ
query_number (queries.NotIndexed field) = 1
query_number (queries.PathEnds field) = 2
query_number (queries.NulInPath field) = 3
query_number queries.NoRange = 4
query_number (queries.Backwards field) = 5
query_number (queries.BadText field refusal) = 10 + value_number refusal

-- the field, or 0
abbrev pub query_field : QueryRefusal → ℕ
query_field (queries.NotIndexed field) = field
query_field (queries.PathEnds field) = field
query_field (queries.NulInPath field) = field
query_field (queries.BadText field refusal) = field
query_field queries.NoRange = 0
query_field (queries.Backwards field) = field
