-- Why the values of a document have no terms.
use Rattle.std.specs.Prelude.{ℕ, Option, Some, None}
use Rattle.tv_blocks.specs.declared.block_error.BlockError.{BlockError}
use Rattle.tv_blocks.specs.declared.block_error.BlockError.TheVariants as errors
use Rattle.tv_blocks.specs.declared.terms_refusal.TermsRefusal.{TermsRefusal}
use Rattle.tv_blocks.specs.declared.terms_refusal.TermsRefusal.TheVariants as refusals
use Rattle.tv_indexing.specs.declared.document.TermValuesError.{TermValuesError}
use Rattle.tv_indexing.specs.declared.document.TermValuesError.TheVariants as values
use Rattle.tv_value.specs.declared.field.Field.{Field}

-- why a document has no terms, and the field whose value has none
abbrev pub refusal_of : TermValuesError → Option (TermsRefusal × Field)
refusal_of (values.UnknownField field) = Some (refusals.ForeignField, field)
refusal_of (values.WrongType field) = Some (refusals.WrongType, field)
refusal_of (values.NulInPath field) = Some (refusals.NulInKey, field)
refusal_of (values.NoJsonTerm field) = Some (refusals.NoTerm, field)
refusal_of values.Memory = None

-- what is said of a document that begins at this byte of its block, and has no terms for this reason
abbrev pub said_at : ℕ → Option (TermsRefusal × Field) → BlockError
said_at start (Some why) = errors.NoTerms start why.0
said_at start None = errors.Memory

abbrev pub terms_error : ℕ → TermValuesError → BlockError
terms_error start error = said_at start (refusal_of error)

abbrev pub terms_number : TermsRefusal → ℕ
terms_number refusals.ForeignField = 15
terms_number refusals.WrongType = 16
terms_number refusals.NulInKey = 17
terms_number refusals.NoTerm = 18
