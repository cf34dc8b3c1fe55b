-- What is told of a line that is refused.
use Rattle.std.proofs.Common.{◌≡◌, List, ℕ, String, Global, refl}
use Rattle.tv_lines.specs.LineDocuments.{Tells}
use Rattle.tv_lines.specs.declared.line_document.LineError.TheVariants.{Refused}
use Rattle.tv_doc.specs.declared.errors.DocParsingError.TheVariants as errors
use Rattle.tv_doc.specs.declared.errors.StrictParsingError.TheVariants.{Parsing}
use Rattle.tv_field.specs.Entry.{Entry}
use Rattle.tv_field.specs.declared.value_parsing_error.ValueParsingError.{ValueParsingError}
use Rattle.tv_field.specs.declared.value_parsing_error.ValueParsingError.TheVariants as values

pub value_told : (schema : List Entry) (line : List ℕ) (name : String Global) (e : ValueParsingError) → (e ≡ values.FloatNumber → ⊥) → Tells schema line (errors.ValueError name e) (Refused (Parsing (errors.ValueError name e)))
value_told schema line name values.FloatNumber other = absurd (other refl)
value_told schema line name (values.OverflowError expected json) other = refl
value_told schema line name (values.TypeError expected json) other = refl
value_told schema line name (values.ParseError cause json) other = refl
value_told schema line name (values.InvalidBase64 text) other = refl
value_told schema line name values.Memory other = refl
