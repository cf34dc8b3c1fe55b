use Rattle.std.proofs.Common.{Err, subst}
use Rattle.tv_lines.proofs.Told.{value_told}
use Rattle.tv_doc.specs.JsonObject.{Parses}
use Rattle.tv_doc.specs.declared.errors.DocParsingError.TheVariants.{ValueError}
use Rattle.tv_lines.proofs.line_document.refused_value_told.Goals as goal

pub refused_number-requires : goal.refused_number-requires
refused_number-requires c = subst (λ e. Parses c.args.schema.now c.args.text.now (Err (ValueError c.args.name e))) c.in-FloatNumber.is c.requires

pub returns-in_default : goal.returns-in_default
returns-in_default c = value_told c.args.schema.now c.args.text.now c.args.name c.args.error c.in_default.not-FloatNumber
