-- Documents of lines, and why there is none.
use Rattle.std.proofs.Common.{ℕ, false, List}
use Rattle.tv_blocks.specs.LineRefusals.{IsLenient}
use Rattle.tv_doc.specs.declared.errors.DocParsingError.TheVariants as errors
use Rattle.tv_doc.specs.declared.errors.StrictParsingError.TheVariants.{Parsing, UnknownKey, RepeatedKey}
use Rattle.tv_field.specs.Entry.{Entry}
use Rattle.tv_lines.specs.LineDocuments.{MakesNone}
use Rattle.tv_lines.specs.declared.line_document.LineError.{LineError}
use Rattle.tv_lines.specs.declared.line_document.LineError.TheVariants.{Float, NoObject, NotUtf8, Refused, Unsearchable}

-- only strict rules have other reasons
pub lenient_of : (schema : List Entry) (line : List ℕ) (e : LineError) → MakesNone schema false line e → IsLenient e
lenient_of schema line NotUtf8 h = tt
lenient_of schema line (NoObject start fault) h = tt
lenient_of schema line (Float name json) h = tt
lenient_of schema line (Refused (Parsing (errors.ValueError name e))) h = tt
lenient_of schema line (Refused (Parsing (errors.Add e))) h = tt
lenient_of schema line (Refused (Parsing (errors.InvalidJson start))) h = absurd h.2
lenient_of schema line (Refused (Parsing errors.Memory)) h = absurd h.2
lenient_of schema line (Refused (UnknownKey start)) h = absurd h.1
lenient_of schema line (Refused (RepeatedKey start)) h = absurd h.1
lenient_of schema line (Unsearchable name why) h = absurd h
