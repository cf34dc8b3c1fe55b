use Rattle.std.proofs.Common.{arith}
use Rattle.std.proofs.lemmas.Str.Pattern.{strip_prefix_char}
use Rattle.std.specs.Prelude.{None, refl}
use Rattle.tv_base.proofs.Printing.{parse-None}
use Rattle.tv_base.proofs.facet.Facet.encode_text.Goals as goal

pub returns-in-None : goal.returns-in-None
returns-in-None c = (parse-None c.args.text.now (strip_prefix_char 47 c.args.text.now None c.in-None.ensures.cases (omega arith)), refl)
