use Rattle.tv_base.proofs.Printing.{parse-printed}
use Rattle.tv_base.proofs.laws.printed_facets_are_read.Goals as goal

pub returns : goal.returns
returns c = parse-printed
