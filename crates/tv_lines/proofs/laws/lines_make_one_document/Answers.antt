use Rattle.tv_lines.proofs.OneOutcome.{parsed_alike}
use Rattle.tv_lines.proofs.laws.lines_make_one_document.Goals as goal

pub returns : goal.returns
returns c = λ schema strict line made twin error other mine yours. parsed_alike schema strict line made twin error other mine yours
