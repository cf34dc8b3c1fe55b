use Rattle.tv_lines.proofs.OneOutcome.{inputs_alike}
use Rattle.tv_lines.proofs.laws.lines_have_one_block.Goals as goal

pub returns : goal.returns
returns c = λ schema rules lines block other said also mine yours. inputs_alike schema rules lines block other said also mine yours
