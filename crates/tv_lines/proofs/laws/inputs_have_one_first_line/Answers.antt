use Rattle.tv_lines.proofs.OneCutting.{one_first}
use Rattle.tv_lines.proofs.laws.inputs_have_one_first_line.Goals as goal

pub returns : goal.returns
returns c = λ input line other rest behind first begin. one_first first begin
