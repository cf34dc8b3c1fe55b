use Rattle.tv_lines.proofs.OneCutting.{one_cutting}
use Rattle.tv_lines.proofs.laws.inputs_have_one_cutting.Goals as goal

pub returns : goal.returns
returns c = λ input lines others some any. one_cutting some any
