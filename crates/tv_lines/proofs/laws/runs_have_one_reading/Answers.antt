use Rattle.std.proofs.Common.{◌∙◌, sym}
use Rattle.tv_lines.proofs.OneCutting.{one_run}
use Rattle.tv_lines.proofs.laws.runs_have_one_reading.Goals as goal

pub returns : goal.returns
returns c = λ bytes pairs others some any. one_run pairs others some.0 any.0 (sym some.1 ∙ any.1)
