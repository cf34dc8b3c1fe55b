use Rattle.tv_lines.proofs.Merging.{no_pair}
use Rattle.tv_lines.proofs.laws.runs_are_not_refused.Goals as goal

pub returns : goal.returns
returns c = λ bytes pairs run refused. no_pair bytes pairs run refused
