use Rattle.tv_base.proofs.Steps.{path-joined}
use Rattle.tv_base.proofs.laws.joined_steps_are_split.Goals as goal

pub returns : goal.returns
returns c = path-joined
