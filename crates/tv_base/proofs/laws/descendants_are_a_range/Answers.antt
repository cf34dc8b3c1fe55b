use Rattle.tv_base.proofs.Steps.{Descends-in_range}
use Rattle.tv_base.proofs.laws.descendants_are_a_range.Goals as goal

pub returns : goal.returns
returns c = Descends-in_range
