use Rattle.tv_typed.proofs.Determining.{number_determined}
use Rattle.tv_typed.proofs.laws.pair_counts_are_determined.Goals as goal

pub returns : goal.returns
returns c = number_determined
