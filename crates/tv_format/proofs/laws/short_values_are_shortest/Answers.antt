use Rattle.tv_format.proofs.Shortest.{tree_shortest}
use Rattle.tv_format.proofs.laws.short_values_are_shortest.Goals as goal

pub returns : goal.returns
returns c = λ v w. tree_shortest v w
