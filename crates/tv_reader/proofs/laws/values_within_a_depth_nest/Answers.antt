use Rattle.tv_reader.proofs.Nested.{within_nests}
use Rattle.tv_reader.proofs.laws.values_within_a_depth_nest.Goals as goal

pub returns : goal.returns
returns c = λ v levels bytes t g w. within_nests v levels t bytes g w
