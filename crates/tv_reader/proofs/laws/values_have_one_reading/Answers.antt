use Rattle.tv_reader.specs.Legacy.{Legacy}
use Rattle.tv_reader.proofs.UniqueLegacy.{one_legacy}
use Rattle.tv_reader.proofs.laws.values_have_one_reading.Goals as goal
use Rattle.tv_format.proofs.Trees.{one_tree}

pub returns : goal.returns
returns c = λ v. one_tree Legacy v one_legacy
