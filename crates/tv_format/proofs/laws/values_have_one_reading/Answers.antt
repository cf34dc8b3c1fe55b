use Rattle.tv_format.specs.Encoding.{NoLegacy}
use Rattle.tv_format.proofs.Trees.{one_tree, no_legacy_reads}
use Rattle.tv_format.proofs.laws.values_have_one_reading.Goals as goal

pub returns : goal.returns
returns c = λ v. one_tree NoLegacy v no_legacy_reads
