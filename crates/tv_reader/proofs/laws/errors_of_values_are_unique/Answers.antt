use Rattle.std.proofs.Common.{refl}
use Rattle.tv_reader.specs.Legacy.{Legacy, ErrorInLegacy}
use Rattle.tv_reader.proofs.UniqueLegacy.{one_legacy, legacy_excludes, single_legacy}
use Rattle.tv_reader.proofs.laws.errors_of_values_are_unique.Goals as goal
use Rattle.tv_format.proofs.SingleTrees.{value_single}

pub returns : goal.returns
returns c = λ v bytes r s f g. value_single Legacy ErrorInLegacy v one_legacy legacy_excludes single_legacy f refl g
