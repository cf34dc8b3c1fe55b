use Rattle.std.proofs.Common.{refl}
use Rattle.tv_format.specs.Encoding.{NoLegacy}
use Rattle.tv_format.specs.InputError.{NoErrorInLegacy}
use Rattle.tv_format.proofs.Trees.{no_legacy_reads}
use Rattle.tv_format.proofs.ExcludingTrees.{no_legacy_excludes}
use Rattle.tv_format.proofs.SingleTrees.{value_single, single_no_legacy}
use Rattle.tv_format.proofs.laws.errors_of_values_are_unique.Goals as goal

pub returns : goal.returns
returns c = λ v bytes r s f g. value_single NoLegacy NoErrorInLegacy v no_legacy_reads no_legacy_excludes single_no_legacy f refl g
