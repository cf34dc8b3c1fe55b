use Rattle.std.proofs.Common.{refl}
use Rattle.tv_format.specs.Encoding.{NoLegacy}
use Rattle.tv_format.specs.InputError.{NoErrorInLegacy}
use Rattle.tv_format.proofs.Trees.{no_legacy_reads}
use Rattle.tv_format.proofs.ExcludingTrees.{value_excludes, no_legacy_excludes}
use Rattle.tv_format.proofs.laws.malformed_values_encode_none.Goals as goal

pub returns : goal.returns
returns c = λ v prefix rest cause t f p. value_excludes NoLegacy NoErrorInLegacy v no_legacy_reads no_legacy_excludes f t prefix rest p refl
