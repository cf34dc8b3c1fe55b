use Rattle.std.proofs.Common.{refl}
use Rattle.tv_reader.specs.Legacy.{Legacy, ErrorInLegacy}
use Rattle.tv_reader.proofs.UniqueLegacy.{one_legacy, legacy_excludes}
use Rattle.tv_reader.proofs.laws.malformed_values_encode_none.Goals as goal
use Rattle.tv_format.proofs.ExcludingTrees.{value_excludes}

pub returns : goal.returns
returns c = λ v prefix rest cause t f p. value_excludes Legacy ErrorInLegacy v one_legacy legacy_excludes f t prefix rest p refl
