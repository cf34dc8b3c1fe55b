use Rattle.tv_format.specs.Encoding.{NoLegacy}
use Rattle.tv_format.proofs.ShortEncodings.{short_encodes}
use Rattle.tv_format.proofs.laws.short_values_encode.Goals as goal

pub returns : goal.returns
returns c = λ v w. short_encodes NoLegacy v w
