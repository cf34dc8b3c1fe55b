use Rattle.tv_reader.specs.Legacy.{Legacy}
use Rattle.tv_reader.proofs.laws.short_values_encode.Goals as goal
use Rattle.tv_format.proofs.ShortEncodings.{short_encodes}

pub returns : goal.returns
returns c = λ v w. short_encodes Legacy v w
