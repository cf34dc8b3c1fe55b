use Rattle.tv_typed.proofs.Determining.{code_determined}
use Rattle.tv_typed.proofs.laws.codes_are_determined.Goals as goal

pub returns : goal.returns
returns c = code_determined
