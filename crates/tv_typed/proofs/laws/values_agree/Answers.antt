use Rattle.tv_typed.proofs.Agreeing.{values_agree}
use Rattle.tv_typed.proofs.laws.values_agree.Goals as goal

pub returns : goal.returns
returns g c = values_agree g.V.ValueDeserialize.is
