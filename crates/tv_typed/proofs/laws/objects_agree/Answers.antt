use Rattle.tv_typed.proofs.Agreeing.{objects_agree}
use Rattle.tv_typed.proofs.laws.objects_agree.Goals as goal

pub returns : goal.returns
returns g c = objects_agree g.V.ValueDeserialize.is
