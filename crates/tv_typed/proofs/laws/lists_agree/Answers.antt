use Rattle.tv_typed.proofs.Agreeing.{lists_agree}
use Rattle.tv_typed.proofs.laws.lists_agree.Goals as goal

pub returns : goal.returns
returns g c = lists_agree g.V.ValueDeserialize.is
