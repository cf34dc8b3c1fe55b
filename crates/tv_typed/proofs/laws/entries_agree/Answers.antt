use Rattle.tv_typed.proofs.Agreeing.{entries_agree}
use Rattle.tv_typed.proofs.laws.entries_agree.Goals as goal

pub returns : goal.returns
returns g c = entries_agree g.V.ValueDeserialize.is
