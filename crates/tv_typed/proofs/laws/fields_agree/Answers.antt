use Rattle.tv_typed.proofs.Agreeing.{fields_agree}
use Rattle.tv_typed.proofs.laws.fields_agree.Goals as goal

pub returns : goal.returns
returns g c = fields_agree g.V.ValueDeserialize.is
