use Rattle.tv_store.proofs.WithinAlike.{alike_within}
use Rattle.tv_store.proofs.laws.limited_readings_are_alike.Goals as goal

pub returns : goal.returns
returns g c = λ version limits old new other result twin known decided too first stops second halts.
    alike_within g.S.ByteSource version limits old known new other result twin decided too first stops second halts
