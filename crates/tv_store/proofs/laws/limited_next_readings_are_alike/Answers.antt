use Rattle.tv_store.proofs.WithinAlike.{nexts_alike_within}
use Rattle.tv_store.proofs.laws.limited_next_readings_are_alike.Goals as goal

pub returns : goal.returns
returns g c = λ limits begun ended other old reader twin result answer some first second.
    nexts_alike_within limits g.S.ByteSource begun ended other old reader twin some result answer first second
