use Rattle.std.proofs.Common.{sym, ◌∙◌}
use Rattle.tv_store.proofs.ProjectedAlike.{placed_alike}
use Rattle.tv_store.proofs.laws.projected_readings_are_alike.Goals as goal

pub returns-clause-kept : goal.returns-clause-kept
returns-clause-kept g c = λ projection begun ended other old reader twin result answer some first second.
    let same = placed_alike projection g.S.ByteSource begun ended other old reader twin some result answer first second in
    (same.0, λ is. let one = same.1 is in one.1 ∙ sym one.2)

pub returns-clause-passed : goal.returns-clause-passed
returns-clause-passed g c = λ projection begun ended other old reader twin result answer some first second.
    (placed_alike projection g.S.ByteSource begun ended other old reader twin some result answer first second).0
