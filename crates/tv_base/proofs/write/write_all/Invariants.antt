use Rattle.std.proofs.Common.{length}
use Rattle.tv_base.proofs.Written.{Written}
use Rattle.tv_base.proofs.write.write_all.Given as goal

abbrev pub invariant-loop-rest : goal.invariant-loop-rest
invariant-loop-rest g l =
    let sink = g.K.ByteSink in
    Written sink.is_known sink.held sink.failures l.initial.sink l.sink l.bytes l.rest

abbrev pub decreases-loop-rest : goal.decreases-loop-rest
decreases-loop-rest g l = length l.rest
