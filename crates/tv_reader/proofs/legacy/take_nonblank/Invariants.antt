use Rattle.std.proofs.Common.{◌^◌, ◌-◌}
use Rattle.tv_base.specs.Take.{told}
use Rattle.tv_base.proofs.TakeSteps.{SoFar}
use Rattle.tv_reader.specs.LegacyReading.{nonblank_at}
use Rattle.tv_reader.proofs.legacy.take_nonblank.Given as goal

abbrev pub invariant-loop-byte : goal.invariant-loop-byte
invariant-loop-byte g l =
    let source = g.S.ByteSource in
    SoFar (told source.is_known) (λ p. source.left p.source) (λ p. p.count) (λ p. source.failures p.source) (record { source = l.initial.source; count = l.initial.count }) (record { source = l.source; count = l.count }) nonblank_at nonblank_at

abbrev pub decreases-loop-byte : goal.decreases-loop-byte
decreases-loop-byte g l = 2 ^ 64 - l.count
