use Rattle.std.proofs.Common.{◌≡◌, ◌+◌, ◌≤◌, length}
use Rattle.tv_base.specs.Take.{told}
use Rattle.tv_base.specs.Reading.{more_at}
use Rattle.tv_base.proofs.TakeSteps.{SoFar}
use Rattle.tv_base.proofs.take.take_pieces.Given as goal

abbrev pub invariant-loop-missing : goal.invariant-loop-missing
invariant-loop-missing g l =
    let source = g.S.ByteSource in
    record {
      so_far : SoFar (told source.is_known) (λ p. source.left p.source) (λ p. p.count) (λ p. source.failures p.source) (record { source = l.initial.source; count = l.initial.count }) (record { source = l.source; count = l.count }) (more_at l.initial.bytes.items l.len) (more_at l.bytes.items l.missing);
      longer : length l.bytes.items + l.missing ≡ length l.initial.bytes.items + l.len;
      few : l.count + l.missing ≤ l.initial.count + l.len;
    }

abbrev pub decreases-loop-missing : goal.decreases-loop-missing
decreases-loop-missing g l = l.missing
