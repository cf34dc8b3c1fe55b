use Rattle.std.proofs.Common.{◌≡◌, ◌+◌, length, Ok}
use Rattle.tv_reader.specs.Finds.{FindsRoomy, Nothing}
use Rattle.tv_reading.proofs.parts.skip_by_reads.Given as goal

-- what lacks is what wasn't taken
abbrev pub invariant-loop-missing : goal.invariant-loop-missing
invariant-loop-missing g l =
    let source = g.S.ByteSource in
    record {
      finds : FindsRoomy source l.initial.source l.initial.count l.source l.count (Ok (tt {0})) (λ b _. length b + l.missing ≡ l.len) Nothing;
    }

abbrev pub decreases-loop-missing : goal.decreases-loop-missing
decreases-loop-missing g l = l.missing
