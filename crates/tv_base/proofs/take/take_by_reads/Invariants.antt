use Rattle.std.proofs.Common.{length, ◌-◌, ◌+◌, ◌≡◌, ◌++◌, take, ◌≤◌}
use Rattle.tv_base.proofs.take.take_by_reads.Given as goal

abbrev pub invariant-loop-filled : goal.invariant-loop-filled
invariant-loop-filled g l =
    let source = g.S.ByteSource in
    let knows = source.is_known l.initial.source in
    record {
      within : l.filled ≤ length l.buf;
      same_length : length l.buf ≡ length l.initial.buf;
      given : knows → source.left l.initial.source ≡ take l.filled l.buf ++ source.left l.source;
      stays_known : knows → source.is_known l.source;
      counts : source.failures l.source ≡ source.failures l.initial.source;
      taken : l.count ≡ l.initial.count + l.filled;
    }

abbrev pub decreases-loop-filled : goal.decreases-loop-filled
decreases-loop-filled g l = length l.initial.buf - l.filled
