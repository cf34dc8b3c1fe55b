use Rattle.std.proofs.Common.{◌≡◌, ◌≤◌, ◌-◌, take, vec_capacity, vec_len}
use Rattle.tv_base.proofs.byte_buffer.fill.Given as goal

abbrev pub invariant-loop-filled : goal.invariant-loop-filled
invariant-loop-filled l =
    (take (vec_len l.fn.bytes) l.filled.items ≡ l.fn.bytes.items) × (vec_capacity l.filled ≡ vec_capacity l.fn.bytes) × (vec_len l.fn.bytes ≤ vec_len l.filled)

abbrev pub decreases-loop-filled : goal.decreases-loop-filled
decreases-loop-filled l = l.most - vec_len l.filled
