use Rattle.std.proofs.Common.{◌≡◌, string_bytes}
use Rattle.tv_term.proofs.Segments.{joined}
use Rattle.tv_term.proofs.term.push_segments.Given as goal

abbrev pub invariant-loop-segment : goal.invariant-loop-segment
invariant-loop-segment l = string_bytes l.joined ≡ joined (string_bytes l.initial.joined) l.others l.segment-index
