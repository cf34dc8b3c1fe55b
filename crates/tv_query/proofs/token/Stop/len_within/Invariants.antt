use Rattle.std.proofs.Common.{◌≡◌, ℕ, ◌<◌, false, get_or}
use Rattle.tv_query.specs.Tokens.{stops_at}
use Rattle.tv_query.proofs.token.Stop.len_within.Given as goal

abbrev pub invariant-loop-place : goal.invariant-loop-place
invariant-loop-place l = (k : ℕ) → k < l.place → stops_at l.self (get_or l.bytes k 0) ≡ false
