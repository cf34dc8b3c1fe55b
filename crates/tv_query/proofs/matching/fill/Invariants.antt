use Rattle.std.proofs.Common.{◌≡◌, ◌-◌, ℕ, false, get_or, vec_len}
use Rattle.tv_query.proofs.matching.fill.Given as goal

abbrev pub invariant-loop-wanted : goal.invariant-loop-wanted
invariant-loop-wanted l = (k : ℕ) → get_or l.wanted.items k false ≡ get_or l.fn.wanted.items k false

abbrev pub decreases-loop-wanted : goal.decreases-loop-wanted
decreases-loop-wanted l = l.len - vec_len l.wanted
