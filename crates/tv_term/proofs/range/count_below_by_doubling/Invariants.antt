use Rattle.std.proofs.Common.{◌≡◌, ℕ, ◌+◌, ◌-◌, ◌≤◌, ◌<◌, length, get_or, true}
use Rattle.tv_term.specs.Within.{is_below}
use Rattle.tv_term.proofs.range.count_below_by_doubling.Given as goal

abbrev pub invariant-loop-step : goal.invariant-loop-step
invariant-loop-step g l = record {
  inside : l.below ≤ length l.terms;
  some : 0 < l.step;
  last : (k : ℕ) (d : g.row.T.Denot) → k + 1 ≡ l.below → is_below (g.T.AsSlice.items (get_or l.terms k d)) l.bytes ≡ true;
}

abbrev pub decreases-loop-step : goal.decreases-loop-step
decreases-loop-step g l = length l.terms - l.below
