use Rattle.std.proofs.Common.{◌≡◌, ℕ, ◌+◌, ◌<◌, get_or, false, List, Bor}
use Rattle.std.specs.Ordering.{nat_cmp, is_lt}
use Rattle.std.specs.Cmp.Lexicographic.{slice_cmp}
use Rattle.tv_base.proofs.facet_counts.are_rising.Given as goal

abbrev pub invariant-loop-place : goal.invariant-loop-place
invariant-loop-place l = (k : ℕ) (d : Bor (List ℕ)) → k + 1 < l.place → is_lt (slice_cmp nat_cmp (get_or l.facets (k + 1) d).now (get_or l.facets k d).now) ≡ false
