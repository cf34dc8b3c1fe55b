use Rattle.std.proofs.Common.{ℕ, ◌<◌, get_or}
use Rattle.tv_term.specs.Range.{IsIn}
use Rattle.tv_term.specs.declared.range.TermRange.{TermRange}
use Rattle.tv_query.proofs.selection.Selection.has_range.Given as goal

abbrev pub invariant-loop-range : goal.invariant-loop-range
invariant-loop-range l = (k : ℕ) (d : TermRange) → k < l.range-index → IsIn (get_or l.self.ranges.items k d) l.term → ⊥
