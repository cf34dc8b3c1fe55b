use Rattle.std.proofs.Common.{ℕ, ◌<◌, get_or}
use Rattle.tv_term.specs.Key.{HasNoZero}
use Rattle.tv_term.proofs.Segments.{nothing}
use Rattle.tv_term.proofs.term.has_nul_among.Given as goal

abbrev pub invariant-loop-text : goal.invariant-loop-text
invariant-loop-text l = (k : ℕ) → k < l.text-index → HasNoZero (get_or l.texts k nothing).now
