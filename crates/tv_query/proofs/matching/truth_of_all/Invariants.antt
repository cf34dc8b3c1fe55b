use Rattle.std.proofs.Common.{List, ℕ, [], take}
use Rattle.tv_query.proofs.Running.{Run}
use Rattle.tv_query.specs.Matching.{AreTold}
use Rattle.tv_query.proofs.matching.truth_of_all.Given as goal

abbrev pub invariant-loop-index : goal.invariant-loop-index
invariant-loop-index l = (terms : List (List ℕ)) → AreTold terms l.steps l.wanted → Run terms [] (take l.index l.steps) l.truths.items
