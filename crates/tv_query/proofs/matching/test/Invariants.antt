use Rattle.tv_query.proofs.Telling.{TestedTo}
use Rattle.tv_query.proofs.matching.test.Given as goal

-- so far the term was tested by the clauses before this one
abbrev pub invariant-loop-index : goal.invariant-loop-index
invariant-loop-index l = TestedTo l.term l.steps l.fn.wanted.items l.wanted.items l.index
