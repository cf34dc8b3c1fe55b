use Rattle.std.proofs.Common.{List}
use Rattle.tv_lines.specs.TermRuns.{HaveLeft, NoneFails, Pair}
use Rattle.tv_lines.proofs.Merging.{TakenSoFar}
use Rattle.tv_lines.proofs.term_runs.take_term.Given as goal

abbrev pub invariant-loop-run : goal.invariant-loop-run
invariant-loop-run g l =
    let source = g.S.ByteSource in
    record {
      so_far : (runs : List (List Pair)) → HaveLeft source l.initial.readers runs → TakenSoFar source l.term l.readers runs l.run l.total;
      none_fails : NoneFails source l.initial.readers l.readers;
    }
