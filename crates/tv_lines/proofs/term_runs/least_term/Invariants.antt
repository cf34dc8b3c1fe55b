use Rattle.std.proofs.Common.{take}
use Rattle.std.specs.Option.{option_copied}
use Rattle.tv_lines.specs.TermRuns.{IsLeastRead}
use Rattle.tv_lines.proofs.term_runs.least_term.Given as goal

abbrev pub invariant-loop-reader : goal.invariant-loop-reader
invariant-loop-reader g l = IsLeastRead (take l.reader-index l.readers) (option_copied l.least)
