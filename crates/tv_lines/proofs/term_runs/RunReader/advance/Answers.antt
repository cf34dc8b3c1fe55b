use Rattle.std.proofs.lemmas.Result.{err_from_is_err_and}
use Rattle.tv_lines.proofs.RunPairs.{more_none, more_refused, more_some}
use Rattle.tv_lines.proofs.term_runs.RunReader.advance.Goals as goal

pub returns-in_err-count-clause-takes : goal.returns-in_err-count-clause-takes
returns-in_err-count-clause-takes g c = λ known.
    let p = err_from_is_err_and c.from_residual.result c.from_residual.ensures.1 in
    let read = c.take_pair-read in
    rw (p.1, p.2) (more_refused g.S.ByteSource g.met.S.ByteSource.are_bytes c.args.self.now.source read.new.source read.new.taken read.new.term.items known read.result c.in_err-count.field-0.0 read.ensures.takes c.in_err-count.ensures)

pub returns-in-Some-clause-takes : goal.returns-in-Some-clause-takes
returns-in-Some-clause-takes g c = λ known.
    let read = c.take_pair-read in
    more_some g.S.ByteSource g.met.S.ByteSource.are_bytes c.args.self.now.source read.new.source read.new.taken read.new.term.items known read.result c.in-Some.count read.ensures.takes (rw c.in-Some.is at c.in_ok-count.ensures)

pub returns-in-None-clause-takes : goal.returns-in-None-clause-takes
returns-in-None-clause-takes g c = λ known.
    let read = c.take_pair-read in
    more_none g.S.ByteSource g.met.S.ByteSource.are_bytes c.args.self.now.source read.new.source read.new.taken read.new.term.items known read.result read.ensures.takes (rw c.in-None.is at c.in_ok-count.ensures)
