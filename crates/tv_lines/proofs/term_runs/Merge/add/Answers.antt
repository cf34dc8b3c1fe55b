use Rattle.std.proofs.Common.{◌∙◌, ap, subst, sym}
use Rattle.std.proofs.lemmas.Result.{err_from_is_err_and}
use Rattle.tv_lines.specs.TermRuns.{IsRun}
use Rattle.tv_lines.proofs.Merging.{left_more, next_left}
use Rattle.tv_lines.proofs.term_runs.Merge.add.Goals as goal

pub returns-clause-ok : goal.returns-clause-ok
returns-clause-ok g c = λ known pairs run runs h.
    let source = g.S.ByteSource in
    let r = c.advance.new.self in
    let read = c.in_ok-advance.ensures in
    let is = c.new-reader.ensures.source in
    let there = subst (λ s. source.is_known s) (sym is) known in
    let bytes = subst (λ s. IsRun (source.left s) pairs) (sym is) run in
    let left = next_left source r (source.left c.new-reader.result.source) pairs c.in_ok-advance.field-0 bytes (read.takes there) read.has_pair in
    rw c.in_ok-push.ensures.items (left_more source c.args.self.now.readers.items runs h r pairs (read.source.is_known there) left)

pub returns-in_err-push-clause-failed : goal.returns-in_err-push-clause-failed
returns-in_err-push-clause-failed g c =
    let p = err_from_is_err_and c.from_residual-in_err-push.result c.from_residual-in_err-push.ensures.1 in
    rw (p.1, p.2) (c.advance.new.self.source, c.in_ok-advance.ensures.source.failures ∙ ap g.S.ByteSource.failures c.new-reader.ensures.source)
