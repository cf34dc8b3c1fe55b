use Rattle.std.proofs.Common.{◌≡◌, ◌-◌, ◌^◌, rules}
use Rattle.std.proofs.lemmas.Result.{err_from_is_err_and}
use Rattle.tv_lines.proofs.Halting.{most_taken}
use Rattle.tv_lines.proofs.Taking.{taken_more}
use Rattle.tv_lines.proofs.Progress.{broken_lines, broken_refusal, broken_early, first_of}
use Rattle.tv_lines.proofs.runs.try_run.Goals as goal

pub returns-in_err-take_line-clause-runs : goal.returns-in_err-take_line-clause-runs
returns-in_err-take_line-clause-runs g c = λ s k.
    let p = err_from_is_err_and c.from_residual.result c.from_residual.ensures.1 in
    rw p.1 (broken_early _ _)

pub returns-in_err-answer_each-in-Ok-clause-runs : goal.returns-in_err-answer_each-in-Ok-clause-runs
returns-in_err-answer_each-in-Ok-clause-runs g c = λ s k.
    let p = err_from_is_err_and c.from_residual-in_err-answer_each-in-Ok.result c.from_residual-in_err-answer_each-in-Ok.ensures.1 in
    rw p.1 (broken_lines _ _ (first_of _ _ _ _ (rw c.new-reader.ensures.unread at c.in_ok-take_line.ensures.takes s)) (rw c.as_slice.ensures.value at c.in-Ok.ensures.ok)
    (c.in_err-answer_each-in-Ok.ensures.err (c.in_ok-take_line.ensures.source.is_known s) k))

pub returns-in_err-append-in-Err-clause-runs : goal.returns-in_err-append-in-Err-clause-runs
returns-in_err-append-in-Err-clause-runs g c = λ s k.
    let p = err_from_is_err_and c.from_residual-in_err-append-in-Err.result c.from_residual-in_err-append-in-Err.ensures.1 in
    rw p.1 (broken_refusal _ _ (first_of _ _ _ _ (rw c.new-reader.ensures.unread at c.in_ok-take_line.ensures.takes s)) (rw c.as_slice.ensures.value at c.in-Err.ensures.err)
    (rw c.as_bytes.ensures.value at c.in_err-append-in-Err.ensures.err k))

pub returns-in_err-answer_each-in-Ok-clause-too_long : goal.returns-in_err-answer_each-in-Ok-clause-too_long
returns-in_err-answer_each-in-Ok-clause-too_long g c = λ s e.
    let full : c.answer_each.new.reader.count ≡ 2 ^ 64 - 1 = search (rules, e) in
    let both = taken_more _ _ _ _ _ _ (c.in_ok-take_line.ensures.taken s) (c.in_err-answer_each-in-Ok.ensures.taken (c.in_ok-take_line.ensures.source.is_known s)) in
    most_taken _ _ _ _ both c.new-reader.ensures.count full
