use Rattle.std.proofs.Common.{◌++◌, ap, ◌∙◌}
use Rattle.tv_lines.proofs.Taking.{taken_more}
use Rattle.tv_lines.proofs.Progress.{Answered-step, Answered-ends, Answered-breaks, Answered-cut, on_err}
use Rattle.tv_lines.proofs.runs.answer_each.Goals as goal

pub returns-in_err-take_line-clause-err : goal.returns-in_err-take_line-clause-err
returns-in_err-take_line-clause-err g c = λ s k. on_err _ (Answered-breaks (c.lines.invariant.so_far s k))

pub returns-in_default-clause-ok : goal.returns-in_default-clause-ok
returns-in_default-clause-ok g c = λ s k.
    Answered-ends (c.lines.invariant.so_far s k) (rw c.in_default.is at c.in_ok-take_line.ensures.takes (c.lines.invariant.source_is_known s))

pub returns-in_err-answer_line-clause-err : goal.returns-in_err-answer_line-clause-err
returns-in_err-answer_line-clause-err g c = λ s k. on_err _ (Answered-breaks (c.lines.invariant.so_far s k))

pub lines-preserved : goal.lines-preserved
lines-preserved g c =
    let before = c.lines.invariant in
    record {
      so_far = λ s k.
          Answered-step _ (before.so_far s k)
          (rw c.in-Some.is at c.in_ok-take_line.ensures.takes (before.source_is_known s))
          (rw c.as_slice.ensures.value at c.in_ok-answer_line.ensures)
          (c.in_ok-append.ensures.ok (before.sink_is_known k) ∙ ap (λ l. g.K.ByteSink.held c.lines.sink ++ l) c.as_slice-in-lines.ensures.value);
      source_is_known = λ s. c.in_ok-take_line.ensures.source.is_known (before.source_is_known s);
      sink_is_known = λ k. c.in_ok-append.ensures.sink.is_known (before.sink_is_known k);
      source_failures = c.in_ok-take_line.ensures.source.failures ∙ before.source_failures;
      sink_failures = c.in_ok-append.ensures.sink.failures ∙ before.sink_failures;
      taken = λ s. taken_more _ _ _ _ _ _ (before.taken s) (c.in_ok-take_line.ensures.taken (before.source_is_known s));
    }

pub returns-in_err-append-clause-err : goal.returns-in_err-append-clause-err
returns-in_err-append-clause-err g c = λ s k.
    let before = c.lines.invariant in
    on_err _ (Answered-cut _ (before.so_far s k)
    (rw c.in-Some.is at c.in_ok-take_line.ensures.takes (before.source_is_known s))
    (rw c.as_slice.ensures.value at c.in_ok-answer_line.ensures)
    (rw c.as_slice-in-lines.ensures.value at c.in_err-append.ensures.err (before.sink_is_known k)))

pub returns-in_err-take_line-clause-taken : goal.returns-in_err-take_line-clause-taken
returns-in_err-take_line-clause-taken g c = λ s.
    let before = c.lines.invariant in
    taken_more _ _ _ _ _ _ (before.taken s) (c.in_err-take_line.ensures.taken (before.source_is_known s))

pub returns-in_err-answer_line-clause-taken : goal.returns-in_err-answer_line-clause-taken
returns-in_err-answer_line-clause-taken g c = λ s.
    let before = c.lines.invariant in
    taken_more _ _ _ _ _ _ (before.taken s) (c.in_ok-take_line.ensures.taken (before.source_is_known s))

pub returns-in_err-append-clause-taken : goal.returns-in_err-append-clause-taken
returns-in_err-append-clause-taken g c = λ s.
    let before = c.lines.invariant in
    taken_more _ _ _ _ _ _ (before.taken s) (c.in_ok-take_line.ensures.taken (before.source_is_known s))

pub returns-in_default-clause-taken : goal.returns-in_default-clause-taken
returns-in_default-clause-taken g c = λ s.
    let before = c.lines.invariant in
    taken_more _ _ _ _ _ _ (before.taken s) (c.in_ok-take_line.ensures.taken (before.source_is_known s))
