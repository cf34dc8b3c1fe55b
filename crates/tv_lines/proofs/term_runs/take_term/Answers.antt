use Rattle.std.proofs.Common.{◌≡◌, ◌<◌, [], length, get_or, refl, arith}
use Rattle.tv_lines.proofs.Merging.{none_more, taken_all, taken_fails, taken_more, taken_none}
use Rattle.tv_lines.proofs.term_runs.take_term.Goals as goal

pub loop-run-init : goal.loop-run-init
loop-run-init g c = record {
  so_far = λ runs h. taken_none g.S.ByteSource c.args.term.now c.args.readers.now runs h;
  none_fails = λ k d lt. refl;
}

pub loop-run-preserved : goal.loop-run-preserved
loop-run-preserved g c =
    let source = g.S.ByteSource in
    let l = c.loop-run in
    let d = c.index-readers-run.result in
    let within : l.run < length l.readers = omega arith in
    record {
      so_far = λ runs h.
          let f = l.invariant.so_far runs h in
          let known = f.known l.run d within in
          taken_more source c.args.term.now l.readers runs l.run l.total f within c.take.new.self c.in-Ok.count c.saturating_add-total.result (c.in-Ok.ensures.source.is_known known) (c.in-Ok.ensures.takes known (get_or runs l.run []) (f.ahead l.run d (omega arith) within)) c.saturating_add-total.ensures;
      none_fails = none_more source c.args.readers.now l.readers l.run c.take.new.self d l.invariant.none_fails within c.in-Ok.ensures.source.failures;
    }

pub returns-in-Err-clause-takes : goal.returns-in-Err-clause-takes
returns-in-Err-clause-takes g c = λ runs h.
    let source = g.S.ByteSource in
    let l = c.loop-run in
    let d = c.index-readers-run.result in
    let within : l.run < length l.readers = omega arith in
    let f = l.invariant.so_far runs h in
    let known = f.known l.run d within in
    taken_fails source c.args.term.now l.readers runs l.run l.total f within c.take.new.self c.in-Err.error (c.in-Err.ensures.takes known (get_or runs l.run []) (f.ahead l.run d (omega arith) within))

pub returns-clause-takes : goal.returns-clause-takes
returns-clause-takes g c = λ runs h.
    let l = c.loop-run in
    let all : l.run ≡ length l.readers = omega arith in
    taken_all g.S.ByteSource c.args.term.now l.readers runs l.run l.total (l.invariant.so_far runs h) all
