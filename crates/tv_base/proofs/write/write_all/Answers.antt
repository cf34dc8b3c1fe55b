use Rattle.std.proofs.Common.{◌≡◌, Ok, ◌-◌, ◌++◌, length, take, drop, arith, sym, ap, ◌∙◌, length-drop, take_all}
use Rattle.std.proofs.lemmas.List.{take-append-drop}
use Rattle.std.specs.declared.io.ErrorKind.{ErrorKind}
use Rattle.tv_base.specs.Sink.{WritesBy}
use Rattle.tv_base.specs.Stop.{Stop}
use Rattle.tv_base.specs.Stop.Stop.{Failed}
use Rattle.tv_base.proofs.Written.{Written-step}
use Rattle.tv_base.proofs.write.write_all.Goals as goal

-- a write of the sink
stop_of_kind : ErrorKind → Stop ⊥
stop_of_kind kind = Failed kind

pub loop-rest-preserved : goal.loop-rest-preserved
loop-rest-preserved g c =
    let rest = c.loop-rest.rest.now in
    let n = c.in_ok-count.count in
    let sink = g.K.ByteSink in
    let cut : rest ≡ take n rest ++ take (length rest - n) (drop n rest) = sym (take-append-drop n rest) ∙ ap (λ l. take n rest ++ l) (sym (take_all (length rest - n) (drop n rest) (omega (arith, length-drop n rest)))) in
    let write : WritesBy stop_of_kind sink.is_known sink.held sink.failures c.loop-rest.sink c.write.new.self c.write.result (Ok (take n rest)) = rw c.in_ok-count.was (record {
      appends = c.in_ok-count.ensures.bytes;
      stays_known = c.in_ok-count.ensures.is_known;
      counts = c.in_ok-count.ensures.failures;
    }) in
    Written-step (take n rest) _ cut c.loop-rest.invariant (rw c.in_ok-count.was at write)
