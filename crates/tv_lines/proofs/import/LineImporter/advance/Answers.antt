use Rattle.std.proofs.Common.{arith, length, ap}
use Rattle.std.proofs.lemmas.Result.{err_from_is_err_and}
use Rattle.tv_lines.proofs.Lines.{leaves, stores}
use Rattle.tv_lines.proofs.import.LineImporter.advance.Goals as goal

pub returns-in_err-append-in-Ok-clause-imports : goal.returns-in_err-append-in-Ok-clause-imports
returns-in_err-append-in-Ok-clause-imports g c = λ s k.
    let p = err_from_is_err_and c.from_residual-in_err-append-in-Ok.result c.from_residual-in_err-append-in-Ok.ensures.1 in
    rw p.1 (leaves c.args.schema.now c.args.self.now.rules _ _ c.take_line.new.line.items c.put_stored.new.bytes.bytes.items _ _ c.judge_line.new.document c.in-Ok.fault c.in-Some.taken
    (rw c.in-Some.is at c.in_ok-taken.ensures.takes s) (rw (c.in-Ok.is, c.as_slice-line.ensures.value) at c.in_ok-error.ensures) c.in_ok-put_stored-in-Ok.ensures
    (rw c.as_slice-bytes.ensures at c.in_err-append-in-Ok.ensures.err k))

pub returns-in_ok-append-in-Ok-clause-imports : goal.returns-in_ok-append-in-Ok-clause-imports
returns-in_ok-append-in-Ok-clause-imports g c = λ s k.
    stores c.args.schema.now c.args.self.now.rules _ _ c.take_line.new.line.items c.put_stored.new.bytes.bytes.items _ _ c.judge_line.new.document c.in-Ok.fault _ c.in-Some.taken
    (rw c.in-Some.is at c.in_ok-taken.ensures.takes s) (rw (c.in-Ok.is, c.as_slice-line.ensures.value) at c.in_ok-error.ensures) c.in_ok-put_stored-in-Ok.ensures
    (omega (arith, ap length c.as_slice-bytes.ensures)) (rw c.as_slice-bytes.ensures at c.in_ok-append-in-Ok.ensures.ok k)
