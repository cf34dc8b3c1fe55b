use Rattle.std.proofs.lemmas.Result.{err_from_is_err_and}
use Rattle.tv_writer.proofs.Coded.{Coded_then, Coded_fails}
use Rattle.tv_writer.proofs.leaf_writer.write_extension.Goals as goal

pub returns-in_err-write_code : goal.returns-in_err-write_code
returns-in_err-write_code g c =
    let p = err_from_is_err_and c.from_residual.result c.from_residual.ensures.1 in
    rw (p.1, p.2) (Coded_fails c.in_err-write_code.ensures)

pub returns-in_err-write_code-2 : goal.returns-in_err-write_code-2
returns-in_err-write_code-2 g c =
    let p = err_from_is_err_and c.from_residual-in_err-write_code-2.result c.from_residual-in_err-write_code-2.ensures.1 in
    rw (p.1, p.2) (Coded_then c.in_ok-write_code.ensures (Coded_fails c.in_err-write_code-2.ensures))
