use Rattle.std.proofs.lemmas.Result.{err_from_is_err_and}
use Rattle.tv_writer.proofs.Coded.{Coded_fails}
use Rattle.tv_store.proofs.encoded_writer.write_behind.Goals as goal

pub returns-in_err-write_code : goal.returns-in_err-write_code
returns-in_err-write_code g c =
    let p = err_from_is_err_and c.from_residual.result c.from_residual.ensures.1 in
    rw (p.1, p.2) (Coded_fails c.in_err-write_code.ensures)
