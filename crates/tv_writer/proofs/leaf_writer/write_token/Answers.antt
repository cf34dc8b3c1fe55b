use Rattle.std.proofs.lemmas.Result.{err_from_is_err_and}
use Rattle.tv_base.proofs.Written.{Writes_then, Writes_prefix}
use Rattle.tv_writer.proofs.leaf_writer.write_token.Goals as goal

pub returns-in_err-write_vint-2 : goal.returns-in_err-write_vint-2
returns-in_err-write_vint-2 g c =
    let p = err_from_is_err_and c.from_residual-in_err-write_vint-2.result c.from_residual-in_err-write_vint-2.ensures.1 in
    rw (p.1, p.2) (Writes_then _ _ c.in_ok-write_vint.ensures (Writes_prefix _ _ c.in_err-write_vint-2.ensures))

pub returns-in_err-write_vint-3 : goal.returns-in_err-write_vint-3
returns-in_err-write_vint-3 g c =
    let p = err_from_is_err_and c.from_residual-in_err-write_vint-3.result c.from_residual-in_err-write_vint-3.ensures.1 in
    rw (p.1, p.2) (Writes_then _ _ c.in_ok-write_vint.ensures (Writes_then _ _ c.in_ok-write_vint-2.ensures (Writes_prefix _ _ c.in_err-write_vint-3.ensures)))

pub returns-in_err-write_text : goal.returns-in_err-write_text
returns-in_err-write_text g c =
    let p = err_from_is_err_and c.from_residual-in_err-write_text.result c.from_residual-in_err-write_text.ensures.1 in
    rw (p.1, p.2) (Writes_then _ _ c.in_ok-write_vint.ensures (Writes_then _ _ c.in_ok-write_vint-2.ensures (Writes_then _ _ c.in_ok-write_vint-3.ensures (Writes_prefix _ _ c.in_err-write_text.ensures))))

pub returns : goal.returns
returns g c =
    Writes_then _ _ c.in_ok-write_vint.ensures (Writes_then _ _ c.in_ok-write_vint-2.ensures (Writes_then _ _ c.in_ok-write_vint-3.ensures (Writes_then _ _ c.in_ok-write_text.ensures c.write_vint-4.ensures)))
