use Rattle.std.proofs.lemmas.Result.{err_from_is_err_and}
use Rattle.tv_base.proofs.Written.{Writes_then, Writes_prefix}
use Rattle.tv_writer.proofs.leaf_writer.write_tokenized.Goals as goal

pub returns-in_err-write_vint : goal.returns-in_err-write_vint
returns-in_err-write_vint g c =
    let p = err_from_is_err_and c.from_residual-in_err-write_vint.result c.from_residual-in_err-write_vint.ensures.1 in
    rw (p.1, p.2, ← c.text.ensures, ← c.len.ensures) (Writes_then _ _ c.in_ok-write_text.ensures (Writes_prefix _ _ c.in_err-write_vint.ensures))

pub returns : goal.returns
returns g c =
    rw (← c.text.ensures, ← c.len.ensures, ← c.tokens.ensures) (Writes_then _ _ c.in_ok-write_text.ensures (Writes_then _ _ c.in_ok-write_vint.ensures c.write_tokens.ensures))
