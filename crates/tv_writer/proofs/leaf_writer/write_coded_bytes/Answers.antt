use Rattle.std.proofs.Common.{◌∷◌, ◌++◌, ap, length}
use Rattle.std.proofs.lemmas.Result.{err_from_is_err_and}
use Rattle.tv_base.proofs.Numbers.{vnum-small}
use Rattle.tv_base.proofs.Written.{Writes_both, Writes_some}
use Rattle.tv_writer.proofs.Coded.{Coded_fails}
use Rattle.tv_writer.proofs.leaf_writer.write_coded_bytes.Goals as goal

pub returns-then-len-lt128 : goal.returns-then-len-lt128
returns-then-len-lt128 g c =
    let content = c.args.content.now in
    Writes_both c.in_ok-write_all.ensures c.write_all-then-len-lt128.ensures (ap (λ z. c.args.code ∷ (z ++ content)) (vnum-small (length content) c.if-len-lt128.true))

pub returns-in_err-write_all : goal.returns-in_err-write_all
returns-in_err-write_all g c =
    let content = c.args.content.now in
    let p = err_from_is_err_and c.from_residual.result c.from_residual.ensures.1 in
    rw (p.1, p.2) (Writes_some content c.in_err-write_all.ensures (ap (λ z. c.args.code ∷ (z ++ content)) (vnum-small (length content) c.if-len-lt128.true)))

pub returns-in_err-write_code : goal.returns-in_err-write_code
returns-in_err-write_code g c =
    let p = err_from_is_err_and c.from_residual-in_err-write_code.result c.from_residual-in_err-write_code.ensures.1 in
    rw (p.1, p.2) (Coded_fails c.in_err-write_code.ensures)
