use Rattle.std.proofs.Common.{◌∷◌, sym, ap}
use Rattle.std.proofs.lemmas.Result.{err_from_is_err_and}
use Rattle.tv_base.proofs.Numbers.{vnum-small}
use Rattle.tv_base.proofs.Written.{Writes_as}
use Rattle.tv_writer.proofs.Coded.{Coded_fails}
use Rattle.tv_writer.proofs.leaf_writer.write_coded_count.Goals as goal

pub returns-then-count-lt128 : goal.returns-then-count-lt128
returns-then-count-lt128 g c = Writes_as c.write_all.ensures (ap (λ z. c.args.code ∷ z) (sym (vnum-small c.args.count c.if-count-lt128.true)))

pub returns-in_err-write_code : goal.returns-in_err-write_code
returns-in_err-write_code g c =
    let p = err_from_is_err_and c.from_residual.result c.from_residual.ensures.1 in
    rw (p.1, p.2) (Coded_fails c.in_err-write_code.ensures)
