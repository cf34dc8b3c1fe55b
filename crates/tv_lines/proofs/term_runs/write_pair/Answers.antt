use Rattle.std.proofs.Common.{◌++◌, length}
use Rattle.std.proofs.lemmas.Result.{err_from_is_err_and}
use Rattle.tv_base.specs.Number.{eight_bytes}
use Rattle.tv_base.proofs.Written.{Writes_prefix, Writes_then}
use Rattle.tv_lines.proofs.term_runs.write_pair.Goals as goal

pub returns-in_err-write_all : goal.returns-in_err-write_all
returns-in_err-write_all g c =
    let p = err_from_is_err_and c.from_residual-in_err-write_all.result c.from_residual-in_err-write_all.ensures.1 in
    let last = eight_bytes c.args.count in
    rw (p.1, p.2) (Writes_then (eight_bytes (length c.args.term.now)) (c.args.term.now ++ last) c.in_ok-write_u64.ensures (Writes_prefix c.args.term.now last c.in_err-write_all.ensures))

pub returns : goal.returns
returns g c =
    let last = eight_bytes c.args.count in
    Writes_then (eight_bytes (length c.args.term.now)) (c.args.term.now ++ last) c.in_ok-write_u64.ensures (Writes_then c.args.term.now last c.in_ok-write_all.ensures c.write_u64-2.ensures)
