use Rattle.std.proofs.Common.{sym, ap, subst, ◌∙◌}
use Rattle.std.proofs.lemmas.Result.{err_from_is_err_and}
use Rattle.tv_base.proofs.Written.{Writes_both, Writes_some}
use Rattle.tv_format.specs.Short.{short, IsValue}
use Rattle.tv_format.specs.WriteVersion.{written_version}
use Rattle.tv_writer.proofs.WriterSteps.{head_first, list_parts, list_short}
use Rattle.tv_writer.proofs.deep.write_value_deep.Goals as goal

pub returns-in_err-write_head-clause-writes : goal.returns-in_err-write_head-clause-writes
returns-in_err-write_head-clause-writes g c =
    let p = err_from_is_err_and c.from_residual.result c.from_residual.ensures.1 in
    let v = written_version c.args.version in
    let whole = ap (short v) (sym c.lend-2.ensures) ∙ (head_first v _).1 in
    let w = Writes_some {U = Unit {0}} _ c.in_err-write_head.ensures.writes whole in
    rw (p.1, p.2) (record { appends = w.appends; stays_known = w.stays_known; counts = w.counts })

pub write_children_deep-requires : goal.write_children_deep-requires
write_children_deep-requires g c =
    let list = rw c.in-Some.is at c.in_ok-write_head.ensures.inner in
    (list_parts _ _ list (subst IsValue (sym c.lend-2.ensures) c.requires)).1

pub returns-in-Some-clause-writes : goal.returns-in-Some-clause-writes
returns-in-Some-clause-writes g c =
    let v = written_version c.args.version in
    let list = rw c.in-Some.is at c.in_ok-write_head.ensures.inner in
    Writes_both c.in_ok-write_head.ensures.writes c.write_children_deep.ensures.writes (ap (short v) (sym c.lend-2.ensures) ∙ list_short v _ _ list)
