use Rattle.std.proofs.lemmas.Result.{err_from_is_err_and}
use Rattle.tv_writer.proofs.serializers.BinaryArraySerializer.with_version.Goals as goal

pub returns-in_err-write_vint-clause-fails : goal.returns-in_err-write_vint-clause-fails
returns-in_err-write_vint-clause-fails g c =
    let p = err_from_is_err_and c.from_residual.result c.from_residual.ensures.1 in
    let w = c.in_err-write_vint.ensures in
    rw (p.1, p.2) (tt, c.write_vint.new.sink, record { appends = w.appends; stays_known = w.stays_known; counts = w.counts })
