use Rattle.std.proofs.Common.{◌≡◌, subst, arith}
use Rattle.std.proofs.lemmas.Result.{err_from_is_err_and}
use Rattle.tv_base.specs.Number.{vnum}
use Rattle.tv_format.specs.Version.{entry_total}
use Rattle.tv_format.specs.WriteVersion.{written_version}
use Rattle.tv_writer.specs.Error.{write_error}
use Rattle.tv_writer.specs.Serialized.{FailsToWrite}
use Rattle.tv_writer.proofs.serializers.BinaryObjectSerializer.with_version.Goals as goal

pub returns-in_err-write_vint-clause-fails : goal.returns-in_err-write_vint-clause-fails
returns-in_err-write_vint-clause-fails g c =
    let p = err_from_is_err_and c.from_residual.result c.from_residual.ensures.1 in
    let w = c.in_err-write_vint.ensures in
    let K = g.K.ByteSink in
    let same : c.in-Some.total ≡ entry_total (written_version c.args.version) c.args.count = omega (arith, c.in-Some.ensures.1) in
    let written = subst (λ n. FailsToWrite K c.args.sink.now (write_error c.in_err-write_vint.field-0.0) (vnum n)) same
    (tt, c.write_vint.new.sink, record { appends = w.appends; stays_known = w.stays_known; counts = w.counts }) in
    record { too_many = λ big. absurd (omega (arith, big, same)); fails = λ fits. rw (p.1, p.2) written }
