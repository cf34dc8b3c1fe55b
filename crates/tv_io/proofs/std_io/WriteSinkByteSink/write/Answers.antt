use Rattle.std.proofs.Common.{subst}
use Rattle.std.specs.IoError.{error_kind}
use Rattle.tv_io.proofs.Remaining.{writer_known, bytes_written, failures_counted}
use Rattle.tv_io.specs.Calls.{failures_of, CountsOnce}
use Rattle.tv_io.proofs.std_io.WriteSinkByteSink.write.Goals as goal

pub returns-clause-is_known : goal.returns-clause-is_known
returns-clause-is_known g c = writer_known c.write.result c.args.buf.now _ _ c.write.ensures.bytes

pub returns-clause-bytes : goal.returns-clause-bytes
returns-clause-bytes g c = λ known.
    let counts = subst (λ call. CountsOnce call c.count.result (failures_of c.args.self.now.failures) (failures_of c.count.new.self)) c.written_by_kind-call.ensures c.count.ensures in
    bytes_written error_kind c.write.result c.count.result c.args.buf.now _ _ _ _ c.write.ensures.bytes counts known

pub returns-clause-failures : goal.returns-clause-failures
returns-clause-failures g c = failures_counted _ _ _ _ c.count.ensures
