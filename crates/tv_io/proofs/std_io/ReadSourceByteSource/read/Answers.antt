use Rattle.std.proofs.Common.{subst}
use Rattle.std.specs.IoError.{error_kind}
use Rattle.tv_io.proofs.Remaining.{still_known, bytes_given, failures_counted}
use Rattle.tv_io.specs.Calls.{failures_of, CountsOnce}
use Rattle.tv_io.proofs.std_io.ReadSourceByteSource.read.Goals as goal

pub returns-clause-is_known : goal.returns-clause-is_known
returns-clause-is_known g c = still_known c.read.result c.read.new.buf _ _ c.read.ensures.bytes

pub returns-clause-bytes : goal.returns-clause-bytes
returns-clause-bytes g c = λ known.
    let counts = subst (λ call. CountsOnce call c.count.result (failures_of c.args.self.now.failures) (failures_of c.count.new.self)) c.read_by_kind-call.ensures c.count.ensures in
    bytes_given error_kind c.read.result c.count.result c.read.new.buf _ _ _ _ c.read.ensures.bytes counts known.0

pub returns-clause-failures : goal.returns-clause-failures
returns-clause-failures g c = failures_counted _ _ _ _ c.count.ensures
