use Rattle.std.proofs.Common.{arith}
use Rattle.jiff_core.proofs.SignedLemmas.{signed_casts}
use Rattle.tv_date.proofs.rfc3339.nanoseconds_at.Goals as goal

pub returns : goal.returns
returns c = omega (arith, signed_casts)
