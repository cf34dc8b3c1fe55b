use Rattle.std.proofs.Common.{arith, sym}
use Rattle.tv_io.proofs.Limiting.{byte_within}
use Rattle.tv_io.proofs.limited_source.LimitedSourceByteSource.next_byte.Goals as goal

pub returns-then-is_some-clause-taken : goal.returns-then-is_some-clause-taken
returns-then-is_some-clause-taken g c = λ told.
    byte_within c.args.self.now.limit c.in_ok-byte.byte _ _ (c.in_ok-byte.ensures.bytes told) (sym c.if-is_some.ensures) (omega arith)
