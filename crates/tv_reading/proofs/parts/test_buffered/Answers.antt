use Rattle.std.proofs.Common.{arith, Some}
use Rattle.tv_reading.specs.Skip.{MayTest}
use Rattle.tv_reading.proofs.Passing.{tested_so}
use Rattle.tv_reader.proofs.Lending.{passed_over}
use Rattle.tv_reading.proofs.parts.test_buffered.Goals as goal

pub returns : goal.returns
returns g c =
    let n = c.args.len in
    let is_text = c.is_utf8-is_text.result in
    record { finds = passed_over (MayTest n) (Some is_text) c.buffered-lent.result.now n c.buffered-lent.ensures (omega arith) (λ a same many. tested_so n _ a is_text same many c.is_utf8-is_text.ensures) c.if-not-pass.ensures.bytes c.if-not-pass.ensures.is_known c.if-not-pass.ensures.failures (omega arith) }
