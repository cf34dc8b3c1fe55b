use Rattle.std.proofs.Common.{arith, length, ap}
use Rattle.tv_lines.proofs.Cutting.{prefix_given}
use Rattle.tv_lines.proofs.line_reader.read_prefix.Goals as goal

pub returns-in-Ok-clause-bytes : goal.returns-in-Ok-clause-bytes
returns-in-Ok-clause-bytes g c = λ told.
    prefix_given c.in-Ok.count _ _ _ _ _ _ c.in-Ok.ensures.bound (omega (arith, c.requires, c.read.auto.buf, c.deref_mut.ensures.len, ap length c.deref_mut.ensures.value, c.args.piece.now.ok.0, c.in-Ok.ensures.bound)) (c.in-Ok.ensures.bytes told).0
