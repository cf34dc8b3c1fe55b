use Rattle.std.proofs.Common.{arith}
use Rattle.tv_term.proofs.Segments.{have-no-zero}
use Rattle.tv_term.proofs.term.has_nul_among.Goals as goal

pub returns : goal.returns
returns c = have-no-zero c.args.texts.now (λ k inside. c.loop-text.invariant k (omega arith))
