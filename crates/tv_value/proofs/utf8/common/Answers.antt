use Rattle.std.proofs.Common.{arith, ◌∙◌, sym, bit_and}
use Rattle.std.proofs.lemmas.Simd.{get_or-zip2, length-zip2}
use Rattle.tv_value.proofs.utf8.common.Goals as goal

pub returns-clause-len : goal.returns-clause-len
returns-clause-len c = length-zip2 bit_and c.args.a c.args.b (c.fits-a.0 ∙ sym c.fits-b.0) ∙ c.fits-a.0

pub returns-clause-lanes : goal.returns-clause-lanes
returns-clause-lanes c i h = get_or-zip2 bit_and c.args.a c.args.b i 0 0 0 (omega (arith, c.fits-a.0)) (omega (arith, c.fits-b.0))
