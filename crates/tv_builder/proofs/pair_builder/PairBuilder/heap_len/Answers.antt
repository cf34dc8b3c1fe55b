use Rattle.std.proofs.Common.{arith}
use Rattle.tv_builder.proofs.PairBuilding.{heap_weighs}
use Rattle.tv_builder.proofs.pair_builder.PairBuilder.heap_len.Goals as goal

pub returns-clause-within : goal.returns-clause-within
returns-clause-within c = let b = c.args.self.now in omega (arith, c.len.ensures.len, heap_weighs b)
