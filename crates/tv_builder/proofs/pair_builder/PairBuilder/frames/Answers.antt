use Rattle.std.proofs.Common.{arith}
use Rattle.tv_builder.proofs.Counts.{frames_are}
use Rattle.tv_builder.proofs.PairBuilding.{stands}
use Rattle.tv_builder.proofs.pair_builder.PairBuilder.frames.Goals as goal

pub returns : goal.returns
returns c = let b = c.args.self.now in omega (arith, c.len.ensures, frames_are b.building (stands b), b.building.frames.ok.0)
