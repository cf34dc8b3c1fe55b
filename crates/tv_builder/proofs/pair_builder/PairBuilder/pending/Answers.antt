use Rattle.tv_builder.proofs.Counts.{pending_is}
use Rattle.tv_builder.proofs.PairBuilding.{stands}
use Rattle.tv_builder.proofs.pair_builder.PairBuilder.pending.Goals as goal

pub returns : goal.returns
returns c = let b = c.args.self.now in pending_is b.building (stands b)
