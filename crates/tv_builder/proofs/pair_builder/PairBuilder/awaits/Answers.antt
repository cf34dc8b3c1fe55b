use Rattle.std.proofs.Common.{◌∙◌}
use Rattle.tv_builder.proofs.Counts.{awaited_is}
use Rattle.tv_builder.proofs.PairBuilding.{stands}
use Rattle.tv_builder.proofs.pair_builder.PairBuilder.awaits.Goals as goal

pub returns : goal.returns
returns c = let b = c.args.self.now in c.awaits.ensures ∙ awaited_is b.building (stands b)
