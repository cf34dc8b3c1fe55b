use Rattle.simdutf8.proofs.Lanes.{lane_fits}
use Rattle.tv_value.proofs.Utf8Prefixes.{prefix_is}
use Rattle.tv_value.proofs.utf8.prefix_of.Goals as goal

pub returns : goal.returns
returns c = prefix_is c.args.block c.common.result c.mask_of.result c.args.len c.requires c.fits-block.0 (λ i. lane_fits c.args.block i c.fits-block.1) c.mask_of.ensures c.common.ensures.len c.common.ensures.lanes
