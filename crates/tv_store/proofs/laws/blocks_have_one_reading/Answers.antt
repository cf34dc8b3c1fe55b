use Rattle.tv_store.proofs.MigratedAlike.{one_block}
use Rattle.tv_store.proofs.laws.blocks_have_one_reading.Goals as goal

pub returns : goal.returns
returns c = one_block
