use Rattle.tv_base.proofs.Numbers.{vnum_encodes}
use Rattle.tv_base.proofs.laws.short_numbers_encode.Goals as goal

pub returns : goal.returns
returns c = vnum_encodes
