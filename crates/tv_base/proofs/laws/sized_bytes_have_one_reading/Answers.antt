use Rattle.tv_base.proofs.Texts.{one_sized}
use Rattle.tv_base.proofs.laws.sized_bytes_have_one_reading.Goals as goal

pub returns : goal.returns
returns c = one_sized
