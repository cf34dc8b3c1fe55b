use Rattle.tv_base.proofs.Texts.{one_signed}
use Rattle.tv_base.proofs.laws.signed_numbers_have_one_reading.Goals as goal

pub returns : goal.returns
returns c = one_signed
