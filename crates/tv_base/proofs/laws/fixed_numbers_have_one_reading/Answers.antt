use Rattle.tv_base.proofs.Numbers.{one_fixed}
use Rattle.tv_base.proofs.laws.fixed_numbers_have_one_reading.Goals as goal

pub returns : goal.returns
returns c = one_fixed
