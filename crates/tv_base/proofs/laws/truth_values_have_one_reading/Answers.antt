use Rattle.tv_base.proofs.Agrees.{one_encoding}
use Rattle.tv_base.proofs.AgreeTruth.{truth_agrees}
use Rattle.tv_base.proofs.laws.truth_values_have_one_reading.Goals as goal

pub returns : goal.returns
returns c = one_encoding truth_agrees
