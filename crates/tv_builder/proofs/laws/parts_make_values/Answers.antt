use Rattle.tv_builder.proofs.Calling.{parts_make_value}
use Rattle.tv_builder.proofs.laws.parts_make_values.Goals as goal

pub returns : goal.returns
returns c = parts_make_value
