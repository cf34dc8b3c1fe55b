use Rattle.tv_builder.proofs.Paid.{open_lists_paid}
use Rattle.tv_builder.proofs.laws.open_lists_are_paid.Goals as goal

pub returns : goal.returns
returns c = open_lists_paid
