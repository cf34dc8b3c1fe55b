use Rattle.tv_builder.proofs.Paid.{document_paid, open_paid}
use Rattle.tv_builder.proofs.laws.what_is_written_is_paid.Goals as goal

pub returns-clause-open : goal.returns-clause-open
returns-clause-open c = open_paid

pub returns-clause-closed : goal.returns-clause-closed
returns-clause-closed c = document_paid
