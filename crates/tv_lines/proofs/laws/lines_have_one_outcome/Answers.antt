use Rattle.tv_lines.proofs.OneOutcome.{outcome_one}
use Rattle.tv_lines.proofs.laws.lines_have_one_outcome.Goals as goal

pub returns : goal.returns
returns c = λ schema rules line text other said also mine yours. outcome_one schema rules line text other said also mine yours
