use Rattle.tv_date.proofs.Printing.{IsPrinted_unique}
use Rattle.tv_date.proofs.laws.dates_have_one_text.Goals as goal

pub returns : goal.returns
returns c = IsPrinted_unique
