use Rattle.tv_date.proofs.ReadBack.{read_back}
use Rattle.tv_date.proofs.laws.printed_dates_are_read.Goals as goal

pub returns : goal.returns
returns c = read_back
