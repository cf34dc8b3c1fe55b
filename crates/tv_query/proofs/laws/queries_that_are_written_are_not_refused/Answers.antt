use Rattle.tv_query.proofs.OneQuery.{not_written}
use Rattle.tv_query.proofs.laws.queries_that_are_written_are_not_refused.Goals as goal

pub returns : goal.returns
returns c = λ schema text tokens tree error written writes some refuses. not_written refuses tokens tree written writes some
