use Rattle.tv_query.specs.Refusals.{wants_nothing}
use Rattle.tv_query.specs.Tokens.{selects}
use Rattle.tv_query.proofs.token.clause.Goals as goal

pub returns-in-Ok-clause-found : goal.returns-in-Ok-clause-found
returns-in-Ok-clause-found c = selects c.requires c.in-Ok.ensures.found

pub returns-in-Err-clause-refused : goal.returns-in-Err-clause-refused
returns-in-Err-clause-refused c = wants_nothing c.requires c.in-Err.ensures.refused
