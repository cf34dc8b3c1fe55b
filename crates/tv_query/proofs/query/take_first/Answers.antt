use Rattle.tv_query.specs.Parsing.{state_of}
use Rattle.tv_query.specs.Refusals.{RefusesRest, RefusesTaken, TakesMemoryAfter, no_place, no_token}
use Rattle.tv_query.specs.Tokens.{token_of}
use Rattle.tv_query.specs.declared.query_error.QueryReason.TheVariants.{Memory}
use Rattle.tv_query.proofs.Refusing.{tells, tells-weaker, token_memory, token_refused_here}
use Rattle.tv_query.proofs.Reading.{token_longer}
use Rattle.tv_query.proofs.query.take_first.Goals as goal

pub returns-in-Ok-take-clause-shorter : goal.returns-in-Ok-take-clause-shorter
returns-in-Ok-take-clause-shorter c = token_longer _ _ _ c.in-Ok.ensures.found

pub returns-in-Err-take-clause-refused : goal.returns-in-Err-take-clause-refused
returns-in-Err-take-clause-refused c = λ tokens depth at.
    let state = state_of c.args.parser.now depth in
    let token = token_of c.in-Ok.token in
    let text = c.args.text.now in
    tells-weaker Memory (TakesMemoryAfter c.args.schema.now tokens) (TakesMemoryAfter c.args.schema.now tokens) (RefusesTaken c.args.schema.now state token) (RefusesRest c.args.schema.now state text) c.in-Err-take.reason
    (λ r. no_place c.in-Ok.ensures.found r) (λ takes why r. takes why (token_refused_here state text c.in-Ok.rest.now token why c.in-Ok.ensures.found r)) (c.in-Err-take.ensures.refused tokens depth at)

pub returns-in-Err-clause-refused : goal.returns-in-Err-clause-refused
returns-in-Err-clause-refused c = λ tokens depth at.
    let state = state_of c.args.parser.now depth in
    tells Memory (TakesMemoryAfter c.args.schema.now tokens) (RefusesRest c.args.schema.now state c.args.text.now) c.in-Err.reason (token_memory c.args.text.now c.in-Err.reason c.in-Err.ensures.refused) (no_token c.requires.some c.in-Err.ensures.refused)
