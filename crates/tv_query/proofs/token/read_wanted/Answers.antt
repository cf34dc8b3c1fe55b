use Rattle.std.proofs.Common.{List, ℕ, subst, sym}
use Rattle.tv_query.specs.Refusals.{RefusesWanted, unquoted}
use Rattle.tv_query.specs.Tokens.{IsQuoted, quoted_prefix, quoted_text}
use Rattle.tv_query.proofs.token.read_wanted.Goals as goal

pub returns-in-Some-clause-found : goal.returns-in-Some-clause-found
returns-in-Some-clause-found c = quoted_prefix (subst (λ (l : List ℕ). IsQuoted c.args.text.now c.in-Ok-Some.inner.now l) c.in-Some.ensures (rw c.in-Ok-Some.field-0-is at c.in-Ok-Some.ensures.found))

pub returns-in-None-clause-found : goal.returns-in-None-clause-found
returns-in-None-clause-found c = quoted_text (rw c.in-Ok-Some.field-0-is at c.in-Ok-Some.ensures.found) c.in-None.ensures

pub returns-in-Err-clause-refused : goal.returns-in-Err-clause-refused
returns-in-Err-clause-refused c = subst (RefusesWanted c.args.text.now) (sym c.in-Err.ensures.refused.0) (unquoted c.in-Err.ensures.refused.1)
