use Rattle.std.proofs.Common.{refl}
use Rattle.tv_query.proofs.Words.{is_empty, not_empty, quoted_by, unquoted_by}
use Rattle.tv_query.proofs.token.quoted.Goals as goal

pub returns-then-is_empty-clause-refused : goal.returns-then-is_empty-clause-refused
returns-then-is_empty-clause-refused c = (refl, unquoted_by c.in-Some.quote _ _ _ _ c.in-Some.ensures c.after_first.ensures c.split.ensures (is_empty _ c.if-is_empty.ensures))

pub returns-clause-found : goal.returns-clause-found
returns-clause-found c = quoted_by c.in-Some.quote _ _ _ _ _ c.in-Some.ensures c.after_first.ensures c.split.ensures (not_empty _ c.if-is_empty.ensures) c.after_first-2.ensures
