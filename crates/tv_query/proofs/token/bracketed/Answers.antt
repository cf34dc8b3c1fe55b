use Rattle.tv_query.specs.Refusals.{unclosed}
use Rattle.tv_query.specs.Tokens.{bracketed}
use Rattle.tv_query.proofs.Words.{bracketed_by, cut_after, is_empty, not_empty, unclosed_by}
use Rattle.tv_query.proofs.token.bracketed.Goals as goal

pub returns-then-is_empty-clause-refused : goal.returns-then-is_empty-clause-refused
returns-then-is_empty-clause-refused c = unclosed (unclosed_by _ _ _ c.split.ensures (is_empty _ c.if-is_empty.ensures) c.requires)

pub split_at-requires : goal.split_at-requires
split_at-requires c = cut_after _ _ _ c.utf8.text c.split.ensures (not_empty _ c.if-is_empty.ensures)

pub returns-clause-found : goal.returns-clause-found
returns-clause-found c = bracketed (bracketed_by _ _ _ _ _ c.split.ensures (not_empty _ c.if-is_empty.ensures) c.requires c.split_at.ensures.front c.split_at.ensures.back)
