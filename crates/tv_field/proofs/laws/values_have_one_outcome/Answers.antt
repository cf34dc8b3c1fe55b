use Rattle.std.specs.declared.alloc.AllocError.{AllocError}
use Rattle.tv_field.proofs.JsonTokens.{one_encoding}
use Rattle.tv_field.proofs.OneOutcome.{one_outcome, text_outcome}
use Rattle.tv_field.proofs.laws.values_have_one_outcome.Goals as goal

pub returns-clause-values : goal.returns-clause-values
returns-clause-values c = one_outcome

pub returns-clause-texts : goal.returns-clause-texts
returns-clause-texts c = text_outcome

pub returns-clause-tokenized : goal.returns-clause-tokenized
returns-clause-tokenized c = one_encoding AllocError
