use Rattle.std.proofs.Common.{◌∙◌}
use Rattle.tv_json.proofs.named.write_list.Goals as goal

pub returns-in_err-begin_list-clause-before : goal.returns-in_err-begin_list-clause-before
returns-in_err-begin_list-clause-before g c = c.begin_list.ensures.before

pub returns-in_err-write_lent-clause-before : goal.returns-in_err-write_lent-clause-before
returns-in_err-write_lent-clause-before g c = c.write_lent.ensures.before ∙ c.loop-value.invariant.before ∙ c.begin_list.ensures.before

pub returns-clause-before : goal.returns-clause-before
returns-clause-before g c = c.end_array.ensures.room.0 ∙ c.loop-value.invariant.before ∙ c.begin_list.ensures.before
