use Rattle.tv_term.proofs.Terms.{completed}
use Rattle.tv_term.proofs.laws.appended_values_complete_json_terms.Goals as goal

pub returns : goal.returns
returns c = completed
