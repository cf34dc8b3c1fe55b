use Rattle.tv_schema.proofs.Finding.{find-last, find-none}
use Rattle.tv_schema.proofs.laws.the_last_dot_counts.Goals as goal

pub returns-clause-found : goal.returns-clause-found
returns-clause-found c = find-last

pub returns-clause-none : goal.returns-clause-none
returns-clause-none c = find-none
