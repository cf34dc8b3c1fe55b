use Rattle.tv_json.proofs.FaultLaws.{one_fault, no_fault}
use Rattle.tv_json.proofs.laws.syntax_faults_are_unique.Goals as goal

pub returns-clause-one : goal.returns-clause-one
returns-clause-one c = one_fault

pub returns-clause-none : goal.returns-clause-none
returns-clause-none c = no_fault
