use Rattle.tv_doc.proofs.TextFaults.{faults_alike}
use Rattle.tv_doc.proofs.laws.texts_have_one_fault.Goals as goal

pub returns : goal.returns
returns c = faults_alike c.syntax_faults_are_unique.ensures.one c.syntax_faults_are_unique.ensures.none
