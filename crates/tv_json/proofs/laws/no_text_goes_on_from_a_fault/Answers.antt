use Rattle.tv_json.proofs.FaultLaws.{none_goes_on}
use Rattle.tv_json.proofs.laws.no_text_goes_on_from_a_fault.Goals as goal

pub returns : goal.returns
returns c = none_goes_on
