use Rattle.tv_lines.proofs.OneStop.{tests_alike}
use Rattle.tv_lines.proofs.laws.blocks_are_tested_in_one_way.Goals as goal

pub returns : goal.returns
returns c = λ version limits block left other result twin few decided too h k. tests_alike version limits block few left other result twin decided too h k
