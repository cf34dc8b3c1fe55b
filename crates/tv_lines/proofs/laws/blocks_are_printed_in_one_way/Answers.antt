use Rattle.tv_lines.proofs.OneStop.{prints_alike}
use Rattle.tv_lines.proofs.laws.blocks_are_printed_in_one_way.Goals as goal

pub returns : goal.returns
returns c = λ schema layout version projection block left other old held second result twin few decided too h k.
    prints_alike c.documents_are_listed_in_one_way.ensures.printed schema layout version projection block few old left other held second result twin decided too h k
