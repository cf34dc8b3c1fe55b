use Rattle.tv_lines.proofs.OneSearch.{searches_alike}
use Rattle.tv_lines.proofs.laws.blocks_are_searched_in_one_way.Goals as goal

pub returns : goal.returns
returns g c = λ schema version projection tree block left other old held second report ended finished result twin few decided too h k.
    searches_alike c.documents_are_listed_in_one_way.ensures.printed schema version projection tree block few old left other held second _ _ _ _ result twin decided too h k
