use Rattle.tv_base.proofs.Steps.{Descends-from_root}
use Rattle.tv_base.proofs.laws.all_facets_descend_from_the_root.Goals as goal

pub returns : goal.returns
returns c = Descends-from_root
