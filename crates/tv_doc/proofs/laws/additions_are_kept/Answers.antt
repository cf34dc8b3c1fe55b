use Rattle.tv_doc.proofs.Additions.{runs_keep}
use Rattle.tv_doc.proofs.laws.additions_are_kept.Goals as goal

pub returns : goal.returns
returns c = runs_keep
