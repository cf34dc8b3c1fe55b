use Rattle.tv_query.proofs.OneClause.{clause_one}
use Rattle.tv_query.proofs.laws.selections_are_determined.Goals as goal

pub returns : goal.returns
returns c = λ schema path wanted one other x y. clause_one schema path wanted one other x y
