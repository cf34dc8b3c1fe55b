use Rattle.tv_query.proofs.Machine.{tokens_one}
use Rattle.tv_query.proofs.OneText.{end_one, taken_one}
use Rattle.tv_query.proofs.laws.tokens_are_read_in_one_way.Goals as goal

pub returns-clause-made : goal.returns-clause-made
returns-clause-made c = λ schema tokens tree other writes also. tokens_one schema tokens tree other writes also

pub returns-clause-token : goal.returns-clause-token
returns-clause-token c = λ schema state token reason other x y. taken_one schema state token reason other x y

pub returns-clause-end : goal.returns-clause-end
returns-clause-end c = λ state reason other x y. end_one state reason other x y
