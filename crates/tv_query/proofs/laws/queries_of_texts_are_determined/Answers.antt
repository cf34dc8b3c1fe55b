use Rattle.tv_query.proofs.OneText.{error_of_one, query_one}
use Rattle.tv_query.proofs.laws.queries_of_texts_are_determined.Goals as goal

pub returns-clause-made : goal.returns-clause-made
returns-clause-made c = λ schema text tokens also tree other written writes read reads. query_one schema text tokens also tree other written writes read reads

pub returns-clause-refused : goal.returns-clause-refused
returns-clause-refused c = λ schema text error other refuses also some more. error_of_one schema text error other refuses also some more
