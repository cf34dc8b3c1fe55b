use Rattle.tv_blocks.proofs.SchemaAnswers.{path_answer, schema_answer}
use Rattle.tv_blocks.proofs.laws.schema_texts_have_one_answer.Goals as goal

pub returns-clause-read : goal.returns-clause-read
returns-clause-read c = schema_answer

pub returns-clause-find : goal.returns-clause-find
returns-clause-find c = path_answer
