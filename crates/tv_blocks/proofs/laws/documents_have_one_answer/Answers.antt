use Rattle.tv_blocks.proofs.DocumentAnswers.{first_answer, stored_answer}
use Rattle.tv_blocks.proofs.laws.documents_have_one_answer.Goals as goal

pub returns-clause-read : goal.returns-clause-read
returns-clause-read c = first_answer

pub returns-clause-write : goal.returns-clause-write
returns-clause-write c = stored_answer
