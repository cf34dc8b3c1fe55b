use Rattle.tv_indexing.proofs.TermTexts.{no_text, one_text}
use Rattle.tv_indexing.proofs.term_text.text_of.Goals as goal

pub returns-in-Ok : goal.returns-in-Ok
returns-in-Ok c = let is = c.in-Ok.ensures.cases in one_text c.in-Ok.text.now c.args.payload.now is.0 is.1

pub returns-in-Err : goal.returns-in-Err
returns-in-Err c = no_text c.args.payload.now c.in-Err.ensures.cases.0
