use Rattle.tv_blocks.proofs.OneBreak.{breaks_none, breaks_one}
use Rattle.tv_blocks.proofs.laws.blocks_break_at_one_document.Goals as goal

pub returns-clause-one : goal.returns-clause-one
returns-clause-one c = breaks_one

pub returns-clause-none : goal.returns-clause-none
returns-clause-none c = breaks_none
