use Rattle.tv_blocks.proofs.FacetAnswers.{counts_answer}
use Rattle.tv_blocks.proofs.laws.facets_are_counted_in_one_way.Goals as goal

pub returns : goal.returns
returns c = counts_answer
