use Rattle.tv_blocks.proofs.TextAnswers.{end_answer, facet_answer, ranges_answer, term_answer, terms_answer}
use Rattle.tv_blocks.proofs.laws.texts_have_one_answer.Goals as goal

pub returns-clause-terms : goal.returns-clause-terms
returns-clause-terms c = λ schema path text. terms_answer schema path text (c.terms_of_texts_are_determined.ensures.at_path schema path text)

pub returns-clause-ranges : goal.returns-clause-ranges
returns-clause-ranges c = λ schema path text. ranges_answer schema path text (c.ranges_of_texts_are_determined.ensures.at_path schema path text)

pub returns-clause-facet : goal.returns-clause-facet
returns-clause-facet c = facet_answer

pub returns-clause-term : goal.returns-clause-term
returns-clause-term c = term_answer

pub returns-clause-end : goal.returns-clause-end
returns-clause-end c = end_answer
