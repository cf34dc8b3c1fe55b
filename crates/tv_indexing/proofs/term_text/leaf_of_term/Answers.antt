use Rattle.tv_indexing.specs.TermText.{inner}
use Rattle.tv_term.specs.Key.{coded_value}
use Rattle.tv_indexing.proofs.TermTexts.{inner_fits, same_bytes}
use Rattle.tv_indexing.proofs.term_text.leaf_of_term.Goals as goal

pub returns-clause-found : goal.returns-clause-found
returns-clause-found c = λ field value has.
    let same = same_bytes c.in_ok-coded.coded.now (coded_value (inner value)) (c.in_ok-coded.ensures.found field value has) in
    c.leaf_of_value.ensures.found (inner value) (inner_fits value has.value_fits) same

pub returns-clause-is_term : goal.returns-clause-is_term
returns-clause-is_term c = λ some. let value = c.leaf_of_value.ensures.is_value some in c.in_ok-coded.ensures.is_term value.0 value.1 value.2
