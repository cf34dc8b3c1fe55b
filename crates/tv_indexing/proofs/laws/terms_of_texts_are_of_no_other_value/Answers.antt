use Rattle.tv_field.specs.Entry.{value_type}
use Rattle.tv_indexing.specs.LeafTerms.{leaf_value}
use Rattle.tv_term.specs.Key.{term}
use Rattle.tv_indexing.proofs.TextLaws.{AreOfOneValue, path_value, plain_value}
use Rattle.tv_indexing.proofs.laws.terms_of_texts_are_of_no_other_value.Goals as goal

pub returns-clause-plain : goal.returns-clause-plain
returns-clause-plain c field type text made value small fits answers has =
    let one : AreOfOneValue field.id = λ a b a_fits b_fits e. (c.equal_terms_have_equal_keys.ensures field.id field.id a b small small a_fits b_fits ((c.comparisons_of_terms_agree.ensures.eq (term field.id a) (term field.id b)).1 e)).1 in
    (answers.0, answers.1, plain_value field (value_type type) (leaf_value answers.0) made value one answers.2 fits answers.3 has)

pub returns-clause-at_path : goal.returns-clause-at_path
returns-clause-at_path c field path text made value small plain fits answers has =
    let one : AreOfOneValue field.id = λ a b a_fits b_fits e. (c.equal_terms_have_equal_keys.ensures field.id field.id a b small small a_fits b_fits ((c.comparisons_of_terms_agree.ensures.eq (term field.id a) (term field.id b)).1 e)).1 in
    let found = path_value field path answers.0 made value one plain answers.2 fits answers.3 has in
    (answers.0, found.0, answers.1, found.1, found.2)
