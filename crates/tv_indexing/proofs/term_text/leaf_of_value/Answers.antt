use Rattle.std.proofs.Common.{arith, ap, ◌∙◌}
use Rattle.tv_indexing.specs.TermText.{coded_leaf}
use Rattle.tv_indexing.proofs.TermTexts.{lent_value, value_again}
use Rattle.tv_indexing.proofs.term_text.leaf_of_value.Goals as goal

pub returns-in-Ok-clause-found : goal.returns-in-Ok-clause-found
returns-in-Ok-clause-found c = λ value fits same. c.typed_leaf.ensures ∙ ap coded_leaf (c.in-Ok.ensures.0 ∙ same) ∙ value_again value fits

pub returns-in-Ok-clause-is_value : goal.returns-in-Ok-clause-is_value
returns-in-Ok-clause-is_value c = λ some.
    lent_value c.args.coded.now c.typed_leaf.result (λ i. omega (arith, c.type_inv.coded i)) (c.typed_leaf.ensures ∙ ap coded_leaf c.in-Ok.ensures.0) some
