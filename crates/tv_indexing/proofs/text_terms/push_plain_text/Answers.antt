use Rattle.std.proofs.Common.{ap, sym, ◌∙◌, rules}
use Rattle.tv_field.specs.JsonAnswer.{WritesValue}
use Rattle.tv_indexing.specs.DocumentTerms.{plain_terms}
use Rattle.tv_indexing.specs.LeafTerms.{leaf_value}
use Rattle.tv_value.specs.Lent.{leaf_of}
use Rattle.tv_indexing.proofs.TextSteps.{appended}
use Rattle.tv_indexing.proofs.text_terms.push_plain_text.Goals as goal

pub returns-in-Ok-push_leaf-clause-answers : goal.returns-in-Ok-push_leaf-clause-answers
returns-in-Ok-push_leaf-clause-answers c =
    let l = leaf_of c.in-Ok.leaf in
    let e = c.in-Ok-push_leaf.ensures in
    let type = c.args.field_type.now in
    let a = appended c.args.terms.now c.push_leaf.new.terms (plain_terms c.args.field c.value_type-value_type.result (leaf_value l)) e.made in
    let writes : WritesValue type c.args.text.now l = search rules in
    (a.0, (l, writes, e.fits, ap (λ t. plain_terms c.args.field t (leaf_value l)) (sym c.value_type-value_type.ensures) ∙ a.1), a.2)
