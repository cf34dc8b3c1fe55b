use Rattle.std.proofs.Common.{sym, subst}
use Rattle.tv_value.specs.Lent.{leaf_of}
use Rattle.tv_indexing.specs.LeafTerms.{HasTerm, leaf_value}
use Rattle.tv_indexing.proofs.RangeSteps.{held_term}
use Rattle.tv_term.specs.Key.{IsTerm}
use Rattle.tv_indexing.proofs.text_range.term_of_text.Goals as goal

pub returns-in-Some : goal.returns-in-Some
returns-in-Some c =
    let value = leaf_value (leaf_of c.in-Ok.leaf) in
    let held = held_term c.args.field.id value c.write_leaf.new.writer (subst (λ test. HasTerm c.args.field.id value c.write_leaf.new.writer test) c.in-Ok-true.field-0-test c.in-Ok-true.ensures.made) in
    (leaf_of c.in-Ok.leaf, held.0, record { is_value = c.in-Ok.ensures; has_term = held.1 }, subst (λ z. IsTerm z c.args.field.id held.0) (sym c.in-Some.ensures) held.2)
