use Rattle.std.proofs.Common.{◌++◌, Some, refl, sym, ap, ◌∙◌}
use Rattle.std.specs.Option.{option_map}
use Rattle.tv_indexing.specs.TermText.{leaf_text}
use Rattle.tv_value.specs.Lent.{leaf_of}
use Rattle.tv_indexing.proofs.term_text.text_of_term.Goals as goal

pub returns-in_default-clause-text : goal.returns-in_default-clause-text
returns-in_default-clause-text c = λ field value has.
    ap (option_map leaf_text) (ap (option_map leaf_of) (sym c.in_default.is) ∙ c.leaf_of_term.ensures.found field value has)

pub returns-clause-text : goal.returns-clause-text
returns-clause-text c = λ field value has.
    let leaf = leaf_of c.in-Some.leaf in
    let printed = c.in_ok-push_text.ensures ∙ ap (λ start. start ++ leaf_text leaf) c.new-text.ensures.bytes in
    ap Some printed ∙ ap (option_map leaf_text) (ap (option_map leaf_of) (sym c.in-Some.is) ∙ c.leaf_of_term.ensures.found field value has)

pub returns-clause-is_term : goal.returns-clause-is_term
returns-clause-is_term c = λ some. c.in-Some.ensures.is_term refl
