use Rattle.std.proofs.Common.{Some, ap, ◌∙◌, arith}
use Rattle.tv_indexing.proofs.TermTexts.{inner_json, inner_plain, json_term_is, plain_term}
use Rattle.tv_term.specs.Reading.{json_parts}
use Rattle.tv_indexing.proofs.term_text.inner_value.Goals as goal

pub returns-in-Some-clause-found : goal.returns-in-Some-clause-found
returns-in-Some-clause-found c = λ field value has.
    let at = c.in_ok-coded.ensures.cases in
    ap Some (inner_json c.args.term.now c.in-Ok.value.serialized.now c.in-Some.inner.now c.in-Some.field-0-0.now field value (c.in-Ok.ensures.0 ∙ at.2) c.in-Some.ensures has)

pub returns-in-Some-clause-is_term : goal.returns-in-Some-clause-is_term
returns-in-Some-clause-is_term c = λ value fits same.
    let at = c.in_ok-coded.ensures.cases in
    json_term_is c.args.term.now c.in-Ok.value.serialized.now c.in-Some.inner.now c.in-Some.field-0-0.now value (λ i. omega (arith, c.type_inv.term i)) at.0 (c.in-Ok.ensures.0 ∙ at.2) c.in-Some.ensures fits same

pub returns-in-None-clause-found : goal.returns-in-None-clause-found
returns-in-None-clause-found c = λ field value has.
    let at = c.in_ok-coded.ensures.cases in
    ap Some (inner_plain c.args.term.now c.in_ok-coded.coded.now field value at.2 (c.in-None.ensures ∙ ap json_parts c.in-Ok.ensures.0) has)

pub returns-in-None-clause-is_term : goal.returns-in-None-clause-is_term
returns-in-None-clause-is_term c = λ value fits same.
    let at = c.in_ok-coded.ensures.cases in plain_term c.args.term.now c.in_ok-coded.coded.now value (λ i. omega (arith, c.type_inv.term i)) at.0 at.2 fits same
