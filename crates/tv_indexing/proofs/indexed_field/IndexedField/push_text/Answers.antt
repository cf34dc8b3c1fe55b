use Rattle.std.proofs.Common.{subst}
use Rattle.tv_indexing.specs.IndexedField.{FoundField}
use Rattle.tv_indexing.specs.TakesMemory.{TakesMemoryIn}
use Rattle.tv_indexing.specs.Tells.{UnlessFirst}
use Rattle.tv_indexing.specs.TextTerms.{AppendsAnswer, TermOfText, TermsBelow, TermsInField}
use Rattle.tv_indexing.specs.declared.text_terms_error.TextTermsError.TheVariants.{Memory}
use Rattle.tv_indexing.proofs.Answering.{appends, first_told, of_json, plain}
use Rattle.tv_indexing.proofs.TakingMemory.{terms_take}
use Rattle.tv_indexing.proofs.indexed_field.IndexedField.push_text.Goals as goal

pub returns-in-JsonObject-clause-answers : goal.returns-in-JsonObject-clause-answers
returns-in-JsonObject-clause-answers c =
    let field = c.self.inside.field in
    let type = c.self.inside.field_type.now in
    let rest = c.self.inside.rest.now in
    let at : FoundField = record { field = field; type = type; rest = rest } in
    let text = c.args.text.now in
    let options = c.in-JsonObject.options in
    let old = c.args.terms.now in
    let new = c.push_text_below.new.terms in
    let result = c.push_text_below.result in
    subst (λ (f : FoundField). UnlessFirst Memory (TakesMemoryIn f.type) (AppendsAnswer (TermsInField f text) old new) result) c.self.view_is
    (first_told Memory (TakesMemoryIn type) (AppendsAnswer (TermsBelow field options.part.expand_dots_enabled rest text) old new) (AppendsAnswer (TermsInField at text) old new) result
    (appends (TermsBelow field options.part.expand_dots_enabled rest text) (TermsInField at text) old new
    (λ answer h. of_json type options (λ expand_dots. TermsBelow field expand_dots rest text answer) (TermOfText field type text answer) c.in-JsonObject.is h))
    (λ is why h. terms_take at text why (λ found json. c.push_text_below.ensures.memory is) h)
    (rw c.is_expand_dots_enabled-expand_dots.ensures at c.push_text_below.ensures.answers))

pub returns-in_default-clause-answers : goal.returns-in_default-clause-answers
returns-in_default-clause-answers c =
    let field = c.self.inside.field in
    let type = c.self.inside.field_type.now in
    let rest = c.self.inside.rest.now in
    let at : FoundField = record { field = field; type = type; rest = rest } in
    let text = c.args.text.now in
    let old = c.args.terms.now in
    let new = c.push_plain_text.new.terms in
    let result = c.push_plain_text.result in
    subst (λ (f : FoundField). UnlessFirst Memory (TakesMemoryIn f.type) (AppendsAnswer (TermsInField f text) old new) result) c.self.view_is
    (first_told Memory (TakesMemoryIn type) (AppendsAnswer (TermOfText field type text) old new) (AppendsAnswer (TermsInField at text) old new) result
    (appends (TermOfText field type text) (TermsInField at text) old new
    (λ answer h. plain type (λ expand_dots. TermsBelow field expand_dots rest text answer) (TermOfText field type text answer) c.in_default.not-JsonObject h))
    (λ is why h. terms_take at text why (λ options json. absurd (c.in_default.not-JsonObject options json)) h)
    c.push_plain_text.ensures.answers)
