use Rattle.std.proofs.Common.{◌≡◌, Err, subst}
use Rattle.tv_indexing.specs.IndexedField.{FoundField}
use Rattle.tv_indexing.specs.TextRange.{RangeInField, RangeOfTexts, bound_text}
use Rattle.tv_indexing.specs.TakesMemory.{TakesMemoryIn}
use Rattle.tv_indexing.specs.Tells.{UnlessFirst}
use Rattle.tv_indexing.specs.declared.text_terms_error.TextTermsError.TheVariants.{Memory, NoRange}
use Rattle.tv_indexing.proofs.Answering.{first_told, plain}
use Rattle.tv_indexing.proofs.TakingMemory.{range_takes}
use Rattle.tv_indexing.proofs.indexed_field.IndexedField.range.Goals as goal

pub returns-in_default : goal.returns-in_default
returns-in_default c =
    let field = c.self.inside.field in
    let type = c.self.inside.field_type.now in
    let at : FoundField = record { field = field; type = type; rest = c.self.inside.rest.now } in
    let start = bound_text c.args.start in
    let end = bound_text c.args.end in
    subst (λ (f : FoundField). UnlessFirst Memory (TakesMemoryIn f.type) (RangeInField f start end) c.plain_range.result) c.self.view_is
    (first_told Memory (TakesMemoryIn type) (RangeOfTexts field type start end) (RangeInField at start end) c.plain_range.result
    (λ answer h. plain type (λ expand_dots. answer ≡ Err (NoRange field)) (RangeOfTexts field type start end answer) c.in_default.not-JsonObject h)
    (λ is why h. range_takes at start end why (λ options json. c.in_default.not-JsonObject options json) h) c.plain_range.ensures)
