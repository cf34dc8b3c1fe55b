use Rattle.std.proofs.Common.{◌≡◌, Err, subst}
use Rattle.tv_indexing.specs.IndexedField.{FoundField}
use Rattle.tv_indexing.specs.TextRange.{BelowInField, RangeWithBelow}
use Rattle.tv_indexing.specs.TakesMemory.{TakesMemoryIn}
use Rattle.tv_indexing.specs.Tells.{UnlessFirst}
use Rattle.tv_indexing.specs.declared.text_terms_error.TextTermsError.TheVariants.{Memory, NoRange}
use Rattle.tv_indexing.proofs.Answering.{first_told, plain}
use Rattle.tv_indexing.proofs.TakingMemory.{below_field_takes}
use Rattle.tv_indexing.proofs.indexed_field.IndexedField.below.Goals as goal

pub returns-in_default : goal.returns-in_default
returns-in_default c =
    let field = c.self.inside.field in
    let type = c.self.inside.field_type.now in
    let at : FoundField = record { field = field; type = type; rest = c.self.inside.rest.now } in
    let text = c.args.text.now in
    let result = c.range_with_below.result in
    subst (λ (f : FoundField). UnlessFirst Memory (TakesMemoryIn f.type) (BelowInField f text) result) c.self.view_is
    (first_told Memory (TakesMemoryIn type) (RangeWithBelow field type text) (BelowInField at text) result
    (λ answer h. plain type (λ expand_dots. answer ≡ Err (NoRange field)) (RangeWithBelow field type text answer) c.in_default.not-JsonObject h)
    (λ is why h. below_field_takes at text why (λ options json. c.in_default.not-JsonObject options json) h) c.range_with_below.ensures)
