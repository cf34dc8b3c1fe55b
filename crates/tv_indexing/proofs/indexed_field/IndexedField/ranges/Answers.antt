use Rattle.std.proofs.Common.{subst}
use Rattle.tv_indexing.specs.IndexedField.{FoundField}
use Rattle.tv_indexing.specs.JsonRanges.{OneRange, RangesBelow, RangesInField, ranges_in}
use Rattle.tv_indexing.specs.TextRange.{bound_text}
use Rattle.tv_indexing.specs.TakesMemory.{TakesMemoryIn}
use Rattle.tv_indexing.specs.Tells.{UnlessFirst}
use Rattle.tv_indexing.specs.declared.text_terms_error.TextTermsError.TheVariants.{Memory}
use Rattle.tv_indexing.proofs.Answering.{first_told, of_json, plain}
use Rattle.tv_indexing.proofs.TakingMemory.{memory_is, ranges_take}
use Rattle.tv_indexing.proofs.indexed_field.IndexedField.ranges.Goals as goal

pub returns-in-JsonObject : goal.returns-in-JsonObject
returns-in-JsonObject c =
    let field = c.self.inside.field in
    let type = c.self.inside.field_type.now in
    let rest = c.self.inside.rest.now in
    let at : FoundField = record { field = field; type = type; rest = rest } in
    let start = bound_text c.args.start in
    let end = bound_text c.args.end in
    let options = c.in-JsonObject.options in
    let result = ranges_in c.ranges_below.result in
    subst (λ (f : FoundField). UnlessFirst Memory (TakesMemoryIn f.type) (RangesInField f start end) result) c.self.view_is
    (first_told Memory (TakesMemoryIn type) (RangesBelow field options.part.expand_dots_enabled rest start end) (RangesInField at start end) result
    (λ answer h. of_json type options (λ expand_dots. RangesBelow field expand_dots rest start end answer) (OneRange field type start end answer) c.in-JsonObject.is h)
    (λ is why h. ranges_take at start end why (λ found json. c.ranges_below.ensures.memory (memory_is c.ranges_below.result is)) h) (rw c.is_expand_dots_enabled-expand_dots.ensures at c.ranges_below.ensures.answers))

pub returns-in_default : goal.returns-in_default
returns-in_default c =
    let field = c.self.inside.field in
    let type = c.self.inside.field_type.now in
    let rest = c.self.inside.rest.now in
    let at : FoundField = record { field = field; type = type; rest = rest } in
    let start = bound_text c.args.start in
    let end = bound_text c.args.end in
    let result = ranges_in c.one_range.result in
    subst (λ (f : FoundField). UnlessFirst Memory (TakesMemoryIn f.type) (RangesInField f start end) result) c.self.view_is
    (first_told Memory (TakesMemoryIn type) (OneRange field type start end) (RangesInField at start end) result
    (λ answer h. plain type (λ expand_dots. RangesBelow field expand_dots rest start end answer) (OneRange field type start end answer) c.in_default.not-JsonObject h)
    (λ is why h. ranges_take at start end why (λ options json. absurd (c.in_default.not-JsonObject options json)) h) c.one_range.ensures)
