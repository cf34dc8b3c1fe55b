-- Which refusals of a path or a text are found only once memory was taken.
--
-- The words of the public contracts: `TakesMemoryIn`: of a text in a field of this type. `TakesMemory`: at a
-- path of a schema.
use Rattle.std.specs.Prelude.{◌≡◌, List, Some, slice_get}
use Rattle.tv_field.specs.Entry.{Entry}
use Rattle.tv_field.specs.declared.field_type.FieldType.{FieldType}
use Rattle.tv_indexing.specs.IndexedField.{JsonOrPlain}
use Rattle.tv_indexing.specs.declared.text_terms_error.TextTermsError.{TextTermsError}
use Rattle.tv_indexing.specs.declared.text_terms_error.TextTermsError.TheVariants.{Backwards, UnknownPath}
use Rattle.tv_indexing.specs.declared.text_terms_error.TextTermsError.TheVariants.{WrongRange, WrongText}

-- it repeats the start of a path or of a text
abbrev pub RepeatsStart : TextTermsError → Type 0
RepeatsStart (UnknownPath start) = Unit {0}
RepeatsStart (WrongText field type why start) = Unit {0}
RepeatsStart (WrongRange start) = Unit {0}
RepeatsStart error = ⊥

-- Such a refusal does. Bounds that run backwards do where their terms are compared: in JSON objects texts
-- are.
abbrev pub TakesMemoryIn : FieldType → TextTermsError → Type 0
TakesMemoryIn type (Backwards field) = JsonOrPlain type (λ expand_dots. ⊥) (Unit {0})
TakesMemoryIn type error = RepeatsStart error

-- the same, in the field that the error names
abbrev pub TakesMemory : List Entry → TextTermsError → Type 0
TakesMemory schema (Backwards field) = (entry : Entry) → slice_get schema field.id ≡ Some entry
    → TakesMemoryIn entry.field_type (Backwards field)
TakesMemory schema error = RepeatsStart error
