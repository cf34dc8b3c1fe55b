-- The field that a path of a query names, where it is indexed.
use Rattle.std.specs.Prelude.{◌≡◌, ◌≢◌, ℕ, List, [], Bool, slice_get, true, false, Some, None, Result, Ok}
use Rattle.std.specs.Prelude.{Err, String, string_bytes}
use Rattle.std.specs.Fmt.{take_chars}
use Rattle.std.specs.declared.alloc.Global.{Global}
use Rattle.tv_field.specs.Entry.{Entry, is_indexed_type}
use Rattle.tv_field.specs.declared.field_type.FieldType.{FieldType}
use Rattle.tv_field.specs.declared.field_type.FieldType.TheVariants as types
use Rattle.tv_indexing.specs.DocumentTerms.{has_zero}
use Rattle.tv_indexing.specs.declared.text_terms_error.TextTermsError.{TextTermsError}
use Rattle.tv_indexing.specs.declared.text_terms_error.TextTermsError.TheVariants.{NotIndexed, NulInPath}
use Rattle.tv_indexing.specs.declared.text_terms_error.TextTermsError.TheVariants.{PathEnds, UnknownPath}
use Rattle.tv_schema.specs.Path.{find_or}
use Rattle.tv_value.specs.declared.field.Field.{Field}

-- what a refusal repeats of a text or a path: its first 40 characters
abbrev pub IsStartOf : List ℕ → String Global → Type 0
IsStartOf text start = string_bytes start ≡ take_chars 40 text

-- what a path names: a field, the field's type, and the rest of the path, which is after the field's name
pub record FoundField : Type 0 where
  pub field : Field
  pub type : FieldType
  pub rest : List ℕ

-- the path names it
pub record Names (schema : List Entry) (path : List ℕ) (at : FoundField) : Type 0 where
  pub found : find_or schema path None ≡ Some (at.field.id, at.rest)
  pub entry : Entry
  pub is_entry : slice_get schema at.field.id ≡ Some entry
  pub has_type : entry.field_type ≡ at.type

-- the error for a path that names no field
abbrev pub IsUnknownPath : List ℕ → TextTermsError → Type 0
IsUnknownPath path (UnknownPath start) = IsStartOf path start
IsUnknownPath path why = ⊥

-- What there is at a path below a field of JSON objects: the path is empty or has U+0000, or there is what a
-- path that is neither has.
abbrev pub BelowJson : {T : Type 0} → (Result T TextTermsError → Type 0) → Field → List ℕ
    → Result T TextTermsError → Type 0
BelowJson Answers field path (Err (PathEnds other)) = (other ≡ field) × (path ≡ [])
BelowJson Answers field path (Err (NulInPath other)) = (other ≡ field) × (has_zero path ≡ true)
BelowJson Answers field path answer = (path ≢ []) × (has_zero path ≡ false) × Answers answer

-- what holds of a field of JSON objects, by whether dots part its keys, or of one of another type
abbrev pub JsonOrPlain : FieldType → (Bool → Type 0) → Type 0 → Type 0
JsonOrPlain (types.JsonObject options) Json Plain = Json options.part.expand_dots_enabled
JsonOrPlain type Json Plain = Plain

-- it names none, or one that isn't indexed
pub data RefusesPath (schema : List Entry) (path : List ℕ) (why : TextTermsError) : Type 0 where
  unknown : find_or schema path None ≡ None → IsUnknownPath path why → RefusesPath schema path why
  not_indexed : (at : FoundField) → Names schema path at → is_indexed_type at.type ≡ false
      → why ≡ NotIndexed at.field → RefusesPath schema path why

-- What there is at a path, of which an error is one of another kind: it is refused, or there is what there is
-- in the field that it names.
pub data AtPathAs {T E : Type 0} (error : TextTermsError → E) (Answers : FoundField → Result T E → Type 0)
    (schema : List Entry) (path : List ℕ) (answer : Result T E) : Type 0 where
  refused : (why : TextTermsError) → RefusesPath schema path why → answer ≡ Err (error why)
      → AtPathAs error Answers schema path answer
  indexed : (at : FoundField) → Names schema path at → is_indexed_type at.type ≡ true → Answers at answer
      → AtPathAs error Answers schema path answer

abbrev pub AtPath : {T : Type 0} → (FoundField → Result T TextTermsError → Type 0) → List Entry → List ℕ
    → Result T TextTermsError → Type 0
AtPath Answers schema path answer = AtPathAs (λ why. why) Answers schema path answer

-- the field itself
abbrev pub FindsField : List Entry → List ℕ → Result FoundField TextTermsError → Type 0
FindsField schema path answer = AtPath (λ at found. found ≡ Ok at) schema path answer
