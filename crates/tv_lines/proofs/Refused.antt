-- What is answered for a schema that is refused.
use Rattle.std.proofs.Common.{◌≡◌, ◌≢◌, ℕ, List, [], ◌∷◌, ◌++◌, Some, None, Err, refl, sym, ◌∙◌}
use lib.Chars.{codes}
use Rattle.std.specs.Prelude.{IsUtf8}
use Rattle.serde_json.specs.Data.{Data}
use Rattle.serde_json.specs.Read.{read}
use Rattle.tv_lines.specs.Answers.{IsJson, schema_error_name, SchemaRefusal}
use Rattle.tv_lines.specs.Answers.SchemaRefusal.{no_json, no_schema, no_memory}
use Rattle.tv_lines.specs.Run.{IsEnded}
use Rattle.tv_schema.specs.SchemaJsonReading.{schema_of}
use Rattle.tv_field.specs.declared.field_entry.SchemaError.{SchemaError}
use Rattle.tv_field.specs.declared.field_entry.SchemaError.TheVariants as errors

pub no_text : (line : List ℕ) → ¬ IsUtf8 line → IsEnded (SchemaRefusal line) (codes "error InvalidJson" ++ 10 ∷ [])
no_text line none = (codes "error InvalidJson", no_json (λ value is. none is.0) refl, refl)

some_not_none : {A : Type 0} {x : A} → Some x ≡ None → ⊥
some_not_none e = cc

pub not_read : (line : List ℕ) → read line ≡ None → IsEnded (SchemaRefusal line) (codes "error InvalidJson" ++ 10 ∷ [])
not_read line none = (codes "error InvalidJson", no_json (λ value is. some_not_none (sym is.1 ∙ none)) refl, refl)

pub not_kept : (line : List ℕ) → IsEnded (SchemaRefusal line) (codes "error Memory" ++ 10 ∷ [])
not_kept line = (codes "error Memory", no_memory refl, refl)

named : (line : List ℕ) (value : Data) (e : SchemaError) (text : List ℕ) → IsJson line value → schema_of value ≡ Err e → text ≡ codes "error " ++ schema_error_name e ++ 10 ∷ [] → IsEnded (SchemaRefusal line) text
named line value e text is refused same = (codes "error " ++ schema_error_name e, no_schema value e is refused refl, same)

pub not_described : (line : List ℕ) (value : Data) (e : SchemaError) (text : List ℕ) → IsJson line value → (e ≢ errors.Memory → schema_of value ≡ Err e)
    → text ≡ codes "error " ++ schema_error_name e ++ 10 ∷ [] → IsEnded (SchemaRefusal line) text
not_described line value errors.Memory text is refused same = (codes "error Memory", no_memory refl, same)
not_described line value errors.InvalidName text is refused same = named line value _ text is (refused (λ e. cc)) same
not_described line value errors.DuplicateName text is refused same = named line value _ text is (refused (λ e. cc)) same
not_described line value errors.TooManyFields text is refused same = named line value _ text is (refused (λ e. cc)) same
not_described line value errors.FieldNotFound text is refused same = named line value _ text is (refused (λ e. cc)) same
not_described line value (errors.BadJson entry) text is refused same = named line value _ text is (refused (λ e. cc)) same
not_described line value (errors.FloatField entry) text is refused same = named line value _ text is (refused (λ e. cc)) same
