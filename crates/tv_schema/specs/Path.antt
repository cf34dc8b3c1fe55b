-- The field that a path names. 46 is the dot.
use Rattle.std.specs.Prelude.{ℕ, suc, zero, ◌+◌, ◌==◌, ◌&&◌, ◌||◌, Bool, true, false, if◌then◌else◌, List, []}
use Rattle.std.specs.Prelude.{length, take, drop, slice_index, slice_get, Option, None, Some}
use Rattle.std.specs.Option.{option_or, option_map, option_and_then, option_map_or}
use Rattle.tv_base.specs.Escapes.{is_unescaped, without_escapes}
use Rattle.tv_field.specs.Entry.{Entry}
use Rattle.tv_schema.specs.Schema.{field_named}
use Rattle.tv_field.specs.declared.field_type.FieldType.{FieldType}
use Rattle.tv_field.specs.declared.field_type.FieldType.TheVariants as types

-- a dot that isn't taken by a backslash
abbrev pub is_splitting_dot : List ℕ → ℕ → Bool
is_splitting_dot path place = (slice_index path place == 46) && is_unescaped path place

-- the field whose name is the prefix, or else the prefix without its escapes
abbrev pub field_of_prefix : List Entry → List ℕ → Option ℕ
field_of_prefix schema prefix = option_or (field_named schema prefix)
    (field_named schema (without_escapes prefix))

-- the field of the prefix and the text after, where an unescaped dot parts them
abbrev pub parted_at : List Entry → List ℕ → ℕ → Option (ℕ × List ℕ)
parted_at schema path place =
    if is_splitting_dot path place then option_map (λ field. (field, drop (place + 1) path))
    (field_of_prefix schema (take place path))
    else None

-- what is given at the last place below n at which something is
abbrev pub last_given : {A : Type 0} → (ℕ → Option A) → ℕ → Option A
last_given give zero = None
last_given give (suc n) = option_or (give n) (last_given give n)

-- The field that the path names, and the rest of the path: where the path is a name, that field and nothing;
-- else what the
-- last unescaped dot parts whose prefix names a field.
abbrev pub find : List Entry → List ℕ → Option (ℕ × List ℕ)
find schema path =
    option_or (option_map (λ field. (field, [])) (field_named schema path))
    (last_given (parted_at schema path) (length path))

abbrev pub is_json_type : FieldType → Bool
is_json_type (types.JsonObject options) = true
is_json_type other = false

-- whether the field is of JSON objects
abbrev pub is_json : List Entry → ℕ → Bool
is_json schema field = option_map_or (λ entry. is_json_type entry.field_type) (slice_get schema field) false

-- a rest that isn't empty is for fields of JSON objects alone
abbrev pub for_json : List Entry → ℕ × List ℕ → Option (ℕ × List ℕ)
for_json schema found = if (length found.1 == 0) || is_json schema found.0 then Some found else None

-- what the path names, or else the default with the whole path
abbrev pub find_or : List Entry → List ℕ → Option ℕ → Option (ℕ × List ℕ)
find_or schema path default = option_and_then (for_json schema)
    (option_or (find schema path) (option_map (λ field. (field, path)) default))
