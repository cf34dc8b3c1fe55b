-- A schema as the list of its entries.
use Rattle.std.specs.Prelude.{ℕ, ◌+◌, ◌<◌, ◌^◌, ◌≢◌, if◌then◌else◌, List, [], ◌∷◌, length, Option, None, Some}
use Rattle.std.specs.Prelude.{is_some, not, ◌==◌, ◌≡◌, ◌++◌, Result, Ok, Err, All, AllPairs}
use Rattle.std.specs.Str.{bytes_eq}
use Rattle.tv_field.specs.Entry.{Entry, IsValidName, is_valid_name}
use Rattle.tv_value.specs.declared.field.Field.{Field}
use Rattle.tv_field.specs.declared.field_type.FieldType.{FieldType}
use Rattle.tv_field.specs.declared.field_entry.SchemaError.{SchemaError}
use Rattle.tv_field.specs.declared.field_entry.SchemaError.TheVariants.{InvalidName, DuplicateName}
use Rattle.tv_field.specs.declared.field_entry.SchemaError.TheVariants.{TooManyFields, Memory}

-- names are valid and distinct, and each has a number of 32 bits
pub record IsSchema (schema : List Entry) : Type 0 where
  pub valid : All (λ entry. IsValidName entry.name) schema
  pub distinct : AllPairs (λ one other. one.name ≢ other.name) schema
  pub in_32_bits : length schema < 2 ^ 32

-- the place of the name among the names, counted from n
abbrev pub place_from : ℕ → List Entry → List ℕ → Option ℕ
place_from n [] name = None
place_from n (entry ∷ entries) name = if bytes_eq entry.name name then Some n
    else place_from (n + 1) entries name

-- the number of the field with the name
abbrev pub field_named : List Entry → List ℕ → Option ℕ
field_named schema name = place_from 0 schema name

-- why no field of the name is added, whatever memory there is
abbrev pub refusal : List Entry → List ℕ → Option SchemaError
refusal schema name =
    if not (is_valid_name name) then Some InvalidName
    else (if is_some (field_named schema name) then Some DuplicateName
    else (if length schema == 4294967295 then Some TooManyFields
    else None))

-- the entry is the new last one, unless it is refused or there is no memory, and then all stays as it was
abbrev pub AddsField : List Entry → List Entry → Entry → Result Field SchemaError → Type 0
AddsField old new entry (Ok field) = (refusal old entry.name ≡ None) × (field.id ≡ length old)
    × (new ≡ old ++ entry ∷ [])
AddsField old new entry (Err Memory) = (refusal old entry.name ≡ None) × (new ≡ old)
AddsField old new entry (Err error) = (refusal old entry.name ≡ Some error) × (new ≡ old)

-- the same of an entry of this name, whose type has options that the given ones convert into
abbrev pub AddsWith : {T O : Type 0} → (T → O → Type 0) → T → (O → FieldType) → List Entry → List Entry
    → List ℕ → Result Field SchemaError → Type 0
AddsWith {O = O} converts given type_of old new name result =
    (options : O) × converts given options × AddsField old new
    (record { name = name; field_type = type_of options }) result
