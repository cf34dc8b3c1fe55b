-- Which fields the keys of an object named so far, for private clauses.
use Rattle.std.specs.Prelude.{◌≡◌, ℕ, List, length, Bool, true, false, Some, None, Result, Ok, Err, All}
use Rattle.std.specs.Prelude.{Contains, slice_get, slice_set, string_bytes}
use Rattle.std.specs.Fmt.{take_chars}
use Rattle.tv_field.specs.Entry.{Entry}
use Rattle.tv_schema.specs.Schema.{field_named}
use Rattle.tv_doc.specs.StrictJson.{NameFieldsOnce, FirstIsUnknown, FirstIsRepeated, ParsesStrictly}
use Rattle.tv_doc.specs.InPlace.{in_place}
use Rattle.tv_doc.specs.JsonObject.{Parses}
use Rattle.tv_doc.specs.declared.errors.DocParsingError.{DocParsingError}
use Rattle.tv_doc.specs.declared.errors.DocParsingError.TheVariants as error
use Rattle.tv_doc.specs.declared.document.CompactDoc.{CompactDoc}
use Rattle.tv_doc.specs.declared.errors.StrictParsingError.{StrictParsingError}
use Rattle.tv_doc.specs.declared.errors.StrictParsingError.TheVariants.{Parsing, UnknownKey, RepeatedKey}

-- the fields that these keys name are noted, by their numbers, and no others
pub record AreNoted (schema : List Entry) (keys : List (List ℕ)) (noted : List Bool) : Type 0 where
  pub each : All (λ key. (field : ℕ) × (field_named schema key ≡ Some field)
      × (slice_get noted field ≡ Some true)) keys
  pub only : (field : ℕ) → slice_get noted field ≡ Some true → (key : List ℕ) × Contains keys key
      × (field_named schema key ≡ Some field)
  pub as_many : length noted ≡ length schema

-- the field that a key names is noted, or the key is refused
abbrev pub NotesKey : List Entry → List ℕ → List Bool → List Bool → Result (Unit {0}) StrictParsingError
    → Type 0
NotesKey schema key old new (Ok x) = (field : ℕ) × (field_named schema key ≡ Some field)
    × (slice_get old field ≡ Some false) × (new ≡ slice_set old field true)
NotesKey schema key old new (Err (UnknownKey start)) = (field_named schema key ≡ None)
    × (string_bytes start ≡ take_chars 40 key)
NotesKey schema key old new (Err (RepeatedKey start)) = (field : ℕ) × (field_named schema key ≡ Some field)
    × (slice_get old field ≡ Some true) × (string_bytes start ≡ take_chars 40 key)
NotesKey schema key old new (Err (Parsing error.Memory)) = Unit {0}
NotesKey schema key old new (Err (Parsing e)) = ⊥

-- all of these keys name fields, each once, or the first that is refused is reported
abbrev pub ChecksKeys : List Entry → Result (Unit {0}) StrictParsingError → List (List ℕ) → Type 0
ChecksKeys schema (Ok x) keys = NameFieldsOnce schema keys
ChecksKeys schema (Err (UnknownKey start)) keys = FirstIsUnknown schema (string_bytes start) keys
ChecksKeys schema (Err (RepeatedKey start)) keys = FirstIsRepeated schema (string_bytes start) keys
ChecksKeys schema (Err (Parsing error.Memory)) keys = Unit {0}
ChecksKeys schema (Err (Parsing e)) keys = ⊥

-- the error is that of a value, so that the text is an object
abbrev pub is_of_value : DocParsingError → Bool
is_of_value (error.InvalidJson start) = false
is_of_value (error.ValueError name e) = true
is_of_value (error.Add e) = true
is_of_value error.Memory = false

-- what the text's strict reading is, where this is its reading
abbrev pub ParsesStrictlyAfter : List Entry → List ℕ → Result (Unit {0}) DocParsingError
    → Result (Unit {0}) StrictParsingError → Type 0
ParsesStrictlyAfter schema text parsed r = (document : CompactDoc)
    → Parses schema text (in_place parsed document) → ParsesStrictly schema text (in_place r document)
