-- A JSON object as a document, where each key names a field, and none stands twice.
--
-- The words of the public contracts:
-- `ParsesStrictDocument`: the document of a text. `parses`: it is that of the object that the text encodes,
-- and each of the object's own keys names a field, and none stands twice; or the first key from the left that
-- names none or stood before is refused, by its first 40 characters; or the text is refused as `Parses` says.
-- `belongs`: each of the document's pairs has a field of the schema.
-- `ParsesStrictInto`: the same in the place of a document. `parses` and `belongs`: where the call returns no
-- error, what is left in the place is the document of the text. `none`: where it returns an error, no pair is
-- left in the place.
use Rattle.std.specs.Prelude.{◌≡◌, ◌≢◌, ℕ, List, [], ◌∷◌, ◌++◌, Some, None, IsSome, Result, Ok, Err, IfOk}
use Rattle.std.specs.Prelude.{OnOk, OnErr, All, AllPairs, Contains, string_bytes}
use Rattle.std.specs.Fmt.{take_chars}
use Rattle.json.specs.Json as written
use Rattle.json.specs.Lex.{tokens}
use Rattle.serde_json.specs.Data as json
use Rattle.serde_json.specs.Read.{max_depth, read}
use Rattle.tv_field.specs.Entry.{Entry}
use Rattle.tv_schema.specs.Schema.{field_named}
use Rattle.tv_doc.specs.Belongs.{Belongs}
use Rattle.tv_doc.specs.Document.{document_of}
use Rattle.tv_doc.specs.InPlace.{in_place}
use Rattle.tv_doc.specs.JsonObject.{Parses}
use Rattle.tv_doc.specs.declared.errors.DocParsingError.TheVariants as error
use Rattle.tv_doc.specs.declared.document.CompactDoc.{CompactDoc}
use Rattle.tv_doc.specs.declared.errors.StrictParsingError.{StrictParsingError}
use Rattle.tv_doc.specs.declared.errors.StrictParsingError.TheVariants.{Parsing, UnknownKey, RepeatedKey}

-- the keys of an object's members, each as often as it stands, from left to right
abbrev pub keys_of : written.Members → List (List ℕ)
keys_of written.no_members = []
keys_of (written.member key value others) = key ∷ keys_of others

-- the text encodes a JSON object
abbrev pub IsObject : List ℕ → Type 0
IsObject text = (members : json.Members) × (read text ≡ Some (json.object members))

-- The text encodes a JSON object, and these are its own keys as they stand in the text, not those of objects
-- within it.
pub record HasKeys (text : List ℕ) (keys : List (List ℕ)) : Type 0 where
  pub is_object : IsObject text
  pub members : written.Members
  pub stand : written.value max_depth (tokens text) ≡ Some (written.object members, [])
  pub are_theirs : keys ≡ keys_of members

-- the text encodes a JSON object, of whose own keys this is so
abbrev pub OfItsKeys : List ℕ → (List (List ℕ) → Type 0) → Type 0
OfItsKeys text P = (keys : List (List ℕ)) × HasKeys text keys × P keys

-- each key names a field, and none stands twice
pub record NameFieldsOnce (schema : List Entry) (keys : List (List ℕ)) : Type 0 where
  pub named : All (λ key. IsSome (field_named schema key)) keys
  pub once : AllPairs (λ one later. one ≢ later) keys

-- this key comes after these ones, each of which names a field, and none of which stands twice
pub record ComesBehind (schema : List Entry) (before : List (List ℕ)) (key : List ℕ)
    (keys : List (List ℕ)) : Type 0 where
  pub behind : List (List ℕ)
  pub joined : keys ≡ before ++ key ∷ behind
  pub accepted : NameFieldsOnce schema before

-- The first key that is refused names no field.
pub record FirstIsUnknown (schema : List Entry) (start : List ℕ) (keys : List (List ℕ)) : Type 0 where
  pub before : List (List ℕ)
  pub key : List ℕ
  pub comes : ComesBehind schema before key keys
  pub unknown : field_named schema key ≡ None
  pub told : start ≡ take_chars 40 key

-- The first key that is refused is one of those before it.
pub record FirstIsRepeated (schema : List Entry) (start : List ℕ) (keys : List (List ℕ)) : Type 0 where
  pub before : List (List ℕ)
  pub key : List ℕ
  pub comes : ComesBehind schema before key keys
  pub repeated : Contains before key
  pub told : start ≡ take_chars 40 key

-- The document is that of the object that the text encodes, whose keys name fields, each once; or the text is
-- refused: where it is no object, as it is where keys are skipped; else for the first key that is refused,
-- and where none is, for a value. Memory may be refused at any time.
abbrev pub ParsesStrictly : List Entry → List ℕ → Result CompactDoc StrictParsingError → Type 0
ParsesStrictly schema text (Ok made) = Parses schema text (Ok made) × OfItsKeys text (NameFieldsOnce schema)
ParsesStrictly schema text (Err (UnknownKey start)) =
    OfItsKeys text (FirstIsUnknown schema (string_bytes start))
ParsesStrictly schema text (Err (RepeatedKey start)) =
    OfItsKeys text (FirstIsRepeated schema (string_bytes start))
ParsesStrictly schema text (Err (Parsing error.Memory)) = Unit {0}
ParsesStrictly schema text (Err (Parsing (error.InvalidJson start))) =
    Parses schema text (Err (error.InvalidJson start))
ParsesStrictly schema text (Err (Parsing e)) = Parses schema text (Err e)
    × OfItsKeys text (NameFieldsOnce schema)

-- ---- the words of the public contracts

-- the document of a text whose keys name fields, each once
pub record ParsesStrictDocument (schema : List Entry) (text : List ℕ)
    (result : Result CompactDoc StrictParsingError) : Type 0 where
  pub parses : ParsesStrictly schema text result
  pub belongs : IfOk result (λ made. Belongs schema (document_of made))

-- the same in the place of a document, where an error leaves no pair
pub record ParsesStrictInto (schema : List Entry) (text : List ℕ) (new : CompactDoc)
    (result : Result (Unit {0}) StrictParsingError) : Type 0 where
  pub parses : ParsesStrictly schema text (in_place result new)
  pub belongs : OnOk result (Belongs schema (document_of new))
  pub none : OnErr result (document_of new ≡ [])
