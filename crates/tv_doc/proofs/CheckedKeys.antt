-- What checking the keys of an object finds.
use Rattle.std.proofs.Common.{◌≡◌, ℕ, Bool, List, [], ◌∷◌, ◌++◌, length, Some, None, Result, Ok, Err, true, refl, sym, ap, ◌∙◌, subst}
use Rattle.std.specs.Result.{result_and}
use Rattle.json.specs.Token.{Token}
use Rattle.json.specs.Lex.{tokens}
use Rattle.json.specs.Json as written
use Rattle.json.specs.Json.{members, value}
use Rattle.serde_json.specs.Read.{max_depth}
use Rattle.tv_field.specs.Entry.{Entry}
use Rattle.tv_doc.specs.NotedFields.{AreNoted, ChecksKeys, NotesKey, ParsesStrictlyAfter, is_of_value}
use Rattle.tv_doc.specs.StrictJson.{IsObject, NameFieldsOnce, OfItsKeys, ParsesStrictly, keys_of}
use Rattle.tv_doc.specs.JsonObject.{Parses}
use Rattle.tv_doc.specs.declared.errors.DocParsingError.{DocParsingError}
use Rattle.tv_doc.specs.declared.errors.DocParsingError.TheVariants as error
use Rattle.tv_doc.specs.declared.errors.StrictParsingError.{StrictParsingError}
use Rattle.tv_doc.specs.declared.errors.StrictParsingError.TheVariants.{Parsing, UnknownKey, RepeatedKey}
use Rattle.tv_doc.proofs.KeysRead.{behind_first, object_written}
use Rattle.tv_doc.proofs.StrictKeys.{is_repeated}

-- the first key that is refused
pub refused_key : (schema : List Entry) (keys before behind : List (List ℕ)) (key : List ℕ) (old new : List Bool) (e : StrictParsingError) → keys ≡ before ++ key ∷ behind → AreNoted schema before old
    → NameFieldsOnce schema before → NotesKey schema key old new (Err e) → ChecksKeys schema (Err e) keys
refused_key schema keys before behind key old new (UnknownKey start) joined noted fine h =
    record { before = before; key = key; comes = record { behind = behind; joined = joined; accepted = fine }; unknown = h.0; told = h.1 }
refused_key schema keys before behind key old new (RepeatedKey start) joined noted fine h = record {
  before = before;
  key = key;
  comes = record { behind = behind; joined = joined; accepted = fine };
  repeated = is_repeated schema before key h.0 old new noted h.1 h.2;
  told = h.3;
}
refused_key schema keys before behind key old new (Parsing error.Memory) joined noted fine h = tt
refused_key schema keys before behind key old new (Parsing (error.InvalidJson start)) joined noted fine h = absurd h
refused_key schema keys before behind key old new (Parsing (error.ValueError name e)) joined noted fine h = absurd h
refused_key schema keys before behind key old new (Parsing (error.Add refused)) joined noted fine h = absurd h

-- what holds of the members' keys holds of the text's
of_members : (text : List ℕ) (P : List (List ℕ) → Type 0) → IsObject text
    → ((found : written.Members) → value max_depth (tokens text) ≡ Some (written.object found, []) → P (keys_of found)) → OfItsKeys text P
of_members text P is h =
    let found = object_written text is.0 is.1 in
    (keys_of found.0, record { is_object = is; members = found.0; stand = found.1; are_theirs = refl }, h found.0 found.1)

pub memory_refused : (schema : List Entry) (text : List ℕ) (e : StrictParsingError) → e ≡ Parsing error.Memory → IsObject text → OfItsKeys text (ChecksKeys schema (Err e))
memory_refused schema text e is object = of_members text (ChecksKeys schema (Err e)) object (λ found stand. subst (λ k. ChecksKeys schema (Err k) (keys_of found)) (sym is) tt)

pub none_read : (text : List ℕ) (P : List (List ℕ) → Type 0) → tokens text ≡ [] → IsObject text → OfItsKeys text P
unfolding value
none_read text P none is =
    of_members text P is (λ found stand. let never : None ≡ Some (written.object found, []) = sym (ap (value max_depth) none) ∙ stand in absurd (cc))

pub read_behind : (schema : List Entry) (text : List ℕ) (t : Token) (ts : List Token) (r : Result (Unit {0}) StrictParsingError) → tokens text ≡ t ∷ ts
    → ((found : written.Members) (rest : List Token) → members (value 126) (length ts) ts ≡ Some (found, rest) → ChecksKeys schema r (keys_of found))
    → IsObject text → OfItsKeys text (ChecksKeys schema r)
read_behind schema text t ts r first h is =
    of_members text (ChecksKeys schema r) is (λ found stand. h found [] (behind_first 126 t ts [] found (sym (ap (value max_depth) first) ∙ stand)))

-- ---- what a refused value is reported after

object_of_value : (schema : List Entry) (text : List ℕ) (e : DocParsingError) → is_of_value e ≡ true → Parses schema text (Err e) → IsObject text
object_of_value schema text (error.InvalidJson start) of h = absurd (cc)
object_of_value schema text (error.ValueError name e) of h = (h.0, h.1)
object_of_value schema text (error.Add refused) of h = (h.0, h.1)
object_of_value schema text error.Memory of h = absurd (cc)

key_refused : (schema : List Entry) (text : List ℕ) (e : StrictParsingError) → OfItsKeys text (ChecksKeys schema (Err e)) → ParsesStrictly schema text (Err e)
key_refused schema text (UnknownKey start) h = h
key_refused schema text (RepeatedKey start) h = h
key_refused schema text (Parsing error.Memory) h = tt
key_refused schema text (Parsing (error.InvalidJson start)) h = absurd h.2
key_refused schema text (Parsing (error.ValueError name e)) h = absurd h.2
key_refused schema text (Parsing (error.Add refused)) h = absurd h.2

value_refused : (schema : List Entry) (text : List ℕ) (e : DocParsingError) → is_of_value e ≡ true → Parses schema text (Err e) → OfItsKeys text (NameFieldsOnce schema) → ParsesStrictly schema text (Err (Parsing e))
value_refused schema text (error.InvalidJson start) of h keys = absurd (cc)
value_refused schema text (error.ValueError name e) of h keys = (h, keys)
value_refused schema text (error.Add refused) of h keys = (h, keys)
value_refused schema text error.Memory of h keys = absurd (cc)

-- A refused key comes before the error of a value.
pub key_before_value : (schema : List Entry) (text : List ℕ) (e : DocParsingError) (checked : Result (Unit {0}) StrictParsingError) → is_of_value e ≡ true
    → (IsObject text → OfItsKeys text (ChecksKeys schema checked)) → ParsesStrictlyAfter schema text (Err e) (result_and checked (Err (Parsing e)))
key_before_value schema text e (Ok x) of h made parsed = value_refused schema text e of parsed (h (object_of_value schema text e of parsed))
key_before_value schema text e (Err k) of h made parsed = key_refused schema text k (h (object_of_value schema text e of parsed))
