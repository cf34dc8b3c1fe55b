-- A text describes one schema, or is refused in one way, and a path names one field by it.
use Rattle.std.proofs.Common.{◌≡◌, ◌∙◌, ℕ, List, Ok, Err, Option, None, Some, refl, sym, ap, subst, arith, length, drop, length-drop}
use Rattle.serde_json.specs.Data.{Data}
use Rattle.tv_blocks.proofs.OneContent.{schema_one}
use Rattle.tv_blocks.specs.Alike.{HasOneAnswer, IsDecided}
use Rattle.tv_blocks.specs.Fields.{FindsAmong, FindsInText, IsPathAnswer}
use Rattle.tv_blocks.specs.Refusals.{IsSchemaRefusal, IsUnfound}
use Rattle.tv_blocks.specs.Schemas.{IsRefusedSchema}
use Rattle.tv_blocks.specs.declared.block_error.BlockError.{BlockError}
use Rattle.tv_blocks.specs.declared.block_error.BlockError.TheVariants as errors
use Rattle.tv_blocks.specs.declared.field_path.FoundField.{FoundField}
use Rattle.tv_field.specs.Entry.{Entry}
use Rattle.tv_lines.specs.Answers.{IsJson, ReadsSchema}
use Rattle.tv_schema.specs.SchemaJsonReading.{plain, schema_by_key, schema_of}
use Rattle.tv_schema.specs.declared.json.error.SchemaJsonError.{SchemaJsonError}
use Rattle.tv_schema.specs.declared.json.error.SchemaJsonError.TheVariants.{BadKey, Refused, Other}

-- ---- schemas

abbrev pub told : SchemaJsonError → BlockError
told (BadKey entry key) = errors.BadSchemaKey entry key
told (Refused entry error) = errors.BadSchemaEntry entry error
told (Other error) = errors.BadSchema error

-- why a text describes no schema
pub data SchemaFault (text : List ℕ) (error : BlockError) : Type 0 where
  no_json : ((value : Data) → ¬ IsJson text value) → error ≡ errors.InvalidJson → SchemaFault text error
  no_schema : (value : Data) (why : SchemaJsonError) → IsJson text value → schema_by_key value ≡ Err why → error ≡ told why → SchemaFault text error

pub schema_fault : (text : List ℕ) (error : BlockError) → IsSchemaRefusal text error → SchemaFault text error
schema_fault text errors.InvalidJson h = no_json h refl
schema_fault text (errors.BadSchemaKey entry key) h = no_schema h.0 (BadKey entry key) h.1 h.2 refl
schema_fault text (errors.BadSchemaEntry entry error) h = no_schema h.0 (Refused entry error) h.1 h.2 refl
schema_fault text (errors.BadSchema error) h = no_schema h.0 (Other error) h.1 h.2 refl
schema_fault text error h = absurd h

pub schema_fault_one : (text : List ℕ) (one other : BlockError) → SchemaFault text one → SchemaFault text other → one ≡ other
schema_fault_one text one other (no_json missing is) (no_json neither too) = is ∙ sym too
schema_fault_one text one other (no_json missing is) (no_schema value why json says too) = absurd (missing value json)
schema_fault_one text one other (no_schema value why json says is) (no_json missing too) = absurd (missing value json)
schema_fault_one text one other (no_schema value why json says is) (no_schema twin reason other_json tells too) =
    let same : why ≡ reason = cc (json.1, other_json.1, says, tells) in is ∙ ap told same ∙ sym too

pub schema_apart : (text : List ℕ) (schema : List Entry) (error : BlockError) → ReadsSchema text schema → SchemaFault text error → ⊥
schema_apart text schema error h (no_json missing is) = missing h.0 h.1
schema_apart text schema error h (no_schema value why json says is) =
    let same : h.0 ≡ value = cc (h.1.1, json.1) in
    let both : plain (Err why) ≡ Ok schema = ap plain (sym says) ∙ ap schema_of (sym same) ∙ h.2 in
    absurd (cc (both))

refused_text : (text : List ℕ) (error : BlockError) → IsDecided error → IsRefusedSchema text error → SchemaFault text error
refused_text text errors.Memory decided h = absurd decided
refused_text text error decided h = schema_fault text error h

pub schema_answer : (text : List ℕ) → HasOneAnswer (ReadsSchema text) (IsRefusedSchema text)
schema_answer text = record {
  answer = λ one other h k. schema_one text one other h k;
  error = λ one other decided too h k. schema_fault_one text one other (refused_text text one decided h) (refused_text text other too k);
  apart = λ one error decided h k. schema_apart text one error h (refused_text text error decided k);
}

-- ---- paths

unfound_one : (entries : List Entry) (path : List ℕ) (one other : BlockError) → IsUnfound entries path one → IsUnfound entries path other → one ≡ other
unfound_one entries path errors.NotUtf8 errors.NotUtf8 h k = refl
unfound_one entries path errors.NoField errors.NoField h k = refl
unfound_one entries path errors.NotUtf8 errors.NoField h k = absurd (h k.0)
unfound_one entries path errors.NoField errors.NotUtf8 h k = absurd (k h.0)
unfound_one entries path errors.NotUtf8 other h k = absurd k
unfound_one entries path errors.NoField other h k = absurd k
unfound_one entries path one other h k = absurd h

unfound_apart : (entries : List Entry) (path : List ℕ) (found : FoundField) (error : BlockError) → FindsAmong entries path found → IsUnfound entries path error → ⊥
unfound_apart entries path found errors.NotUtf8 h k = k h.utf8
unfound_apart entries path found errors.NoField h k = let is = h.named in let missing = k.1 in absurd (cc (is, missing))
unfound_apart entries path found error h k = k

abbrev field_in : Option (ℕ × List ℕ) → ℕ
field_in None = 0
field_in (Some found) = found.0

abbrev left_in : Option (ℕ × List ℕ) → ℕ
left_in None = 0
left_in (Some found) = length found.1

found_one : (entries : List Entry) (path : List ℕ) (one other : FoundField) → FindsAmong entries path one → FindsAmong entries path other → one ≡ other
found_one entries path one other h k =
    let both = sym h.named ∙ k.named in
    let field : one.field ≡ other.field = ap field_in both in
    let left : length (drop one.rest path) ≡ length (drop other.rest path) = ap left_in both in
    let rest : one.rest ≡ other.rest = omega (arith, h.within, k.within, length-drop one.rest path, length-drop other.rest path, left) in
    λ i. record { field = field i; rest = rest i }

-- why a path names no field by the schema that a text describes
data PathFault (schema path : List ℕ) (error : BlockError) : Type 0 where
  unread : SchemaFault schema error → PathFault schema path error
  unfound : (entries : List Entry) → ReadsSchema schema entries → IsUnfound entries path error → PathFault schema path error

path_fault : (schema path : List ℕ) (error : BlockError) → IsDecided error → IsPathAnswer schema path error → PathFault schema path error
path_fault schema path errors.Memory decided h = absurd decided
path_fault schema path errors.NotUtf8 decided h = unfound h.0 h.1 h.2
path_fault schema path errors.NoField decided h = unfound h.0 h.1 h.2
path_fault schema path error decided h = unread (schema_fault schema error h)

path_fault_one : (schema path : List ℕ) (one other : BlockError) → PathFault schema path one → PathFault schema path other → one ≡ other
path_fault_one schema path one other (unread h) (unread k) = schema_fault_one schema one other h k
path_fault_one schema path one other (unread h) (unfound entries reads k) = absurd (schema_apart schema entries one reads h)
path_fault_one schema path one other (unfound entries reads h) (unread k) = absurd (schema_apart schema entries other reads k)
path_fault_one schema path one other (unfound entries reads h) (unfound twins read k) =
    unfound_one twins path one other (subst (λ (es : List Entry). IsUnfound es path one) (schema_one schema entries twins reads read) h) k

path_apart : (schema path : List ℕ) (found : FoundField) (error : BlockError) → FindsInText schema path found → PathFault schema path error → ⊥
path_apart schema path found error h (unread k) = schema_apart schema h.0 error h.1 k
path_apart schema path found error h (unfound entries reads k) =
    unfound_apart entries path found error (subst (λ (es : List Entry). FindsAmong es path found) (schema_one schema h.0 entries h.1 reads) h.2) k

pub path_answer : (schema path : List ℕ) → HasOneAnswer (FindsInText schema path) (IsPathAnswer schema path)
path_answer schema path = record {
  answer = λ one other h k. found_one k.0 path one other (subst (λ (es : List Entry). FindsAmong es path one) (schema_one schema h.0 k.0 h.1 k.1) h.2) k.2;
  error = λ one other decided too h k. path_fault_one schema path one other (path_fault schema path one decided h) (path_fault schema path other too k);
  apart = λ one error decided h k. path_apart schema path one error h (path_fault schema path error decided k);
}
