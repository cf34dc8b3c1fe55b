-- What two reads of the same bytes agree in.
use Rattle.std.specs.Prelude.{◌≡◌, List, ℕ, String, string_bytes, Vec}
use Rattle.std.specs.declared.alloc.Global.{Global}
use Rattle.tv_base.specs.Parts.{Begins}
use Rattle.tv_format.specs.Tree.{Tree}
use Rattle.tv_format.specs.Version.{Version}
use Rattle.tv_reader.specs.declared.error.DeserializeError.{DeserializeError}
use Rattle.tv_typed.specs.Documents.{EncodesField}
use Rattle.tv_typed.specs.Lists.{ArrayOf, EncodesEntry, EncodesInto, IsListOf, ObjectOf}
use Rattle.tv_typed.specs.Values.{EncodesAs}
use Rattle.tv_value.specs.declared.field.Field.{Field}

-- both values are read of one tree, and the same bytes are left
pub record AgreeIn {X : Type 0} (is : Tree → X → Type 0) (first second : X) (rest other : List ℕ) :
    Type 0 where
  pub tree : Tree
  pub of_first : is tree first
  pub of_second : is tree second
  pub same_rest : rest ≡ other

-- two values at the front of the same bytes agree
abbrev pub ValuesAgree : {X : Type 0} → (Tree → X → Type 0) → Type 0
ValuesAgree {X} is =
    (version : Version) (bytes rest other : List ℕ) (first second : X)
    → Begins (λ part. EncodesAs is version part first) bytes rest
    → Begins (λ part. EncodesAs is version part second) bytes other → AgreeIn is first second rest other

-- two keys with values at the front of the same bytes have one key, and their values agree
abbrev pub EntriesAgree : {X : Type 0} → (Tree → X → Type 0) → Type 0
EntriesAgree {X} is =
    (version : Version) (bytes rest other : List ℕ) (first second : String Global × X)
    → Begins (λ part. EncodesEntry is version part first) bytes rest
    → Begins (λ part. EncodesEntry is version part second) bytes other
    → (string_bytes first.0 ≡ string_bytes second.0) × AgreeIn is first.1 second.1 rest other

-- two fields with values at the front of the same bytes are one field, and their values agree
abbrev pub FieldsAgree : {X : Type 0} → (Tree → X → Type 0) → Type 0
FieldsAgree {X} is =
    (version : Version) (bytes rest other : List ℕ) (first second : Field × X)
    → Begins (λ part. EncodesField is version part first) bytes rest
    → Begins (λ part. EncodesField is version part second) bytes other
    → (first.0.id ≡ second.0.id) × AgreeIn is first.1 second.1 rest other

-- two lists of this many values at the front of the same bytes are read of one array
abbrev pub ListsAgree : {X : Type 0} → (Tree → X → Type 0) → Type 0
ListsAgree {X} is =
    (version : Version) (count : ℕ) (bytes rest other : List ℕ) (first second : Vec X Global)
    → Begins (λ part. EncodesInto IsListOf (EncodesAs is version) count part first) bytes rest
    → Begins (λ part. EncodesInto IsListOf (EncodesAs is version) count part second) bytes other
    → AgreeIn (λ tree list. ArrayOf is tree list.items) first second rest other

-- two lists of this many keys with values at the front of the same bytes are read of one object
abbrev pub ObjectsAgree : {X : Type 0} → (Tree → X → Type 0) → Type 0
ObjectsAgree {X} is =
    (version : Version) (count : ℕ) (bytes rest other : List ℕ)
    (first second : Vec (String Global × X) Global)
    → Begins (λ part. EncodesInto IsListOf (EncodesEntry is version) count part first) bytes rest
    → Begins (λ part. EncodesInto IsListOf (EncodesEntry is version) count part second) bytes other
    → AgreeIn (λ tree list. ObjectOf is tree list.items) first second rest other

-- What is read of bytes and left of them is determined by them, and so is why nothing is read.
pub record AreDetermined {X : Type 0} (Encodes : List ℕ → X → Type 0)
    (HasError : List ℕ → DeserializeError → Type 0) : Type 0 where
  pub one_value : (bytes rest other : List ℕ) (first second : X)
      → Begins (λ part. Encodes part first) bytes rest → Begins (λ part. Encodes part second) bytes other
      → (first ≡ second) × (rest ≡ other)
  pub not_both : (bytes rest : List ℕ) (value : X) (error : DeserializeError)
      → Begins (λ part. Encodes part value) bytes rest → HasError bytes error → ⊥
  pub one_error : (bytes : List ℕ) (error other : DeserializeError) → HasError bytes error
      → HasError bytes other → error ≡ other
