-- Arrays and objects whose values are read as those of one type.
use Rattle.std.specs.Prelude.{◌≡◌, ◌≢◌, ◌<◌, ◌≤◌, ℕ, List, [], ◌++◌, length, Option, Some, None, String}
use Rattle.std.specs.Prelude.{string_bytes, bytes_eq, if◌then◌else◌, Bool, true, false, Result, Ok, Err, Vec}
use Rattle.std.specs.List.{AllZip, fold}
use Rattle.std.specs.declared.alloc.Global.{Global}
use Rattle.tv_base.specs.declared.cause.Cause.{Cause}
use Rattle.tv_base.specs.declared.cause.Cause.TheVariants.{OddObject}
use Rattle.tv_base.specs.Number.{VNum}
use Rattle.tv_base.specs.Parts.{Then, Each}
use Rattle.tv_base.specs.ErrorInPart.{InThen, InEach, ErrorInNumber}
use Rattle.tv_format.specs.InputError.{ErrorInKey}
use Rattle.tv_format.specs.Encoding.{Key}
use Rattle.tv_format.specs.Tree.{Tree, array, object, elements, entries}
use Rattle.tv_format.specs.Version.{Version, entry_total}
use Rattle.tv_reader.specs.declared.error.DeserializeError.{DeserializeError}
use Rattle.tv_reader.specs.declared.error.DeserializeError.TheVariants as errors
use Rattle.tv_reader.specs.declared.value_type.ValueType.{ValueType}
use Rattle.tv_reader.specs.declared.value_type.ValueType.TheVariants as types
use Rattle.tv_typed.specs.Values.{EncodesAs, GivesError, NextRefused}

-- ---- what is read of trees

-- of an array, a value of each element, in order
pub record ArrayOf {X : Type 0} (is : Tree → X → Type 0) (tree : Tree) (values : List X) : Type 0 where
  pub trees : List Tree
  pub whole : tree ≡ array (elements trees)
  pub each : AllZip is trees values

-- the key, and a value of the tree after it
abbrev pub IsEntry : {X : Type 0} → (Tree → X → Type 0) → List ℕ × Tree → String Global × X → Type 0
IsEntry is entry pair = (entry.0 ≡ string_bytes pair.0) × is entry.1 pair.1

-- of an object, each key with a value, in order
pub record ObjectOf {X : Type 0} (is : Tree → X → Type 0) (tree : Tree) (pairs : List (String Global × X)) :
    Type 0 where
  pub trees : List (List ℕ × Tree)
  pub whole : tree ≡ object (entries trees)
  pub each : AllZip (IsEntry is) trees pairs

-- the value at the last place that has this key
abbrev pub last_value : {X : Type 0} → List ℕ → List (String Global × X) → Option X
last_value key pairs =
    fold (λ found pair. if bytes_eq key (string_bytes pair.0) then Some pair.1 else found) None pairs

-- a map that gives for each key the last value
abbrev pub GivesLast : {X : Type 0} → (List ℕ → Option X) → List (String Global × X) → Type 0
GivesLast get pairs = (key : List ℕ) → get key ≡ last_value key pairs

-- of an object, such a map
pub record MapOf {X : Type 0} (is : Tree → X → Type 0) (tree : Tree) (get : List ℕ → Option X) : Type 0 where
  pub pairs : List (String Global × X)
  pub read : ObjectOf is tree pairs
  pub last : GivesLast get pairs

-- ---- what bytes encode

-- How many values an array or an object has, after the code of its type. This many are announced by
-- `total`.
abbrev pub Length : ValueType → (ℕ → ℕ) → ValueType → List ℕ → ℕ → Type 0
Length collection total kind bytes count = (kind ≡ collection) × VNum bytes (total count)

-- an array announces its elements
abbrev pub element_total : ℕ → ℕ
element_total count = count

-- the list of these values
abbrev pub IsListOf : {X : Type 0} → Vec X Global → List X → Type 0
IsListOf list values = list.items ≡ values

-- this many items, of which something is made
abbrev pub EncodesInto : {C X : Type 0} → (C → List X → Type 0) → (List ℕ → X → Type 0) → ℕ → List ℕ → C
    → Type 0
EncodesInto {X = X} Made Item count bytes made =
    (items : List X) × Made made items × (length items ≡ count) × Each Item bytes items

-- a key, and then a value
abbrev pub EncodesEntry : {X : Type 0} → (Tree → X → Type 0) → Version → List ℕ → String Global × X → Type 0
EncodesEntry is version bytes entry =
    Then (λ part. Key version part (string_bytes entry.0)) (λ part. EncodesAs is version part entry.1) bytes

-- ---- why there is none

-- a value of another type stands there, or the number of values is malformed, or no object
-- announces it
pub data LengthRefused (collection : ValueType) (total : ℕ → ℕ) (kind : ValueType) (whole : List ℕ) :
    DeserializeError → Type 0 where
  other_collection : kind ≢ collection
      → LengthRefused collection total kind whole (errors.UnsupportedType kind)
  in_length : {cause : Cause} → kind ≡ collection → ErrorInNumber whole cause
      → LengthRefused collection total kind whole (errors.CorruptedValue cause)
  no_total : (announced : ℕ) (prefix rest : List ℕ) → kind ≡ collection → whole ≡ prefix ++ rest
      → VNum prefix announced → ((count : ℕ) → total count ≢ announced)
      → LengthRefused collection total kind whole (errors.CorruptedValue OddObject)

-- there are none, or one of them is refused
abbrev pub ItemsRefused : {X : Type 0} → ValueType → (ℕ → ℕ) → (List ℕ → X → Type 0)
    → (List ℕ → DeserializeError → Type 0) → ValueType → List ℕ → DeserializeError → Type 0
ItemsRefused collection total Item Refused kind =
    InThen (LengthRefused collection total kind) (Length collection total kind)
    (λ count. InEach Refused Item count)

-- an array, or one of its values
abbrev pub ArrayRefused : {X : Type 0} → (Tree → X → Type 0)
    → (Version → ValueType → List ℕ → DeserializeError → Type 0)
    → Version → ValueType → List ℕ → DeserializeError → Type 0
ArrayRefused is refused version =
    ItemsRefused types.Array element_total (EncodesAs is version) (NextRefused refused version)

-- a key
abbrev pub KeyRefused : Version → List ℕ → DeserializeError → Type 0
KeyRefused version = GivesError (ErrorInKey version)

-- a key, or the value after it
abbrev pub EntryRefused :
    (Version → ValueType → List ℕ → DeserializeError → Type 0) → Version → List ℕ → DeserializeError → Type 0
EntryRefused refused version = InThen (KeyRefused version) (Key version) (λ _. NextRefused refused version)

-- an object, or one of its entries
abbrev pub ObjectRefused : {X : Type 0} → (Tree → X → Type 0)
    → (Version → ValueType → List ℕ → DeserializeError → Type 0)
    → Version → ValueType → List ℕ → DeserializeError → Type 0
ObjectRefused is refused version =
    ItemsRefused types.Object (entry_total version) (EncodesEntry is version) (EntryRefused refused version)

-- ---- one item after the other

-- None where all were read, else the next
abbrev pub NextItem : {X : Type 0} → (List ℕ → X → Type 0) → ℕ → ℕ → List ℕ → Option X → Type 0
NextItem Item position announced bytes None = (announced ≤ position) × (bytes ≡ [])
NextItem Item position announced bytes (Some item) = (position < announced) × Item bytes item

-- there is a next one, and it is refused
abbrev pub NextItemRefused :
    (List ℕ → DeserializeError → Type 0) → ℕ → ℕ → List ℕ → DeserializeError → Type 0
NextItemRefused Refused position announced whole error = (position < announced) × Refused whole error

-- whether an item was given
abbrev pub gives_some : {X : Type 0} → Result (Option X) DeserializeError → Bool
gives_some (Ok None) = false
gives_some (Ok (Some item)) = true
gives_some (Err error) = false
