-- Values that own what they hold, by the bytes that encode them.
use Rattle.std.specs.Prelude.{◌≡◌, ◌≢◌, ℕ, ◌*◌, List, ◌++◌, length, map, Vec, String, string_bytes}
use Rattle.std.specs.declared.alloc.Global.{Global}
use Rattle.tv_base.specs.declared.cause.Cause.{Cause}
use Rattle.tv_base.specs.declared.cause.Cause.TheVariants.{OddObject}
use Rattle.tv_base.specs.Number.{VNum}
use Rattle.tv_base.specs.Parts.{Then, Behind, Text}
use Rattle.tv_base.specs.ErrorInPart.{ErrorInNumber, InThen}
use Rattle.tv_reader.specs.Legacy.{Legacy, ErrorInLegacy}
use Rattle.tv_format.specs.InputError.{Refusal, ErrorInValue, ErrorInKey}
use Rattle.tv_format.specs.ErrorInList.{ErrorInElements, ErrorInEntries}
use Rattle.tv_value.specs.Owned.{owned_tree, owned_entries}
use Rattle.tv_format.specs.Encoding.{Key, Encodes, EncodesElements, EncodesEntries}
use Rattle.tv_format.specs.Tree.{elements, entries}
use Rattle.tv_format.specs.Version.{Version, entry_total}
use Rattle.tv_value.specs.declared.owned_value.OwnedValue.{OwnedValue}
use Rattle.tv_reader.specs.ValueType.{type_prefix}
use Rattle.tv_reader.specs.declared.value_type.ValueType.{ValueType}

-- the value, and why there is none
abbrev pub EncodesValue : Version → List ℕ → OwnedValue → Type 0
EncodesValue version b x = Encodes Legacy version b (owned_tree x)

abbrev pub NoValue : Version → List ℕ → Refusal → Type 0
NoValue version b refusal = ErrorInValue Legacy ErrorInLegacy version b refusal

-- the same after the code of a type
abbrev pub EncodesBehind : Version → ValueType → List ℕ → OwnedValue → Type 0
EncodesBehind version kind b x = EncodesValue version (type_prefix kind ++ b) x

abbrev pub NoneBehind : Version → ValueType → List ℕ → Refusal → Type 0
NoneBehind version kind b refusal = NoValue version (type_prefix kind ++ b) refusal

-- this many values, one after the other
pub record EncodesItems (version : Version) (count : ℕ) (bytes : List ℕ)
    (items : Vec OwnedValue Global) : Type 0 where
  pub many : length items.items ≡ count
  pub encoded : EncodesElements Legacy version bytes (elements (map owned_tree items.items))

abbrev pub NoItems : Version → ℕ → List ℕ → Refusal → Type 0
NoItems version n b refusal = ErrorInElements Legacy ErrorInLegacy version n b refusal

-- a key, and a value after it
abbrev pub EncodesMember : Version → List ℕ → String Global × OwnedValue → Type 0
EncodesMember version b member = Then (λ w. Key version w (string_bytes member.0))
    (λ w. EncodesValue version w member.1) b

abbrev pub NoMember : Version → List ℕ → Refusal → Type 0
NoMember version = InThen (ErrorInKey version) (Key version) (λ _. NoValue version)

-- this many keys with values
pub record EncodesMembers (version : Version) (count : ℕ) (bytes : List ℕ)
    (members : Vec (String Global × OwnedValue) Global) : Type 0 where
  pub many : length members.items ≡ count
  pub encoded : EncodesEntries Legacy version bytes (entries (owned_entries members.items))

abbrev pub NoMembers : Version → ℕ → List ℕ → Refusal → Type 0
NoMembers version n b refusal = ErrorInEntries Legacy ErrorInLegacy version n b refusal

-- a key, with its code
abbrev pub CodedKey : List ℕ → String Global → Type 0
CodedKey b key = Behind 0 (λ w. Text w (string_bytes key)) b

-- twice the number of entries
abbrev pub EncodesTwice : List ℕ → ℕ → Type 0
EncodesTwice b n = VNum b (2 * n)

pub data ErrorInTwice (whole : List ℕ) : Cause → Type 0 where
  in_number : {c : Cause} → ErrorInNumber whole c → ErrorInTwice whole c
  odd_number : (n : ℕ) (prefix rest : List ℕ) → whole ≡ prefix ++ rest → VNum prefix n → ((m : ℕ) → 2 * m ≢ n)
      → ErrorInTwice whole OddObject

-- what an object of this many entries announces
abbrev pub EncodesEntryCount : Version → List ℕ → ℕ → Type 0
EncodesEntryCount version b n = VNum b (entry_total version n)

pub data ErrorInEntryCount (version : Version) (whole : List ℕ) : Cause → Type 0 where
  in_count_number : {c : Cause} → ErrorInNumber whole c → ErrorInEntryCount version whole c
  odd_count_number : (n : ℕ) (prefix rest : List ℕ) → whole ≡ prefix ++ rest → VNum prefix n
      → ((m : ℕ) → entry_total version m ≢ n) → ErrorInEntryCount version whole OddObject
