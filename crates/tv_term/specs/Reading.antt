-- What the bytes of a value, which begin with the code of its type, are read as.
use Rattle.std.specs.Prelude.{ℕ, ℤ, pos, ◌+◌, ◌-◌, ◌-ℤ◌, ◌^◌, ◌≡◌, ◌==◌, Bool, not, if◌then◌else◌, List, []}
use Rattle.std.specs.Prelude.{◌∷◌, ◌++◌, length, take, drop, position, Option, None, Some, IsUtf8, slice_get}
use Rattle.std.specs.Option.{option_and_then, option_map}
use Rattle.std.specs.Int.{w32, w64, w128, from_be_bytes}
use Rattle.tv_field.specs.Entry.{Entry}
use Rattle.tv_options.specs.Types.{code, type_of_code}
use Rattle.tv_options.specs.declared.types.TypeTag.{TypeTag}
use Rattle.tv_options.specs.declared.types.TypeTag.TheVariants as tag

-- the field's number, which the first four bytes of a term are
abbrev pub field_of : List ℕ → ℕ
field_of bytes = from_be_bytes w32 (take 4 bytes)

-- the bytes of a term's value
abbrev pub value_of : List ℕ → List ℕ
value_of bytes = drop 4 bytes

-- the type that the first byte is the code of
abbrev pub type_at : List ℕ → Option TypeTag
type_at [] = None
type_at (first ∷ rest) = type_of_code first

-- what follows the first byte, if that is the type's code
abbrev pub payload_of : TypeTag → List ℕ → Option (List ℕ)
payload_of wanted [] = None
payload_of wanted (first ∷ rest) = if first == code wanted then Some rest else None

-- the number that the payload is, if it is of eight bytes
abbrev pub number_of_eight : List ℕ → Option ℕ
number_of_eight bytes = if length bytes == 8 then Some (from_be_bytes w64 bytes) else None

-- the number that the payload is, if it is of sixteen bytes
abbrev pub number_of_sixteen : List ℕ → Option ℕ
number_of_sixteen bytes = if length bytes == 16 then Some (from_be_bytes w128 bytes) else None

-- the number of a value of this type
abbrev pub number_of : TypeTag → List ℕ → Option ℕ
number_of wanted bytes = option_and_then number_of_eight (payload_of wanted bytes)

-- the number of an IP address
abbrev pub address_of : List ℕ → Option ℕ
address_of bytes = option_and_then number_of_sixteen (payload_of tag.IpAddr bytes)

-- the signed number that stands at this place, from the least one on
abbrev pub signed_at : ℕ → ℤ
signed_at n = pos n -ℤ pos (2 ^ 63)

-- whether a number stands for true
abbrev pub is_true : ℕ → Bool
is_true n = not (n == 0)

-- the bytes up to the first zero and with it, and those after it
abbrev pub cut_behind_zero : List ℕ → Option (List ℕ × List ℕ)
cut_behind_zero bytes = option_map (λ end. (take (end + 1) bytes, drop (end + 1) bytes))
    (position (λ b. b == 0) bytes)

-- of a value of a JSON field the path with its zero, and what follows
abbrev pub json_parts : List ℕ → Option (List ℕ × List ℕ)
json_parts bytes = option_and_then cut_behind_zero (payload_of tag.Json bytes)

-- of a value of a JSON field the path
abbrev pub json_path : List ℕ → Option (List ℕ)
json_path bytes = option_map (λ parts. take (length parts.0 - 1) parts.0) (json_parts bytes)

-- the value after the path, if a byte is there
abbrev pub value_behind : Option (List ℕ × List ℕ) → Option (List ℕ)
value_behind None = None
value_behind (Some parts) = if length parts.1 == 0 then None else Some parts.1

-- the type of the value after the path
abbrev pub json_type : List ℕ → Option TypeTag
json_type bytes = option_and_then (λ parts. type_at parts.1) (json_parts bytes)

-- these bytes, where they are a text, and otherwise nothing
abbrev pub ReadsText : Option (List ℕ) → Option (List ℕ) → Type 0
ReadsText bytes None = (found : List ℕ) → bytes ≡ Some found → ¬ IsUtf8 found
ReadsText bytes (Some text) = (bytes ≡ Some text) × IsUtf8 text

-- ---- what each reader of a value reads

-- `as_u64` reads a whole number without a sign.
abbrev pub unsigned_of : List ℕ → Option ℕ
unsigned_of bytes = number_of tag.U64 bytes

-- `as_i64` reads a whole number with a sign.
abbrev pub signed_of : List ℕ → Option ℤ
signed_of bytes = option_map signed_at (number_of tag.I64 bytes)

-- `as_bool` reads a truth value.
abbrev pub truth_of : List ℕ → Option Bool
truth_of bytes = option_map is_true (number_of tag.Bool bytes)

-- `as_date` reads the nanoseconds of a date.
abbrev pub date_of : List ℕ → Option ℤ
date_of bytes = option_map signed_at (number_of tag.Date bytes)

-- `as_bytes` reads bytes.
abbrev pub bytes_of : List ℕ → Option (List ℕ)
bytes_of bytes = payload_of tag.Bytes bytes

-- `as_str` reads a text.
abbrev pub ReadsStr : List ℕ → Option (List ℕ) → Type 0
ReadsStr bytes found = ReadsText (payload_of tag.Str bytes) found

-- `as_facet` reads the encoded text of a facet.
abbrev pub ReadsFacet : List ℕ → Option (List ℕ) → Type 0
ReadsFacet bytes found = ReadsText (payload_of tag.Facet bytes) found

-- ---- the paths of terms

-- `get_json_path` reads the path of a term of a JSON field.
abbrev pub ReadsPath : List ℕ → Option (List ℕ) → Type 0
ReadsPath bytes found = ReadsText (json_path (value_of bytes)) found

-- the path after a dot
abbrev pub dotted : Option (List ℕ) → List ℕ
dotted None = []
dotted (Some path) = 46 ∷ path

-- the field's name, and after a dot the path, if there is one and it is a text
abbrev pub IsFullPath : List ℕ → List ℕ → List ℕ → Type 0
IsFullPath name bytes text = (path : Option (List ℕ)) × ReadsText (json_path bytes) path
    × (text ≡ name ++ dotted path)

-- This is the full path of a term whose field is one of the schema.
abbrev pub IsFullPathIn : List Entry → List ℕ → List ℕ → Type 0
IsFullPathIn schema bytes text = (entry : Entry) → slice_get schema (field_of bytes) ≡ Some entry
    → IsFullPath entry.name (value_of bytes) text
