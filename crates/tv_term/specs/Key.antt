-- What a term stands for, its bytes, and the order of both.
use Rattle.std.specs.Prelude.{◌≡◌, nat_lt, ℕ, ◌+◌, ◌-◌, ◌<◌, ◌^◌, Bool, if◌then◌else◌, List, [], ◌∷◌, ◌++◌, ℤ}
use Rattle.std.specs.Prelude.{pos, negsuc, FitsSigned, ◌≢◌, IsUtf8}
use Rattle.std.specs.List.{AllByRecursion}
use Rattle.std.specs.Int.{to_be_bytes, w32, w64, w128}
use Rattle.std.specs.Ordering.{nat_cmp, int_cmp, bool_cmp, ordering_then}
use Rattle.std.specs.declared.cmp.Ordering.{Ordering}
use Rattle.std.specs.Cmp.Lexicographic.{slice_cmp}
use Rattle.tv_options.specs.Types.{code}
use Rattle.tv_options.specs.declared.types.TypeTag.{TypeTag}
use Rattle.tv_options.specs.declared.types.TypeTag.TheVariants as tag

-- the value of a term; of a term of a JSON field the joined path and the value there. Which of these are
-- values, `Fits` says
pub data TermValue : Type 0 where
  Text : List ℕ → TermValue
  Unsigned : ℕ → TermValue
  Signed : ℤ → TermValue
  Truth : Bool → TermValue
  -- nanoseconds since 1970
  Date : ℤ → TermValue
  -- the encoded text
  Facet : List ℕ → TermValue
  Bytes : List ℕ → TermValue
  -- the number of an IP address
  Address : ℕ → TermValue
  Json : List ℕ → TermValue → TermValue

abbrev pub tag_of : TermValue → TypeTag
tag_of (Text bytes) = tag.Str
tag_of (Unsigned n) = tag.U64
tag_of (Signed z) = tag.I64
tag_of (Truth b) = tag.Bool
tag_of (Date z) = tag.Date
tag_of (Facet bytes) = tag.Facet
tag_of (Bytes bytes) = tag.Bytes
tag_of (Address n) = tag.IpAddr
tag_of (Json path value) = tag.Json

-- a number of a JSON value: one that fits a signed one of 64 bits stands as a signed one
abbrev pub json_number : ℕ → TermValue
json_number n = if nat_lt n (2 ^ 63) then Signed (pos n) else Unsigned n

-- the letter of the value's type
abbrev pub value_code : TermValue → ℕ
value_code value = code (tag_of value)

-- a signed number of 64 bits, counted from the least one
abbrev pub from_least : ℤ → ℕ
from_least (pos n) = n + 2 ^ 63
from_least (negsuc n) = 2 ^ 63 - 1 - n

-- a truth value as a number
abbrev pub truth_number : Bool → ℕ
truth_number b = if b then 1 else 0

-- the bytes of a value after its code
abbrev pub payload : TermValue → List ℕ
payload (Text bytes) = bytes
payload (Unsigned n) = to_be_bytes w64 n
payload (Signed z) = to_be_bytes w64 (from_least z)
payload (Truth b) = to_be_bytes w64 (truth_number b)
payload (Date z) = to_be_bytes w64 (from_least z)
payload (Facet bytes) = bytes
payload (Bytes bytes) = bytes
payload (Address n) = to_be_bytes w128 n
payload (Json path value) = path ++ 0 ∷ value_code value ∷ payload value

-- no byte is that of U+0000
abbrev pub HasNoZero : List ℕ → Type 0
HasNoZero = AllByRecursion (λ b. b ≢ 0)

-- which of these are the values of terms: a number is of its type's width, and a path, which U+0000 ends, has
-- no U+0000. Each typed constructor makes a term of such a value, and so does a value that is appended to a
-- term of a path
abbrev pub Fits : TermValue → Type 0
Fits (Text bytes) = Unit {0}
Fits (Unsigned n) = n < 2 ^ 64
Fits (Signed z) = FitsSigned w64 z
Fits (Truth b) = Unit {0}
Fits (Date z) = FitsSigned w64 z
Fits (Facet bytes) = Unit {0}
Fits (Bytes bytes) = Unit {0}
Fits (Address n) = n < 2 ^ 128
Fits (Json path value) = HasNoZero path × Fits value

-- values of one type by their own order, and values of two types by the types' codes
abbrev pub value_cmp : TermValue → TermValue → Ordering
value_cmp (Text a) (Text b) = slice_cmp nat_cmp a b
value_cmp (Unsigned a) (Unsigned b) = nat_cmp a b
value_cmp (Signed a) (Signed b) = int_cmp a b
value_cmp (Truth a) (Truth b) = bool_cmp a b
value_cmp (Date a) (Date b) = int_cmp a b
value_cmp (Facet a) (Facet b) = slice_cmp nat_cmp a b
value_cmp (Bytes a) (Bytes b) = slice_cmp nat_cmp a b
value_cmp (Address a) (Address b) = nat_cmp a b
value_cmp (Json p a) (Json q b) = ordering_then (slice_cmp nat_cmp p q) (value_cmp a b)
value_cmp a b = nat_cmp (value_code a) (value_code b)

-- the bytes of a value
abbrev pub coded_value : TermValue → List ℕ
coded_value value = value_code value ∷ payload value

-- the bytes of a term
abbrev pub term : ℕ → TermValue → List ℕ
term field value = to_be_bytes w32 field ++ coded_value value

-- the bytes of a term of a JSON field before a value is appended: the joined path, and the zero that ends it
abbrev pub json_term : ℕ → List ℕ → List ℕ
json_term field path = to_be_bytes w32 field ++ code tag.Json ∷ (path ++ 0 ∷ [])

-- the bytes are the term of the field and the value, both within their widths
pub record IsTerm (bytes : List ℕ) (field : ℕ) (value : TermValue) : Type 0 where
  pub bytes_are : bytes ≡ term field value
  pub field_fits : field < 2 ^ 32
  pub value_fits : Fits value

-- the bytes are the term of the field and the path, a text without U+0000, before a value is appended
pub record IsJsonTerm (bytes : List ℕ) (field : ℕ) (path : List ℕ) : Type 0 where
  pub bytes_are : bytes ≡ json_term field path
  pub field_fits : field < 2 ^ 32
  pub path_is_text : IsUtf8 path
  pub path_has_no_zero : HasNoZero path

-- the value, which is within its width, was appended
pub record AppendsCoded (old new : List ℕ) (value : TermValue) : Type 0 where
  pub bytes_are : new ≡ old ++ coded_value value
  pub value_fits : Fits value
