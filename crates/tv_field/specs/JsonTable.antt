-- What a JSON value is to a field of each type: a tree, or a refusal.
use Rattle.std.specs.Prelude.{◌≡◌, ℕ, ◌<◌, ◌^◌, ◌⊎◌, List, Bool, true, false, Option, Some, None, option_map}
use Rattle.std.specs.Prelude.{Result, Ok, Err, FitsSigned, ℤ, codes, bytes_eq, if◌then◌else◌}
use Rattle.std.specs.Fmt.{decimal, signed_decimal}
use Rattle.std.specs.Int.{w64}
use Rattle.std.specs.Str.Parse.{IsNumeral, digits_value, signed_digits_value, without_leading_plus}
use Rattle.std.specs.Str.Parse.{without_leading_sign, true_text, false_text}
use Rattle.std.specs.Net.Grammar.{IsIpText}
use Rattle.std.specs.declared.net.ip_addr.IpAddr.{IpAddr}
use Rattle.base64.specs.Engines.{standard}
use Rattle.base64.specs.GeneralPurpose.{decode_of}
use Rattle.base64.specs.declared.decode.DecodeError.{DecodeError}
use Rattle.serde_json.specs.Data as json
use Rattle.serde_json.specs.Data.{Num, Data}
use Rattle.serde_json.specs.Find.{as_u64, as_i64}
use Rattle.tv_base.specs.Facet.{parse}
use Rattle.tv_date.specs.Rfc3339.{rfc}
use Rattle.tv_date.specs.declared.rfc3339.DateError.{DateError}
use Rattle.tv_date.specs.declared.rfc3339.DateError.TheVariants as date_error
use Rattle.tv_options.specs.Types.{type_name}
use Rattle.tv_options.specs.declared.types.TypeTag.TheVariants as tags
use Rattle.tv_value.specs.IpAddress.{address_number}
use Rattle.tv_value.specs.JsonTree.{json_tree}
use Rattle.tv_format.specs.Tree.{Leaf, text, unsigned, signed, boolean, date, facet, bytes, ip_address, Tree}
use Rattle.tv_format.specs.Tree.{leaf}
use Rattle.tv_field.specs.JsonTokens.{tokenized_in}
use Rattle.tv_field.specs.declared.field_type.FieldType.{FieldType}
use Rattle.tv_field.specs.declared.field_type.FieldType.TheVariants as types
use Rattle.tv_field.specs.declared.value_parsing_error.ParseCause.{ParseCause}
use Rattle.tv_field.specs.declared.value_parsing_error.ParseCause.TheVariants as cause

-- Why a value is refused: mostly what is wanted, and the value that stands there. A number that isn't whole
-- is refused for that alone.
pub data TableRefusal : Type 0 where
  overflow : List ℕ → Data → TableRefusal
  mismatch : List ℕ → Data → TableRefusal
  bad_text : ParseCause → Data → TableRefusal
  bad_base64 : List ℕ → TableRefusal
  float_number : TableRefusal

abbrev pub Outcome : Type 0
Outcome = Result Tree TableRefusal

abbrev pub mismatched : List ℕ → Data → Outcome
mismatched expected datum = Err (mismatch expected datum)

-- the leaf where the fact holds, and else the refusal
abbrev pub Chooses : Type 0 → Leaf → TableRefusal → Outcome → Type 0
Chooses P the_leaf r o = (P × (o ≡ Ok (leaf the_leaf))) ⊎ (¬ P × (o ≡ Err r))

-- a leaf, if there is one, and else the refusal
abbrev pub leaf_or : Option Leaf → TableRefusal → Outcome
leaf_or (Some l) r = Ok (leaf l)
leaf_or None r = Err r

-- ---- texts

-- a number in decimal, as a text
abbrev pub decimal_text : Num → Outcome
decimal_text (json.unsigned n) = Ok (leaf (text (decimal n)))
decimal_text (json.negative z) = Ok (leaf (text (signed_decimal z)))
decimal_text (json.float x) = Err float_number

abbrev pub truth_text : Bool → List ℕ
truth_text true = true_text
truth_text false = false_text

abbrev pub str_row : Bool → Data → Outcome
str_row coerce (json.string s) = Ok (leaf (text s))
str_row true (json.number n) = decimal_text n
str_row true (json.boolean b) = Ok (leaf (text (truth_text b)))
str_row true json.null = Ok (leaf (text (codes "null")))
str_row coerce (json.object ms) = leaf_or (tokenized_in (json.object ms))
    (mismatch (codes "a string or an pretokenized string") (json.object ms))
str_row coerce (json.array ds) = mismatched (type_name tags.Str) (json.array ds)
str_row false datum = mismatched (codes "a string") datum

-- ---- numbers

-- a text that encodes a number from 0 to 2^64 - 1 in decimal, perhaps after a plus
abbrev pub IsUnsignedText : List ℕ → Type 0
IsUnsignedText s = IsNumeral 10 (without_leading_plus s) × (digits_value 10 (without_leading_plus s) < 2 ^ 64)

-- the same from -2^63 to 2^63 - 1, perhaps after a plus or a minus
abbrev pub IsSignedText : List ℕ → Type 0
IsSignedText s = IsNumeral 10 (without_leading_sign s) × FitsSigned w64 (signed_digits_value 10 s)

abbrev pub UnsignedText : Bool → List ℕ → Outcome → Type 0
UnsignedText true s o = Chooses (IsUnsignedText s) (unsigned (digits_value 10 (without_leading_plus s)))
    (mismatch (codes "a u64 or a u64 as string") (json.string s)) o
UnsignedText false s o = o ≡ mismatched (codes "a u64") (json.string s)

abbrev pub SignedText : Bool → List ℕ → Outcome → Type 0
SignedText true s o = Chooses (IsSignedText s) (signed (signed_digits_value 10 s))
    (mismatch (codes "a i64 or a i64 as string") (json.string s)) o
SignedText false s o = o ≡ mismatched (codes "a i64") (json.string s)

abbrev pub signed_number : Num → Outcome
signed_number n = leaf_or (option_map signed (as_i64 n)) (overflow (codes "an i64 int") (json.number n))

abbrev pub U64Row : Bool → Data → Outcome → Type 0
U64Row coerce (json.string s) o = UnsignedText coerce s o
U64Row coerce (json.number n) o = o ≡ leaf_or (option_map unsigned (as_u64 n))
    (overflow (codes "u64") (json.number n))
U64Row coerce datum o = o ≡ mismatched (type_name tags.U64) datum

abbrev pub I64Row : Bool → Data → Outcome → Type 0
I64Row coerce (json.string s) o = SignedText coerce s o
I64Row coerce (json.number n) o = o ≡ signed_number n
I64Row coerce datum o = o ≡ mismatched (type_name tags.I64) datum

-- ---- truth values

abbrev pub truth_in : List ℕ → Option Leaf
truth_in s = if bytes_eq s true_text then Some (boolean true) else if bytes_eq s false_text
    then Some (boolean false) else None

abbrev pub boolean_text : Bool → List ℕ → Outcome
boolean_text true s = leaf_or (truth_in s) (mismatch (codes "a i64 or a bool as string") (json.string s))
boolean_text false s = mismatched (codes "a boolean") (json.string s)

abbrev pub bool_row : Bool → Data → Outcome
bool_row coerce (json.string s) = boolean_text coerce s
bool_row coerce (json.number n) = mismatched (codes "a boolean") (json.number n)
bool_row coerce (json.boolean b) = Ok (leaf (boolean b))
bool_row coerce datum = mismatched (type_name tags.Bool) datum

-- ---- dates

abbrev pub date_text : List ℕ → Result ℤ DateError → Outcome
date_text s (Ok z) = Ok (leaf (date z))
date_text s (Err date_error.Shape) = mismatched (codes "rfc3339 format") (json.string s)
date_text s (Err date_error.Field) = mismatched (codes "rfc3339 format") (json.string s)
date_text s (Err date_error.OutOfRange) = Err (bad_text cause.DateOutOfRange (json.string s))

-- a whole number becomes a signed number, and no date
abbrev pub date_row : Data → Outcome
date_row (json.string s) = date_text s (rfc s)
date_row (json.number n) = signed_number n
date_row datum = mismatched (type_name tags.Date) datum

-- ---- facets and bytes

abbrev pub facet_row : Data → Outcome
facet_row (json.string s) = leaf_or (option_map facet (parse s)) (bad_text cause.Facet (json.string s))
facet_row (json.number n) = mismatched (codes "a string") (json.number n)
facet_row datum = mismatched (type_name tags.Facet) datum

abbrev pub base64_text : List ℕ → Result (List ℕ) DecodeError → Outcome
base64_text s (Ok bs) = Ok (leaf (bytes bs))
base64_text s (Err e) = Err (bad_base64 s)

abbrev pub bytes_row : Data → Outcome
bytes_row (json.string s) = base64_text s (decode_of standard s)
bytes_row (json.number n) = mismatched (codes "a string") (json.number n)
bytes_row datum = mismatched (type_name tags.Bytes) datum

-- ---- JSON objects

abbrev pub whole_or_float : Option Tree → Outcome
whole_or_float (Some t) = Ok t
whole_or_float None = Err float_number

abbrev pub json_row : Data → Outcome
json_row (json.object ms) = whole_or_float (json_tree (json.object ms))
json_row (json.string s) = mismatched (codes "a json object") (json.string s)
json_row (json.number n) = mismatched (codes "a json object") (json.number n)
json_row datum = mismatched (type_name tags.Json) datum

-- ---- IP addresses

abbrev pub IpText : List ℕ → Outcome → Type 0
IpText s o =
    ((a : IpAddr) × IsIpText s a × (o ≡ Ok (leaf (ip_address (address_number a)))))
    ⊎ (((a : IpAddr) → ¬ (IsIpText s a)) × (o ≡ Err (bad_text cause.Ip (json.string s))))

abbrev pub IpRow : Data → Outcome → Type 0
IpRow (json.string s) o = IpText s o
IpRow (json.number n) o = o ≡ mismatched (codes "a string with an ip addr") (json.number n)
IpRow datum o = o ≡ mismatched (type_name tags.IpAddr) datum

-- ---- the table

abbrev pub Table : FieldType → Data → Outcome → Type 0
Table (types.Str options) datum o = o ≡ str_row options.part.coerce datum
Table (types.U64 options) datum o = U64Row options.part.coerce datum o
Table (types.I64 options) datum o = I64Row options.part.coerce datum o
Table (types.Bool options) datum o = o ≡ bool_row options.part.coerce datum
Table (types.Date options) datum o = o ≡ date_row datum
Table (types.Facet options) datum o = o ≡ facet_row datum
Table (types.Bytes options) datum o = o ≡ bytes_row datum
Table (types.JsonObject options) datum o = o ≡ json_row datum
Table (types.IpAddr options) datum o = IpRow datum o

-- ---- texts of queries

-- what a text is to a field of each type, as a query writes it: what it is in JSON to such a field that
-- coerces
abbrev pub TextRow : FieldType → List ℕ → Outcome → Type 0
TextRow (types.Str options) s o = o ≡ Ok (leaf (text s))
TextRow (types.U64 options) s o = UnsignedText true s o
TextRow (types.I64 options) s o = SignedText true s o
TextRow (types.Bool options) s o = o ≡ boolean_text true s
TextRow (types.Date options) s o = o ≡ date_row (json.string s)
TextRow (types.Facet options) s o = o ≡ facet_row (json.string s)
TextRow (types.Bytes options) s o = o ≡ bytes_row (json.string s)
TextRow (types.JsonObject options) s o = o ≡ json_row (json.string s)
TextRow (types.IpAddr options) s o = IpText s o
