-- The text of a term's value.
--
-- The words of the public contracts: `text_of_value`: a text as it is; a number in decimal; a truth value as
-- `true` or `false`; a date, a facet, bytes and an address as the library's JSON has them; and of a value in
-- a JSON object the text of that value. A text and a facet that aren't UTF-8 have none, nor has a value in a
-- JSON object that is one in a JSON object again: no constructor makes its term. `IsTermOfField`: which
-- values of a field are said to be read back of their texts.
use Rattle.std.specs.Prelude.{◌≡◌, ◌==◌, ◌<◌, ◌^◌, ℕ, FitsSigned, List, [], Bool, true, false, Option, Some}
use Rattle.std.specs.Prelude.{IsSome, None}
use Rattle.std.specs.Prelude.{if◌then◌else◌}
use Rattle.std.specs.Fmt.{decimal, signed_decimal}
use Rattle.std.specs.Int.{w64}
use Rattle.std.specs.Option.{option_and_then, option_map}
use Rattle.base64.specs.Engines.{standard}
use Rattle.base64.specs.GeneralPurpose.{IsBytes, encode_of}
use Rattle.tv_base.specs.Facet.{printed}
use Rattle.tv_date.specs.Printed.{moment_text}
use Rattle.tv_field.specs.JsonTable.{truth_text}
use Rattle.tv_field.specs.declared.field_type.FieldType.{FieldType}
use Rattle.tv_field.specs.declared.field_type.FieldType.TheVariants as types
use Rattle.tv_format.specs.Tree.{Leaf, null, text, unsigned, signed, boolean, date, facet, bytes, ip_address}
use Rattle.tv_format.specs.Tree.{tokenized}
use Rattle.tv_value.specs.JsonOf.{address_text}
use Rattle.tv_options.specs.declared.types.TypeTag.{TypeTag}
use Rattle.tv_options.specs.declared.types.TypeTag.TheVariants as tag
use Rattle.tv_term.specs.Key.{TermValue, Text, Unsigned, Signed, Truth, Date, Facet, Bytes, Address, Json}
use Rattle.tv_term.specs.Key.{IsTerm}
use Rattle.tv_term.specs.Printed.{text_if_utf8}
use Rattle.tv_term.specs.Reading.{address_of, bytes_of, date_of, number_of, payload_of, signed_of, type_at}
use Rattle.tv_term.specs.Reading.{unsigned_of}

-- how a value without children is printed; of a text with tokens the text is, and of null nothing
abbrev pub leaf_text : Leaf → List ℕ
leaf_text null = []
leaf_text (text t) = t
leaf_text (unsigned n) = decimal n
leaf_text (signed z) = signed_decimal z
leaf_text (boolean b) = truth_text b
leaf_text (date z) = moment_text z
leaf_text (facet encoded) = printed encoded
leaf_text (bytes bs) = encode_of standard bs
leaf_text (ip_address n) = address_text n
leaf_text (tokenized t ts) = t

-- the value of a document that a term's value is, where that isn't in a JSON object
abbrev pub value_leaf : TermValue → Option Leaf
value_leaf (Text t) = option_map text (text_if_utf8 t)
value_leaf (Unsigned n) = Some (unsigned n)
value_leaf (Signed z) = Some (signed z)
value_leaf (Truth b) = Some (boolean b)
value_leaf (Date z) = Some (date z)
value_leaf (Facet encoded) = option_map facet (text_if_utf8 encoded)
value_leaf (Bytes bs) = Some (bytes bs)
value_leaf (Address n) = Some (ip_address n)
value_leaf (Json path value) = None

-- of a value in a JSON object the value there, and another itself
abbrev pub inner : TermValue → TermValue
inner (Json path value) = value
inner value = value

abbrev pub text_of_value : TermValue → Option (List ℕ)
text_of_value value = option_map leaf_text (value_leaf (inner value))

-- the text of the value whose term the bytes are, or none, where they are no term
pub record IsTextOf (bytes : List ℕ) (text : Option (List ℕ)) : Type 0 where
  pub of_value : (field : ℕ) (value : TermValue) → IsTerm bytes field value → text ≡ text_of_value value
  pub of_term : IsSome text → (field : ℕ) × (value : TermValue) × IsTerm bytes field value

-- ---- texts that are read back

-- a value of a field's type, which has a term; addresses aside
abbrev pub IsTermOfField : FieldType → Leaf → Type 0
IsTermOfField (types.Str options) (text t) = Unit {0}
IsTermOfField (types.U64 options) (unsigned n) = n < 2 ^ 64
IsTermOfField (types.I64 options) (signed z) = FitsSigned w64 z
IsTermOfField (types.Bool options) (boolean b) = Unit {0}
IsTermOfField (types.Date options) (date z) = FitsSigned w64 z
IsTermOfField (types.Facet options) (facet encoded) = Unit {0}
IsTermOfField (types.Bytes options) (bytes bs) = IsBytes bs
IsTermOfField type leaf = ⊥

-- ---- for private clauses: the same from the bytes of a value

-- the truth value that a number stands for
abbrev pub truth_at : ℕ → Option Bool
truth_at n = if n == 0 then Some false else if n == 1 then Some true else None

-- the value of a type that its bytes are
abbrev pub leaf_at : Option TypeTag → List ℕ → Option Leaf
leaf_at (Some tag.Str) coded = option_map text (option_and_then text_if_utf8 (payload_of tag.Str coded))
leaf_at (Some tag.U64) coded = option_map unsigned (unsigned_of coded)
leaf_at (Some tag.I64) coded = option_map signed (signed_of coded)
leaf_at (Some tag.Bool) coded = option_map boolean (option_and_then truth_at (number_of tag.Bool coded))
leaf_at (Some tag.Date) coded = option_map date (date_of coded)
leaf_at (Some tag.Facet) coded = option_map facet (option_and_then text_if_utf8 (payload_of tag.Facet coded))
leaf_at (Some tag.Bytes) coded = option_map bytes (bytes_of coded)
leaf_at (Some tag.IpAddr) coded = option_map ip_address (address_of coded)
leaf_at other coded = None

abbrev pub coded_leaf : List ℕ → Option Leaf
coded_leaf coded = leaf_at (type_at coded) coded
