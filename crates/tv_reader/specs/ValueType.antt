-- The types of values in the store: their codes, and what is wrong with bytes that begin with none.
use Rattle.std.specs.Prelude.{◌==◌, ◌≡◌, ◌≢◌, ◌<◌, ℕ, List, [], ◌∷◌, Option, Some, None, option_map}
use Rattle.std.specs.Prelude.{if◌then◌else◌}
use Rattle.tv_base.specs.declared.cause.Cause.{Cause}
use Rattle.tv_base.specs.declared.cause.Cause.TheVariants.{UnexpectedEnd, UnknownTypeCode, FloatCode}
use Rattle.tv_base.specs.declared.cause.Cause.TheVariants.{UnknownExtCode}
use Rattle.tv_format.specs.Leaves as coded_leaves
use Rattle.tv_format.specs.Leaves.{store_code, last_code}
use Rattle.tv_format.specs.declared.leaf_type.LeafType.{LeafType}
use Rattle.tv_format.specs.declared.leaf_type.LeafType.TheVariants as leaves
use Rattle.tv_reader.specs.declared.value_type.ValueType.{ValueType}
use Rattle.tv_reader.specs.declared.value_type.ValueType.TheVariants as types

-- the type of a leaf's type, and back
abbrev pub of_leaf : LeafType → ValueType
of_leaf leaves.Null = types.Null
of_leaf leaves.Str = types.String
of_leaf leaves.U64 = types.U64
of_leaf leaves.I64 = types.I64
of_leaf leaves.Date = types.DateTime
of_leaf leaves.Facet = types.Facet
of_leaf leaves.Bytes = types.Bytes
of_leaf leaves.IpAddr = types.IpAddr
of_leaf leaves.Bool = types.Bool
of_leaf leaves.PreTokStr = types.PreTokStr

abbrev pub leaf_type : ValueType → Option LeafType
leaf_type types.Null = Some leaves.Null
leaf_type types.String = Some leaves.Str
leaf_type types.U64 = Some leaves.U64
leaf_type types.I64 = Some leaves.I64
leaf_type types.DateTime = Some leaves.Date
leaf_type types.Facet = Some leaves.Facet
leaf_type types.Bytes = Some leaves.Bytes
leaf_type types.IpAddr = Some leaves.IpAddr
leaf_type types.Bool = Some leaves.Bool
leaf_type types.PreTokStr = Some leaves.PreTokStr
leaf_type _ = None

abbrev pub leaf_type_code : Option LeafType → ℕ
leaf_type_code (Some t) = store_code t
leaf_type_code None = 0

-- the code of a type, and the type of a code
abbrev pub value_type_code : ValueType → ℕ
value_type_code types.JSONObject = 8
value_type_code types.Array = 12
value_type_code types.Object = 13
value_type_code kind = leaf_type_code (leaf_type kind)

abbrev pub value_type_with : ℕ → Option ValueType
value_type_with code =
    if code == 8 then Some types.JSONObject else (
    if code == 12 then Some types.Array else (
    if code == 13 then Some types.Object else option_map of_leaf (coded_leaves.type_with code)))

-- all that stands before a value of this type: of a pre-tokenised text, the code of an extension and its own
abbrev pub type_prefix : ValueType → List ℕ
type_prefix types.PreTokStr = 7 ∷ 0 ∷ []
type_prefix kind = value_type_code kind ∷ []

-- the bytes are all that stands before a value of this type
abbrev pub IsCoded : List ℕ → ValueType → Type 0
IsCoded b kind = b ≡ type_prefix kind

-- of a value's code: there is none, it is unknown, or it is that of floating-point numbers
pub data ErrorInCode : List ℕ → Cause → Type 0 where
  no_code : ErrorInCode [] UnexpectedEnd
  unknown_type : {b : ℕ} {rest : List ℕ} → last_code < b → ErrorInCode (b ∷ rest) (UnknownTypeCode b)
  float_type : {rest : List ℕ} → ErrorInCode (6 ∷ rest) FloatCode
  no_extension_code : ErrorInCode (7 ∷ []) UnexpectedEnd
  unknown_extension : {b : ℕ} {rest : List ℕ} → b ≢ 0 → ErrorInCode (7 ∷ b ∷ rest) (UnknownExtCode b)
