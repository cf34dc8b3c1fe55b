-- What is returned for a JSON value by the table of a field type.
use Rattle.std.specs.Prelude.{◌≡◌, ℕ, List, [], Option, Some, None, Result, Ok, Err, IfSome, string_bytes}
use Rattle.serde_json.specs.Data as json
use Rattle.serde_json.specs.Data.{Data}
use Rattle.serde_json.specs.View.{view}
use Rattle.tv_value.specs.JsonTree.{lent_json_tree}
use Rattle.tv_value.specs.Lent.{leaf_of}
use Rattle.tv_value.specs.Owned.{owned_tree}
use Rattle.tv_format.specs.Tree.{Leaf, Tree, leaf}
use Rattle.tv_value.specs.declared.leaf.ReferenceValueLeaf.{ReferenceValueLeaf}
use Rattle.tv_value.specs.declared.owned_value.OwnedValue.{OwnedValue}
use Rattle.tv_field.specs.JsonTable.{TableRefusal, overflow, mismatch, bad_text, bad_base64, float_number}
use Rattle.tv_field.specs.JsonTable.{Outcome, TextRow}
use Rattle.tv_field.specs.declared.field_type.FieldType.{FieldType}
use Rattle.tv_field.specs.declared.field_type.FieldType.TheVariants as types
use Rattle.tv_field.specs.declared.json_value.JsonRefusal.{JsonRefusal}
use Rattle.tv_field.specs.declared.json_value.JsonRefusal.TheVariants as refusal
use Rattle.tv_field.specs.declared.json_value.LentFieldValue.{LentFieldValue}
use Rattle.tv_field.specs.declared.json_value.LentFieldValue.TheVariants as lent
use Rattle.tv_field.specs.declared.value_parsing_error.ValueParsingError.{ValueParsingError}
use Rattle.tv_field.specs.declared.value_parsing_error.ValueParsingError.TheVariants as error

-- the tree of what is lent
abbrev pub lent_tree : LentFieldValue → Tree
lent_tree (lent.Leaf l) = leaf (leaf_of l)
lent_tree (lent.Object o) = lent_json_tree o.json.now

-- a text, and of another value none
abbrev pub string_in : Data → List ℕ
string_in (json.string s) = s
string_in datum = []

-- what a refusal says of the value, where memory wasn't refused
abbrev pub refusal_of : Data → JsonRefusal → Option TableRefusal
refusal_of datum (refusal.Overflow expected) = Some (overflow expected.now datum)
refusal_of datum (refusal.Mismatch expected) = Some (mismatch expected.now datum)
refusal_of datum (refusal.Parse cause) = Some (bad_text cause datum)
refusal_of datum refusal.InvalidBase64 = Some (bad_base64 (string_in datum))
refusal_of datum refusal.FloatNumber = Some float_number
refusal_of datum refusal.Memory = None

-- the outcome for the value that was lent satisfies P, unless memory was refused
abbrev pub Lends : Data → (Outcome → Type 0) → Result LentFieldValue JsonRefusal → Type 0
Lends datum P (Ok found) = P (Ok (lent_tree found))
Lends datum P (Err e) = IfSome (refusal_of datum e) (λ r. P (Err r))

-- the same of an error that holds the value
abbrev pub error_of : ValueParsingError → Option TableRefusal
error_of (error.OverflowError expected value) = Some (overflow expected.now (view value))
error_of (error.TypeError expected value) = Some (mismatch expected.now (view value))
error_of (error.ParseError cause value) = Some (bad_text cause (view value))
error_of (error.InvalidBase64 text) = Some (bad_base64 (string_bytes text))
error_of error.FloatNumber = Some float_number
error_of error.Memory = None

-- and of a value that is owned
abbrev pub AnswersOwned : (Outcome → Type 0) → Result OwnedValue ValueParsingError → Type 0
AnswersOwned P (Ok made) = P (Ok (owned_tree made))
AnswersOwned P (Err e) = IfSome (error_of e) (λ r. P (Err r))

-- and of a value without children that is lent
abbrev pub LendsLeaf : Data → (Outcome → Type 0) → Result ReferenceValueLeaf JsonRefusal → Type 0
LendsLeaf datum P (Ok found) = P (Ok (leaf (leaf_of found)))
LendsLeaf datum P (Err e) = IfSome (refusal_of datum e) (λ r. P (Err r))

-- a text, as a query writes it, is this value of a field's type
abbrev pub WritesValue : FieldType → List ℕ → Leaf → Type 0
WritesValue type s the_leaf = TextRow type s (Ok (leaf the_leaf))

-- it is none, and the refusal says why
abbrev pub RefusesText : FieldType → List ℕ → JsonRefusal → Type 0
RefusesText type s r = IfSome (refusal_of (json.string s) r) (λ why. TextRow type s (Err why))

-- the error says what the refusal says of the value
abbrev pub RefusesJson : Data → JsonRefusal → ValueParsingError → Type 0
RefusesJson datum r e = error_of e ≡ refusal_of datum r

-- a text; and what a field of texts prints, or reads with its tokens
abbrev pub IsJsonString : Data → Type 0
IsJsonString (json.string s) = Unit {0}
IsJsonString json.null = ⊥
IsJsonString (json.boolean b) = ⊥
IsJsonString (json.number n) = ⊥
IsJsonString (json.array ds) = ⊥
IsJsonString (json.object ms) = ⊥

abbrev pub IsNumberOrObject : Data → Type 0
IsNumberOrObject (json.number n) = Unit {0}
IsNumberOrObject (json.object ms) = Unit {0}
IsNumberOrObject json.null = ⊥
IsNumberOrObject (json.boolean b) = ⊥
IsNumberOrObject (json.string s) = ⊥
IsNumberOrObject (json.array ds) = ⊥

-- The values for which a field of this type takes memory: numbers and objects for a field of texts, and texts
-- for a field of facets or
-- of bytes.
abbrev pub TakesMemory : FieldType → Data → Type 0
TakesMemory (types.Str options) datum = IsNumberOrObject datum
TakesMemory (types.Facet options) datum = IsJsonString datum
TakesMemory (types.Bytes options) datum = IsJsonString datum
TakesMemory (types.U64 options) datum = ⊥
TakesMemory (types.I64 options) datum = ⊥
TakesMemory (types.Bool options) datum = ⊥
TakesMemory (types.Date options) datum = ⊥
TakesMemory (types.JsonObject options) datum = ⊥
TakesMemory (types.IpAddr options) datum = ⊥
