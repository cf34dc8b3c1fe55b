-- A value has one outcome for a field's type.
use Rattle.std.proofs.Common.{◌≡◌, ℕ, Bool, true, false, List, Ok, inl, inr, sym, ap, ◌∙◌}
use Rattle.std.proofs.NetLemmas.Theorems.{IsIpText_unique}
use Rattle.serde_json.specs.Data as json
use Rattle.serde_json.specs.Data.{Data}
use Rattle.tv_field.specs.JsonTable.{Chooses, I64Row, IpRow, IpText, Outcome, SignedText, Table, TableRefusal, TextRow, U64Row, UnsignedText}
use Rattle.tv_field.specs.declared.field_type.FieldType.{FieldType}
use Rattle.tv_field.specs.declared.field_type.FieldType.TheVariants as types
use Rattle.tv_format.specs.Tree.{Leaf, leaf, ip_address}
use Rattle.tv_value.specs.IpAddress.{address_number}

chosen : (P : Type 0) (l : Leaf) (r : TableRefusal) (one other : Outcome) → Chooses P l r one → Chooses P l r other → one ≡ other
chosen P l r one other (inl x) (inl y) = x.1 ∙ sym y.1
chosen P l r one other (inl x) (inr y) = absurd (y.0 x.0)
chosen P l r one other (inr x) (inl y) = absurd (x.0 y.0)
chosen P l r one other (inr x) (inr y) = x.1 ∙ sym y.1

address : (s : List ℕ) (one other : Outcome) → IpText s one → IpText s other → one ≡ other
address s one other (inl x) (inl y) = x.2 ∙ ap (λ i. Ok (leaf (ip_address (address_number i)))) (IsIpText_unique s x.0 y.0 x.1 y.1) ∙ sym y.2
address s one other (inl x) (inr y) = absurd (y.0 x.0 x.1)
address s one other (inr x) (inl y) = absurd (x.0 y.0 y.1)
address s one other (inr x) (inr y) = x.1 ∙ sym y.1

unsigned_one : (coerce : Bool) (s : List ℕ) (one other : Outcome) → UnsignedText coerce s one → UnsignedText coerce s other → one ≡ other
unsigned_one true s one other x y = chosen _ _ _ one other x y
unsigned_one false s one other x y = x ∙ sym y

signed_one : (coerce : Bool) (s : List ℕ) (one other : Outcome) → SignedText coerce s one → SignedText coerce s other → one ≡ other
signed_one true s one other x y = chosen _ _ _ one other x y
signed_one false s one other x y = x ∙ sym y

u64_one : (coerce : Bool) (d : Data) (one other : Outcome) → U64Row coerce d one → U64Row coerce d other → one ≡ other
u64_one coerce (json.string s) one other x y = unsigned_one coerce s one other x y
u64_one coerce (json.number n) one other x y = x ∙ sym y
u64_one coerce (json.boolean b) one other x y = x ∙ sym y
u64_one coerce json.null one other x y = x ∙ sym y
u64_one coerce (json.array ds) one other x y = x ∙ sym y
u64_one coerce (json.object ms) one other x y = x ∙ sym y

i64_one : (coerce : Bool) (d : Data) (one other : Outcome) → I64Row coerce d one → I64Row coerce d other → one ≡ other
i64_one coerce (json.string s) one other x y = signed_one coerce s one other x y
i64_one coerce (json.number n) one other x y = x ∙ sym y
i64_one coerce (json.boolean b) one other x y = x ∙ sym y
i64_one coerce json.null one other x y = x ∙ sym y
i64_one coerce (json.array ds) one other x y = x ∙ sym y
i64_one coerce (json.object ms) one other x y = x ∙ sym y

address_row : (d : Data) (one other : Outcome) → IpRow d one → IpRow d other → one ≡ other
address_row (json.string s) one other x y = address s one other x y
address_row (json.number n) one other x y = x ∙ sym y
address_row (json.boolean b) one other x y = x ∙ sym y
address_row json.null one other x y = x ∙ sym y
address_row (json.array ds) one other x y = x ∙ sym y
address_row (json.object ms) one other x y = x ∙ sym y

pub one_outcome : (type : FieldType) (d : Data) (one other : Outcome) → Table type d one → Table type d other → one ≡ other
one_outcome (types.Str options) d one other x y = x ∙ sym y
one_outcome (types.U64 options) d one other x y = u64_one options.part.coerce d one other x y
one_outcome (types.I64 options) d one other x y = i64_one options.part.coerce d one other x y
one_outcome (types.Bool options) d one other x y = x ∙ sym y
one_outcome (types.Date options) d one other x y = x ∙ sym y
one_outcome (types.Facet options) d one other x y = x ∙ sym y
one_outcome (types.Bytes options) d one other x y = x ∙ sym y
one_outcome (types.JsonObject options) d one other x y = x ∙ sym y
one_outcome (types.IpAddr options) d one other x y = address_row d one other x y

pub text_outcome : (type : FieldType) (s : List ℕ) (one other : Outcome) → TextRow type s one → TextRow type s other → one ≡ other
text_outcome (types.Str options) s one other x y = x ∙ sym y
text_outcome (types.U64 options) s one other x y = chosen _ _ _ one other x y
text_outcome (types.I64 options) s one other x y = chosen _ _ _ one other x y
text_outcome (types.Bool options) s one other x y = x ∙ sym y
text_outcome (types.Date options) s one other x y = x ∙ sym y
text_outcome (types.Facet options) s one other x y = x ∙ sym y
text_outcome (types.Bytes options) s one other x y = x ∙ sym y
text_outcome (types.JsonObject options) s one other x y = x ∙ sym y
text_outcome (types.IpAddr options) s one other x y = address s one other x y
