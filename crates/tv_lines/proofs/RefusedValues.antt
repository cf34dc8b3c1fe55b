-- The first value of a line that its field's type refuses, and what is told of it.
use Rattle.std.proofs.Common.{◌≡◌, ℕ, Bool, String, Global, string_bytes, true, false, List, [], ◌∷◌, ◌++◌, Option, Some, None, Ok, Err, slice_get, refl, sym, ap, subst, ◌∙◌, inl, inr, append_assoc}
use Rattle.std.proofs.lemmas.Option.{same_Some}
use Rattle.serde_json.specs.Data as json
use Rattle.serde_json.specs.Data.{Data, Members, object}
use Rattle.serde_json.specs.Find.{as_array}
use Rattle.serde_json.specs.Read.{read}
use Rattle.serde_json.specs.View.{view}
use Rattle.serde_json.specs.declared.value.Value.{Value}
use Rattle.tv_lines.specs.RefusedValues.{AreAccepted, FindsRefused, FirstRefused, IsFloatOf}
use Rattle.tv_doc.specs.JsonObject.{FieldJson, Pairs, Parses, object_values, values_at, values_for}
use Rattle.tv_doc.specs.declared.errors.DocParsingError.TheVariants.{ValueError}
use Rattle.std.specs.Option.{IfSome}
use Rattle.tv_field.specs.Entry.{Entry}
use Rattle.tv_field.specs.JsonAnswer.{refusal_of}
use Rattle.tv_field.specs.declared.json_value.JsonRefusal.{JsonRefusal}
use Rattle.tv_field.specs.declared.json_value.JsonRefusal.TheVariants as refusal
use Rattle.tv_field.specs.JsonTable.{Outcome, TableRefusal, Chooses, I64Row, IpRow, IpText, SignedText, Table, U64Row, UnsignedText}
use Rattle.tv_field.specs.declared.field_type.FieldType.{FieldType}
use Rattle.tv_field.specs.declared.field_type.FieldType.TheVariants as types
use Rattle.tv_field.specs.declared.value_parsing_error.ValueParsingError.TheVariants.{FloatNumber}
use Rattle.tv_format.specs.Tree.{Leaf, Tree, Document}

-- ---- a value is accepted or refused

not_both : (o : Outcome) (t : Tree) (r : TableRefusal) → Ok t ≡ o → Err r ≡ o → ⊥
not_both o t r h k = cc

never_equal : (t : Tree) (r : TableRefusal) → Ok t ≡ Err r → ⊥
never_equal t r e = cc

chosen : (P : Type 0) (l : Leaf) (q : TableRefusal) (t : Tree) (r : TableRefusal) → Chooses P l q (Ok t) → Chooses P l q (Err r) → ⊥
chosen P l q t r h k = elim h [ inl a ↦ elim k [ inl b ↦ not_both _ t r a.1 b.1 | inr b ↦ b.0 a.0 ] | inr a ↦ never_equal t q a.1 ]

unsigned_text : (coerce : Bool) (s : List ℕ) (t : Tree) (r : TableRefusal) → UnsignedText coerce s (Ok t) → UnsignedText coerce s (Err r) → ⊥
unsigned_text true s t r h k = chosen _ _ _ t r h k
unsigned_text false s t r h k = not_both _ t r h k

signed_text : (coerce : Bool) (s : List ℕ) (t : Tree) (r : TableRefusal) → SignedText coerce s (Ok t) → SignedText coerce s (Err r) → ⊥
signed_text true s t r h k = chosen _ _ _ t r h k
signed_text false s t r h k = not_both _ t r h k

ip_text : (s : List ℕ) (t : Tree) (r : TableRefusal) → IpText s (Ok t) → IpText s (Err r) → ⊥
ip_text s t r h k = elim h [ inl a ↦ elim k [ inl b ↦ never_equal _ r (sym b.2) | inr b ↦ b.0 a.0 a.1 ] | inr a ↦ never_equal t _ a.1 ]

unsigned_row : (coerce : Bool) (d : Data) (t : Tree) (r : TableRefusal) → U64Row coerce d (Ok t) → U64Row coerce d (Err r) → ⊥
unsigned_row coerce (json.string s) t r h k = unsigned_text coerce s t r h k
unsigned_row coerce d t r h k = not_both _ t r h k

signed_row : (coerce : Bool) (d : Data) (t : Tree) (r : TableRefusal) → I64Row coerce d (Ok t) → I64Row coerce d (Err r) → ⊥
signed_row coerce (json.string s) t r h k = signed_text coerce s t r h k
signed_row coerce d t r h k = not_both _ t r h k

ip_row : (d : Data) (t : Tree) (r : TableRefusal) → IpRow d (Ok t) → IpRow d (Err r) → ⊥
ip_row (json.string s) t r h k = ip_text s t r h k
ip_row d t r h k = not_both _ t r h k

one_outcome : (type : FieldType) (d : Data) (t : Tree) (r : TableRefusal) → Table type d (Ok t) → Table type d (Err r) → ⊥
one_outcome (types.U64 options) d t r h k = unsigned_row options.part.coerce d t r h k
one_outcome (types.I64 options) d t r h k = signed_row options.part.coerce d t r h k
one_outcome (types.IpAddr options) d t r h k = ip_row d t r h k
one_outcome (types.Str options) d t r h k = not_both _ t r h k
one_outcome (types.Bool options) d t r h k = not_both _ t r h k
one_outcome (types.Date options) d t r h k = not_both _ t r h k
one_outcome (types.Facet options) d t r h k = not_both _ t r h k
one_outcome (types.Bytes options) d t r h k = not_both _ t r h k
one_outcome (types.JsonObject options) d t r h k = not_both _ t r h k

-- ---- the first that is refused

-- the value is refused
abbrev IsRefused : FieldJson → Type 0
IsRefused v = (r : TableRefusal) × Table v.field_type v.value (Err r)

-- all are accepted, so none of them is refused
none_refused : (before behind : List FieldJson) (at : FieldJson) (pairs : Document) → Pairs (before ++ at ∷ behind) pairs → IsRefused at → ⊥
none_refused [] behind at pairs h k = one_outcome at.field_type at.value h.0 k.0 h.2 k.1
none_refused (v ∷ vs) behind at pairs h k = none_refused vs behind at h.1 h.4 k

head_is : {A : Type 0} {x y : A} {xs ys : List A} → x ∷ xs ≡ y ∷ ys → x ≡ y
head_is e = cc

tail_is : {A : Type 0} {x y : A} {xs ys : List A} → x ∷ xs ≡ y ∷ ys → xs ≡ ys
tail_is e = cc

-- one that is accepted stands where another is refused
never_both : (v at : FieldJson) (pairs : Document) (vs : List FieldJson) → v ≡ at → Pairs (v ∷ vs) pairs → IsRefused at → ⊥
never_both v at pairs vs same h k = let is : IsRefused v = subst IsRefused (sym same) k in one_outcome v.field_type v.value h.0 is.0 h.2 is.1

one_first : (before before' behind behind' : List FieldJson) (at at' : FieldJson) → before ++ at ∷ behind ≡ before' ++ at' ∷ behind' → AreAccepted before → AreAccepted before' → IsRefused at → IsRefused at' → at ≡ at'
one_first [] [] behind behind' at at' e h h' k k' = head_is e
one_first [] (v ∷ vs) behind behind' at at' e h h' k k' = absurd (never_both v at h'.0 vs (sym (head_is e)) h'.1 k)
one_first (v ∷ vs) [] behind behind' at at' e h h' k k' = absurd (never_both v at' h.0 vs (head_is e) h.1 k')
one_first (v ∷ vs) (w ∷ ws) behind behind' at at' e h h' k k' = one_first vs ws behind behind' at at' (tail_is e) (h.1.1, h.1.4) (h'.1.1, h'.1.4) k k'

-- ---- the value that is found

-- more values are accepted before them
both_accepted : (vs ws : List FieldJson) → AreAccepted vs → AreAccepted ws → AreAccepted (vs ++ ws)
both_accepted [] ws h k = k
both_accepted (v ∷ vs) ws h k =
    let rest = both_accepted vs ws (h.1.1, h.1.4) k in
    ((v.field, h.1.0) ∷ rest.0, (h.1.0, rest.0, h.1.2, refl, rest.1))

found_behind : (vs ws : List FieldJson) (found : Option Value) → AreAccepted vs → FindsRefused ws found → FindsRefused (vs ++ ws) found
found_behind vs ws None h k = both_accepted vs ws h k
found_behind vs ws (Some json) h k = record {
  before = vs ++ k.before;
  at = k.at;
  behind = k.behind;
  joined = ap (λ rest. vs ++ rest) k.joined ∙ sym (append_assoc vs k.before (k.at ∷ k.behind));
  accepted = both_accepted vs k.before h k.accepted;
  refusal = k.refusal;
  refused = k.refused;
  value = k.value;
}

found_before : (vs ws : List FieldJson) (json : Value) → FindsRefused vs (Some json) → FindsRefused (vs ++ ws) (Some json)
found_before vs ws json k = record {
  before = k.before;
  at = k.at;
  behind = k.behind ++ ws;
  joined = ap (λ all. all ++ ws) k.joined ∙ append_assoc k.before (k.at ∷ k.behind) ws;
  accepted = k.accepted;
  refusal = k.refusal;
  refused = k.refused;
  value = k.value;
}

-- what is found among the rest is what is found among all
pub record StandsFor (all rest : List FieldJson) : Type 0 where
  pub for : (found : Option Value) → FindsRefused rest found → FindsRefused all found

pub none_passed : (all : List FieldJson) → StandsFor all all
none_passed all = record { for = λ found h. h }

pub passed : (all rest values others : List FieldJson) → StandsFor all rest → rest ≡ values ++ others → AreAccepted values → StandsFor all others
passed all rest values others s parted h =
    record { for = λ found k. s.for found (subst (λ vs. FindsRefused vs found) (sym parted) (found_behind values others found h k)) }

pub found_there : (all rest values others : List FieldJson) (json : Value) → StandsFor all rest → rest ≡ values ++ others → FindsRefused values (Some json) → FindsRefused all (Some json)
found_there all rest values others json s parted h =
    s.for (Some json) (subst (λ vs. FindsRefused vs (Some json)) (sym parted) (found_before values others json h))

pub all_passed : (all rest : List FieldJson) → StandsFor all rest → rest ≡ [] → AreAccepted all
all_passed all rest s none = s.for None (subst AreAccepted (sym none) ([], refl))

pub accepted_alone : (v : FieldJson) (t : Tree) → Table v.field_type v.value (Ok t) → AreAccepted (v ∷ [])
accepted_alone v t h = ((v.field, t) ∷ [], (t, [], h, refl, refl))

pub refused_alone : (v : FieldJson) (d : Data) (r : TableRefusal) → d ≡ v.value → Table v.field_type v.value (Err r) → FirstRefused (v ∷ []) d
refused_alone v d r is h = record { before = []; at = v; behind = []; joined = refl; accepted = ([], refl); refusal = r; refused = h; value = is }

pub refused_for : (v : FieldJson) (r : JsonRefusal) → (r ≡ refusal.Memory → ⊥) → IfSome (refusal_of v.value r) (λ x. Table v.field_type v.value (Err x)) → FirstRefused (v ∷ []) v.value
refused_for v (refusal.Overflow expected) other h = refused_alone v v.value _ refl h
refused_for v (refusal.Mismatch expected) other h = refused_alone v v.value _ refl h
refused_for v (refusal.Parse cause) other h = refused_alone v v.value _ refl h
refused_for v refusal.InvalidBase64 other h = refused_alone v v.value _ refl h
refused_for v refusal.FloatNumber other h = refused_alone v v.value _ refl h
refused_for v refusal.Memory other h = absurd (other refl)

-- a value alone, which is no array, at the name of a field
no_array : (name : List ℕ) (field : ℕ) (type : FieldType) (d : Data) → as_array d ≡ None → record { name = name; field = field; field_type = type; value = d } ∷ [] ≡ values_for name field type d
no_array name field type (json.array ds) e = absurd (cc)
no_array name field type d e = refl

pub value_alone : (schema : List Entry) (name : List ℕ) (field : ℕ) (e : Entry) (f : FieldType) (named : Option ℕ) (d : Data) → named ≡ Some field → slice_get schema field ≡ Some e → f ≡ e.field_type → as_array d ≡ None
    → record { name = name; field = field; field_type = f; value = d } ∷ [] ≡ values_at schema name named d
value_alone schema name field e f named d is entry type single = rw is (rw entry (rw type (no_array name field e.field_type d single)))

-- ---- floats

pub object_is : (o : Option Data) (ms ms' : Members) → o ≡ Some (object ms) → o ≡ Some (object ms') → ms ≡ ms'
object_is o ms ms' e e' = let both : Some (object ms) ≡ Some (object ms') = sym e ∙ e' in cc

-- the value that is found is the one for which the text was refused
pub float_found : (schema : List Entry) (text : List ℕ) (name : String Global) (found : Value) → Parses schema text (Err (ValueError name FloatNumber))
    → ((members : Members) → read text ≡ Some (object members) → FindsRefused (object_values schema members) (Some found)) → IsFloatOf schema text (string_bytes name) (view found)
float_found schema text name found h first =
    let stop = h.2.2 in
    let why = stop.refused in
    let k = first h.0 h.1 in
    let same : stop.at ≡ k.at = one_first stop.before k.before stop.behind k.behind stop.at k.at (sym stop.joined ∙ k.joined) (stop.added.pairs, stop.added.by_table) k.accepted (why.0, why.3) (k.refusal, k.refused) in
    record {
      members = h.0;
      reads = h.1;
      first = record {
        before = stop.before;
        at = stop.at;
        behind = stop.behind;
        joined = stop.joined;
        accepted = (stop.added.pairs, stop.added.by_table);
        refusal = why.0;
        refused = why.3;
        value = k.value ∙ sym (ap (λ (v : FieldJson). v.value) same);
      };
      named = why.1;
      float = sym (same_Some _ _ why.2);
    }

pub float_stands : (schema : List Entry) (text : List ℕ) (name : String Global) → Parses schema text (Err (ValueError name FloatNumber))
    → ((members : Members) → read text ≡ Some (object members) → FindsRefused (object_values schema members) None) → ⊥
float_stands schema text name h none =
    let stop = h.2.2 in
    let k = none h.0 h.1 in
    let all : Pairs (stop.before ++ stop.at ∷ stop.behind) k.0 = subst (λ vs. Pairs vs k.0) stop.joined k.1 in
    none_refused stop.before stop.behind stop.at k.0 all (stop.refused.0, stop.refused.3)
