-- How the type of a value and what stands after it make the value.
use Rattle.std.proofs.Common.{◌≡◌, ◌≢◌, ℕ, true, false, List, [], ◌∷◌, ◌++◌, Option, Some, None, Result, Ok, refl, sym, subst, ◌∙◌, arith}
use Rattle.tv_base.specs.declared.cause.Cause.{Cause}
use Rattle.tv_base.specs.declared.cause.Cause.TheVariants.{UnexpectedEnd}
use Rattle.tv_base.specs.Source.{AllBytes, Failures}
use Rattle.tv_base.specs.Stop.{Stop}
use Rattle.tv_base.specs.Take as reads
use Rattle.tv_base.proofs.Agrees.{same_start}
use Rattle.tv_reader.specs.Legacy.{Legacy}
use Rattle.tv_format.specs.InputError.{Refusal, corrupted, no_text_key, no_extension, other_extension, in_tokenized, ErrorInBody, ErrorInCodedKey, key_ends, key_unknown, key_float, key_other, key_no_extension, key_tokenized, key_other_extension, value_ends, unknown_code, float_code, in_leaf, in_legacy, in_count, in_element, in_entry_count, odd_count, in_entry_key, in_entry}
use Rattle.tv_format.specs.Leaves.{store_code}
use Rattle.tv_format.specs.Encoding.{Encodes}
use Rattle.tv_format.specs.Tree.{Tree}
use Rattle.tv_format.specs.Version.{Version}
use Rattle.tv_reader.specs.Finds.{FindsBy}
use Rattle.tv_reader.specs.Kinds.{kind_at}
use Rattle.tv_reader.specs.LeafBodies.{LeafOf, ErrorInLeafOf}
use Rattle.tv_reader.specs.Leaves.{is_leaf_type}
use Rattle.tv_reader.specs.Trees.{NoValue}
use Rattle.tv_reader.specs.ValueType.{leaf_type, value_type_code, type_prefix, ErrorInCode, no_code, unknown_type, float_type, no_extension_code, unknown_extension}
use Rattle.tv_reader.specs.declared.error.DeserializeError.{DeserializeError}
use Rattle.tv_reader.specs.declared.value_type.ValueType.{ValueType}
use Rattle.tv_reader.specs.declared.value_type.ValueType.TheVariants as types
use Rattle.tv_format.specs.declared.leaf_type.LeafType.{LeafType}
use Rattle.tv_format.specs.declared.leaf_type.LeafType.TheVariants as leaves
use Rattle.tv_reader.proofs.AgreeKinds.{kind_agrees}
use Rattle.tv_reader.proofs.Finding.{finds_then, finds_ok, finds_part}

abbrev end : Refusal
end = corrupted UnexpectedEnd

-- ---- after a code

-- without its last byte a code is at its end
pub kind_edge : {F : Type 0} (end : F) (Q : List ℕ → F → Type 0) → Q [] end → Q (7 ∷ []) end → (kind : ValueType) (start : List ℕ) (byte : ℕ) → type_prefix kind ≡ start ++ byte ∷ [] → Q start end
kind_edge end Q none seven types.PreTokStr start byte last = subst (λ l. Q l end) (sym (same_start start (7 ∷ []) byte 0 (sym last))) seven
kind_edge end Q none seven kind start byte last = subst (λ l. Q l end) (sym (same_start start [] byte (value_type_code kind) (sym last))) none

-- the type was taken, and then what stands after it
pub finds_behind : {S Y : Type 0} {stop : DeserializeError → Stop Refusal} {May : DeserializeError → ℕ → Type 0} {is_known : S → Type 0} {left : S → List ℕ} {failures : S → Failures} {old mid new : S} {i j k : ℕ} {kind : ValueType} {result : Result Y DeserializeError} (B : List ℕ → Y → Type 0) (Q : List ℕ → Refusal → Type 0)
    → ((source : S) → is_known source → AllBytes (left source)) → Q [] end → Q (7 ∷ []) end → reads.TakesIf reads.MayStopLean is_known left failures old i mid j (λ x. x) (Ok kind) kind_at
    → FindsBy stop May end is_known left failures mid j new k result (λ b y. B (type_prefix kind ++ b) y) (λ w r. Q (type_prefix kind ++ w) r) → FindsBy stop May end is_known left failures old i new k result B Q
finds_behind {stop = stop} {May = May} {kind = kind} B Q are_bytes none seven part h =
    finds_then B Q
    (λ a b y is p. subst (λ l. B (l ++ b) y) (sym is) p)
    (λ a w c is q. subst (λ l. Q (l ++ w) c) (sym is) q)
    (λ a f is _ _ start byte last. kind_edge end Q none seven kind start byte (sym is ∙ last))
    (finds_ok stop May (finds_part are_bytes kind_agrees part)) h

-- what a leaf of a type holds is malformed
pub held_error : {v : Version} {w : List ℕ} {c : Cause} (t : LeafType) → ErrorInBody v t w c → NoValue v (store_code t ∷ w) (corrupted c)
held_error t h = in_leaf (record { of_type = t; coded = refl; error = h })

pub code_value : (v : Version) (w : List ℕ) (c : Cause) → ErrorInCode w c → NoValue v w (corrupted c)
code_value v _ _ no_code = value_ends
code_value v _ _ (unknown_type h) = unknown_code h
code_value v _ _ float_type = float_code
code_value v _ _ no_extension_code = held_error leaves.PreTokStr (no_extension refl)
code_value v _ _ (unknown_extension {rest = rest} h) = held_error leaves.PreTokStr (other_extension rest refl h)

pub code_key : (w : List ℕ) (c : Cause) → ErrorInCode w c → ErrorInCodedKey w (corrupted c)
code_key _ _ no_code = key_ends
code_key _ _ (unknown_type h) = key_unknown h
code_key _ _ float_type = key_float
code_key _ _ no_extension_code = key_no_extension
code_key _ _ (unknown_extension h) = key_other_extension h

-- a value of another type in a key's place
pub other_key : (kind : ValueType) (rest : List ℕ) → kind ≢ types.String → ErrorInCodedKey (type_prefix kind ++ rest) (no_text_key (value_type_code kind))
other_key types.String rest ne = absurd (ne refl)
other_key types.PreTokStr rest ne = key_tokenized
other_key _ rest ne = key_other (omega arith) (omega arith) (λ e. omega (arith, e)) (λ e. omega (arith, e))

-- ---- leaves

pub leaf_encoded : (v : Version) (kind : ValueType) (a : List ℕ) (t : Tree) → LeafOf v kind a t → Encodes Legacy v (type_prefix kind ++ a) t
leaf_encoded v types.PreTokStr a t p = subst (Encodes Legacy v (7 ∷ 0 ∷ a)) (sym p.2) (record { body = 0 ∷ a; joined = refl; encoded = record { body = a; joined = refl; encoded = p.1 } })
leaf_encoded v types.JSONObject a t p = absurd p
leaf_encoded v types.Null a t p = subst (Encodes Legacy v (11 ∷ a)) (sym p.1) (record { body = a; joined = refl; encoded = p.0 })
leaf_encoded v types.Array a t p = absurd p
leaf_encoded v types.Object a t p = absurd p
leaf_encoded v kind a t p = subst (Encodes Legacy v (type_prefix kind ++ a)) (sym p.2) (record { body = a; joined = refl; encoded = p.1 })

impossible : false ≡ true → ⊥
impossible e = absurd cc

abbrev pub type_or_text : Option LeafType → LeafType
type_or_text (Some t) = t
type_or_text None = leaves.Str

pub leaf_refused : (v : Version) (kind : ValueType) → is_leaf_type kind ≡ true → (w : List ℕ) (c : Cause) → ErrorInLeafOf v kind w c → NoValue v (type_prefix kind ++ w) (corrupted c)
leaf_refused v types.PreTokStr is w c h = held_error leaves.PreTokStr (in_tokenized w refl h)
leaf_refused v types.JSONObject is w c h = absurd (impossible is)
leaf_refused v types.Array is w c h = absurd (impossible is)
leaf_refused v types.Object is w c h = absurd (impossible is)
leaf_refused v kind is w c h = held_error (type_or_text (leaf_type kind)) h

-- all types but those of three
pub is_leaf : (kind : ValueType) → kind ≢ types.Array → kind ≢ types.Object → kind ≢ types.JSONObject → is_leaf_type kind ≡ true
is_leaf types.JSONObject a b c = absurd (c refl)
is_leaf types.Array a b c = absurd (a refl)
is_leaf types.Object a b c = absurd (b refl)
is_leaf _ a b c = refl

-- ---- no bytes

no_cons : {b : ℕ} {rest : List ℕ} → b ∷ rest ≡ [] → ⊥
no_cons e = absurd cc

-- where there are no bytes, their end is the error
pub value_ended : {v : Version} {w : List ℕ} {r : Refusal} → w ≡ [] → NoValue v w r → r ≡ end
value_ended e value_ends = refl
value_ended e (unknown_code h) = absurd (no_cons e)
value_ended e float_code = absurd (no_cons e)
value_ended e (in_leaf h) = absurd (no_cons e)
value_ended e (in_legacy h) = absurd (no_cons e)
value_ended e (in_count h) = absurd (no_cons e)
value_ended e (in_element n ts count prefix rest joined number encoded fewer h) = absurd (no_cons e)
value_ended e (in_entry_count h) = absurd (no_cons e)
value_ended e (odd_count n count rest joined number none) = absurd (no_cons e)
value_ended e (in_entry_key n es count prefix rest joined number encoded fewer h) = absurd (no_cons e)
value_ended e (in_entry n es k count prefix key rest joined number encoded fewer keyed h) = absurd (no_cons e)
