-- How the parts of keys, arrays and objects make them, as they are taken of a source.
use Rattle.std.proofs.Common.{rules, ◌≡◌, ◌≢◌, ℕ, ◌+◌, ◌*◌, ◌%◌, ◌/◌, ◌<◌, true, false, eqb, ◌⊎◌, List, [], ◌∷◌, ◌++◌, length, map, Vec, String, string_bytes, Result, Ok, Err, refl, sym, ap, subst, ◌∙◌, arith, inl, inr}
use Rattle.std.specs.declared.alloc.Global.{Global}
use Rattle.std.proofs.lemmas.Bool.{eqb-true}
use Rattle.std.proofs.lemmas.Bool.Decides.{eqb_tells}
use Rattle.std.proofs.lemmas.List.{append-nil, length-append, length-map, map_push}
use Rattle.tv_base.specs.declared.cause.Cause.{Cause}
use Rattle.tv_base.specs.declared.cause.Cause.TheVariants.{UnexpectedEnd, OddObject}
use Rattle.tv_base.specs.declared.cause.ReadError.{ReadError}
use Rattle.tv_base.specs.Number.{VNum}
use Rattle.tv_base.specs.ErrorInPart.{InThen, ErrorInNumber, number_ends, in_sized}
use Rattle.tv_base.specs.Reading.{text_at, vint_at}
use Rattle.tv_base.specs.Source.{AllBytes, Failures}
use Rattle.tv_base.specs.Take as reads
use Rattle.tv_base.proofs.TakeSteps.{lean}
use Rattle.tv_base.proofs.Agrees.{Agrees, InTurn, agrees_too, in_turn, chosen, nothing_read, nothing_stands}
use Rattle.tv_base.proofs.AgreeNumbers.{vint_agrees}
use Rattle.tv_base.proofs.AgreeParts.{text_agrees}
use Rattle.tv_base.proofs.EarlyNumbers.{number_early}
use Rattle.tv_reader.specs.Legacy.{Legacy}
use Rattle.tv_reader.specs.LegacyReading.{legacy_at}
use Rattle.tv_reader.proofs.AgreeLegacy.{LegacyTree, legacy_agrees}
use Rattle.tv_format.specs.InputError.{Refusal, corrupted, no_text_key, ErrorInCodedKey, key_ends, key_no_extension, in_key, ErrorInKey, corrupt, value_ends, no_extension, in_legacy, in_count, in_element, in_entry_count, odd_count, in_entry_key, in_entry}
use Rattle.tv_format.specs.ErrorInList.{in_next_key, in_next_value}
use Rattle.tv_value.specs.Lent.{key_and}
use Rattle.tv_value.specs.Owned.{owned_tree, owned_entries}
use Rattle.tv_format.specs.Encoding.{Key, Encodes, EncodesElements, EncodesEntries}
use Rattle.tv_format.specs.Tree.{Tree, array, object, elements, element_count, entries, entry_count}
use Rattle.tv_format.specs.Version.{Version, V1, V2, V3, entry_total}
use Rattle.tv_value.specs.declared.owned_value.OwnedValue.{OwnedValue, Array, Object, the_lemmas}
use Rattle.tv_format.proofs.SingleLeaves.{key_single}
use Rattle.tv_format.proofs.Lists.{elements-length, entries-length, encodes_push, entries_push}
use Rattle.tv_reader.specs.Counts.{half_of, half_at, entry_count_at}
use Rattle.tv_reader.specs.Error.{read_error, store_stop, tree_stop, StoreMayStopDeep, StoreMayStopRoomy}
use Rattle.tv_reader.specs.Finds.{FindsIf, FindsDeepBy}
use Rattle.tv_reader.specs.Kinds.{kind_at}
use Rattle.tv_reader.specs.Leaves.{is_leaf_type, leaf_at}
use Rattle.tv_reader.specs.Trees.{EncodesValue, NoValue, EncodesBehind, NoneBehind, EncodesItems, NoItems, EncodesMember, NoMember, EncodesMembers, NoMembers, CodedKey, EncodesTwice, ErrorInTwice, in_number, odd_number, EncodesEntryCount, ErrorInEntryCount, in_count_number, odd_count_number}
use Rattle.tv_reader.specs.ValueType.{value_type_code, type_prefix}
use Rattle.tv_reader.specs.Version.{version_of}
use Rattle.tv_reader.specs.declared.error.DeserializeError.{DeserializeError}
use Rattle.tv_reader.specs.declared.error.DeserializeError.TheVariants as errors
use Rattle.tv_reader.specs.declared.value_type.ValueType.{ValueType}
use Rattle.tv_reader.specs.declared.value_type.ValueType.TheVariants as types
use Rattle.tv_reader.specs.declared.version.DocStoreVersion.{DocStoreVersion}
use Rattle.tv_reader.proofs.AgreeLeaves.{leaf_agrees}
use Rattle.tv_reader.proofs.BehindKinds.{finds_behind, other_key, leaf_encoded, leaf_refused, value_ended, held_error}
use Rattle.tv_format.specs.declared.leaf_type.LeafType.TheVariants as leaves
use Rattle.tv_reader.proofs.Finding.{finds_then, finds_as, finds_fails, finds_ok, finds_part, finds_part_deep, finds_part_fails, raised_roomy, finds_refused, roomy_deep}

abbrev end : Refusal
end = corrupted UnexpectedEnd

-- ---- keys

pub key_found : {S : Type 0} {is_known : S → Type 0} {left : S → List ℕ} {failures : S → Failures} {old mid new : S} {i j k : ℕ} {kind : ValueType} {key : String Global}
    → ((source : S) → is_known source → AllBytes (left source)) → kind ≡ types.String → reads.TakesIf reads.MayStopLean is_known left failures old i mid j (λ x. x) (Ok kind) kind_at
    → reads.TakesIf reads.MayStop is_known left failures mid j new k (λ s. string_bytes s) (Ok key) text_at → FindsIf StoreMayStopRoomy is_known left failures old i new k (Ok key) CodedKey ErrorInCodedKey
key_found {key = key} are_bytes is part text_part =
    finds_behind CodedKey ErrorInCodedKey are_bytes key_ends key_no_extension part
    (finds_as key _ _ (λ a t. subst (λ z. CodedKey (type_prefix z ++ a) key) (sym is) (record { body = a; joined = refl; encoded = t })) (finds_part are_bytes text_agrees text_part))

pub key_text_fails : {S : Type 0} {is_known : S → Type 0} {left : S → List ℕ} {failures : S → Failures} {old mid new : S} {i j k : ℕ} {kind : ValueType} {e : ReadError}
    → ((source : S) → is_known source → AllBytes (left source)) → kind ≡ types.String → reads.TakesIf reads.MayStopLean is_known left failures old i mid j (λ x. x) (Ok kind) kind_at
    → reads.TakesIf {X = String Global} reads.MayStop is_known left failures mid j new k (λ s. string_bytes s) (Err e) text_at → FindsIf {X = String Global} StoreMayStopRoomy is_known left failures old i new k (Err (read_error e)) CodedKey ErrorInCodedKey
key_text_fails are_bytes is part text_part =
    finds_behind CodedKey ErrorInCodedKey are_bytes key_ends key_no_extension part
    (finds_part_fails _ _ raised_roomy are_bytes text_agrees (λ w c f. subst (λ z. ErrorInCodedKey (type_prefix z ++ w) (corrupted c)) (sym is) (in_key f)) text_part)

pub key_refused : {S : Type 0} {is_known : S → Type 0} {left : S → List ℕ} {failures : S → Failures} {old mid : S} {i j : ℕ} {kind : ValueType}
    → ((source : S) → is_known source → AllBytes (left source)) → kind ≢ types.String → reads.TakesIf reads.MayStopLean is_known left failures old i mid j (λ x. x) (Ok kind) kind_at
    → FindsIf StoreMayStopRoomy is_known left failures old i mid j (Err (errors.TypeMismatch types.String kind)) CodedKey ErrorInCodedKey
key_refused {is_known = is_known} {left = left} {failures = failures} {mid = mid} {j = j} {kind = kind} are_bytes other part =
    finds_behind CodedKey ErrorInCodedKey are_bytes key_ends key_no_extension part
    (finds_refused store_stop end is_known left failures mid j (errors.TypeMismatch types.String kind) (no_text_key (value_type_code kind)) _ _ refl (tt, λ is. cc) (λ e. cc) (λ w. other_key kind w other))

-- a key as a text that owns its bytes
abbrev pub KeyEncoded : Version → List ℕ → String Global → Type 0
KeyEncoded v b key = Key v b (string_bytes key)

-- without a code
pub plain_key_found : {S : Type 0} {is_known : S → Type 0} {left : S → List ℕ} {failures : S → Failures} {old new : S} {i k : ℕ} {key : String Global}
    → ((source : S) → is_known source → AllBytes (left source)) → reads.TakesIf reads.MayStop is_known left failures old i new k (λ s. string_bytes s) (Ok key) text_at → FindsIf StoreMayStopRoomy is_known left failures old i new k (Ok key) (KeyEncoded V3) (ErrorInKey V3)
plain_key_found {key = key} are_bytes h = finds_as key _ _ (λ a t. t) (finds_part are_bytes text_agrees h)

pub plain_key_fails : {S : Type 0} {is_known : S → Type 0} {left : S → List ℕ} {failures : S → Failures} {old new : S} {i k : ℕ} {e : ReadError}
    → ((source : S) → is_known source → AllBytes (left source)) → reads.TakesIf {X = String Global} reads.MayStop is_known left failures old i new k (λ s. string_bytes s) (Err e) text_at
    → FindsIf {X = String Global} StoreMayStopRoomy is_known left failures old i new k (Err (read_error e)) (KeyEncoded V3) (ErrorInKey V3)
plain_key_fails are_bytes h = finds_part_fails _ _ raised_roomy are_bytes text_agrees (λ w c f. corrupt f) h

-- where there are no bytes, their end is the error
pub no_key : (v : Version) → ErrorInKey v [] end
no_key V1 = key_ends
no_key V2 = key_ends
no_key V3 = corrupt (in_sized (inl (number_ends (omega arith) tt)))

pub key_error_ended : (v : Version) (w : List ℕ) (r : Refusal) → w ≡ [] → ErrorInKey v w r → r ≡ end
key_error_ended v w r e h = key_single v w r end h (subst (λ z. ErrorInKey v z end) (sym e) (no_key v))

-- ---- twice a number

abbrev Half : ℕ → List ℕ → ℕ → Type 0
Half n rest m = ((eqb (n % 2) 0 ≡ true) × ((rest ≡ []) × (m ≡ n / 2))) ⊎ ((eqb (n % 2) 0 ≡ false) × ⊥)

abbrev ErrorInHalf : ℕ → List ℕ → Cause → Type 0
ErrorInHalf n rest c = ((eqb (n % 2) 0 ≡ true) × ⊥) ⊎ ((eqb (n % 2) 0 ≡ false) × (c ≡ OddObject))

half_to : (whole : List ℕ) (m : ℕ) → AllBytes whole → InTurn VNum Half whole m → EncodesTwice whole m
half_to whole m small p = elim p.1.second [
  | inl q ↦
      let all : p.1.prefix ≡ whole = sym (p.1.joined ∙ ap (λ (l : List ℕ). p.1.prefix ++ l) q.1.0 ∙ append-nil p.1.prefix) in
      let even : p.0 % 2 ≡ 0 = eqb-true (p.0 % 2) 0 q.0 in
      let twice : p.0 ≡ 2 * m = omega (arith, q.1.1, even) in
      subst (λ n. VNum whole n) twice (subst (λ w. VNum w p.0) all p.1.first)
  | inr q ↦ absurd q.1
]

even_test : (m : ℕ) → eqb ((2 * m) % 2) 0 ≡ true
even_test m = elim (eqb_tells ((2 * m) % 2) 0) [ inl p ↦ p.0 | inr p ↦ absurd (p.1 (omega arith)) ]

odd_apart : (n m : ℕ) → eqb (n % 2) 0 ≡ false → 2 * m ≢ n
odd_apart n m e = elim (eqb_tells (n % 2) 0) [ inl p ↦ absurd (impossible (sym p.0 ∙ e)) | inr p ↦ λ same. p.1 (omega (arith, same)) ]
  where
    impossible : true ≡ false → ⊥
    impossible e = absurd cc

half_from : (whole : List ℕ) (m : ℕ) → EncodesTwice whole m → InTurn VNum Half whole m
half_from whole m h = (2 * m, record { prefix = whole; rest = []; joined = sym (append-nil whole); first = h; second = inl (even_test m, (refl, omega arith)) })

half_errors : (whole : List ℕ) (c : Cause) → AllBytes whole → InThen ErrorInNumber VNum ErrorInHalf whole c → ErrorInTwice whole c
half_errors whole c small p = elim p [
  | inl h ↦ in_number h
  | inr q ↦ elim q.1.second [
    | inl r ↦ absurd r.1
    | inr r ↦ subst (ErrorInTwice whole) (sym r.1) (odd_number q.0 q.1.prefix q.1.rest q.1.joined q.1.first (λ m. odd_apart q.0 m r.0))
  ]
]

pub half_agrees : Agrees UnexpectedEnd half_at EncodesTwice ErrorInTwice
unfolding half_at
half_agrees = agrees_too (λ whole. refl) half_to half_from half_errors
    (in_turn {b = half_of} vint_agrees (λ n. chosen (eqb (n % 2) 0) (nothing_read UnexpectedEnd (n / 2)) (nothing_stands OddObject (λ e. cc))))

-- ---- the number of entries

-- where it is announced twice over
twice_announced : (v : Version) → ((m : ℕ) → entry_total v m ≡ 2 * m) → (whole : List ℕ) (c : Cause) → ErrorInTwice whole c → ErrorInEntryCount v whole c
twice_announced v twice whole c (in_number f) = in_count_number f
twice_announced v twice whole _ (odd_number n prefix rest joined number none) = odd_count_number n prefix rest joined number (λ m e. none m (sym (twice m) ∙ e))

pub entry_count_agrees : (v : Version) → Agrees UnexpectedEnd (entry_count_at v) (EncodesEntryCount v) (ErrorInEntryCount v)
unfolding entry_count_at
entry_count_agrees V1 = agrees_too (λ whole. refl) (λ whole n small h. h) (λ whole n h. h) (λ whole c small f. twice_announced V1 (λ m. refl) whole c f) half_agrees
entry_count_agrees V2 = agrees_too (λ whole. refl) (λ whole n small h. h) (λ whole n h. h) (λ whole c small f. twice_announced V2 (λ m. refl) whole c f) half_agrees
entry_count_agrees V3 = agrees_too (λ whole. refl) (λ whole n small h. h) (λ whole n h. h) (λ whole c small f. in_count_number f) vint_agrees

-- ---- leaves

pub leaf_found : {S : Type 0} {is_known : S → Type 0} {left : S → List ℕ} {failures : S → Failures} {old new : S} {i k : ℕ} {value : OwnedValue} (v : Version) (kind : ValueType)
    → ((source : S) → is_known source → AllBytes (left source)) → reads.TakesIf reads.MayStop is_known left failures old i new k owned_tree (Ok value) (leaf_at v kind)
    → FindsIf StoreMayStopRoomy is_known left failures old i new k (Ok value) (EncodesBehind v kind) (NoneBehind v kind)
leaf_found {value = value} v kind are_bytes h = finds_as value _ _ (λ a p. leaf_encoded v kind a (owned_tree value) p) (finds_part are_bytes (leaf_agrees v kind) h)

pub leaf_fails : {S : Type 0} {is_known : S → Type 0} {left : S → List ℕ} {failures : S → Failures} {old new : S} {i k : ℕ} {e : ReadError} (v : Version) (kind : ValueType)
    → ((source : S) → is_known source → AllBytes (left source)) → is_leaf_type kind ≡ true → reads.TakesIf reads.MayStop is_known left failures old i new k owned_tree (Err e) (leaf_at v kind)
    → FindsIf StoreMayStopRoomy is_known left failures old i new k (Err (read_error e)) (EncodesBehind v kind) (NoneBehind v kind)
leaf_fails v kind are_bytes is h = finds_part_fails _ _ raised_roomy are_bytes (leaf_agrees v kind) (leaf_refused v kind is) h

-- ---- legacy objects

legacy_encoded : (v : Version) (a : List ℕ) (t : Tree) → LegacyTree a t → Encodes Legacy v (8 ∷ a) t
legacy_encoded v a t h = subst (Encodes Legacy v (8 ∷ a)) (sym h.is) (inr (record { body = a; joined = refl; encoded = h.encoded }))

pub legacy_found : {S : Type 0} {is_known : S → Type 0} {left : S → List ℕ} {failures : S → Failures} {old new : S} {i k : ℕ} {value : OwnedValue} (v : Version)
    → ((source : S) → is_known source → AllBytes (left source)) → reads.TakesIf reads.MayStop is_known left failures old i new k owned_tree (Ok value) legacy_at
    → FindsIf StoreMayStopRoomy is_known left failures old i new k (Ok value) (EncodesBehind v types.JSONObject) (NoneBehind v types.JSONObject)
legacy_found {value = value} v are_bytes h = finds_as value _ _ (λ a p. legacy_encoded v a (owned_tree value) p) (finds_part are_bytes legacy_agrees h)

pub legacy_fails : {S : Type 0} {is_known : S → Type 0} {left : S → List ℕ} {failures : S → Failures} {old new : S} {i k : ℕ} {e : ReadError} (v : Version)
    → ((source : S) → is_known source → AllBytes (left source)) → reads.TakesIf reads.MayStop is_known left failures old i new k owned_tree (Err e) legacy_at
    → FindsIf StoreMayStopRoomy is_known left failures old i new k (Err (read_error e)) (EncodesBehind v types.JSONObject) (NoneBehind v types.JSONObject)
legacy_fails v are_bytes h = finds_part_fails _ _ raised_roomy are_bytes legacy_agrees (λ w c f. in_legacy f) h

-- a value, by its type and what stands after it
pub value_then : {S : Type 0} {is_known : S → Type 0} {left : S → List ℕ} {failures : S → Failures} {old mid new : S} {i j k : ℕ} {kind : ValueType} {result : Result OwnedValue DeserializeError} (v : Version)
    → ((source : S) → is_known source → AllBytes (left source)) → reads.TakesIf reads.MayStopLean is_known left failures old i mid j (λ x. x) (Ok kind) kind_at
    → FindsDeepBy is_known left failures mid j new k result (EncodesBehind v kind) (NoneBehind v kind) → FindsDeepBy is_known left failures old i new k result (EncodesValue v) (NoValue v)
value_then v are_bytes part h = finds_behind (EncodesValue v) (NoValue v) are_bytes value_ends (held_error leaves.PreTokStr (no_extension refl)) part h

-- ---- arrays

pub owned-Array : (v : Vec OwnedValue Global) → owned_tree (Array v) ≡ array (elements (map owned_tree v.items))
owned-Array v = search (rules, the_lemmas)

pub owned-Object : (v : Vec (String Global × OwnedValue) Global) → owned_tree (Object v) ≡ object (entries (owned_entries v.items))
owned-Object v = search (rules, the_lemmas)

array_of : (v : Version) (n : ℕ) (a b : List ℕ) (xs : Vec OwnedValue Global) → VNum a n → EncodesItems v n b xs → Encodes Legacy v (12 ∷ (a ++ b)) (array (elements (map owned_tree xs.items)))
array_of v n a b xs r s =
    let many : n ≡ element_count (elements (map owned_tree xs.items)) = sym s.many ∙ sym (length-map xs.items owned_tree) ∙ sym (elements-length (map owned_tree xs.items)) in
    record { body = a ++ b; joined = refl; encoded = record { prefix = a; rest = b; joined = refl; first = subst (λ m. VNum a m) many r; second = s.encoded } }

array_refused : (v : Version) (n : ℕ) (a w : List ℕ) (r : Refusal) → VNum a n → NoItems v n w r → NoValue v (12 ∷ (a ++ w)) r
array_refused v n a w r number f = in_element n f.before a f.prefix f.rest (ap (λ (l : List ℕ). a ++ l) f.joined) number f.encoded f.fewer f.error

pub array_found : {S : Type 0} {is_known : S → Type 0} {left : S → List ℕ} {failures : S → Failures} {old mid new : S} {i j k n : ℕ} {items : Vec OwnedValue Global} (v : Version)
    → ((source : S) → is_known source → AllBytes (left source)) → reads.TakesIf reads.MayStopLean is_known left failures old i mid j (λ x. x) (Ok n) vint_at
    → FindsDeepBy is_known left failures mid j new k (Ok items) (EncodesItems v n) (NoItems v n) → FindsDeepBy is_known left failures old i new k (Ok (Array items)) (EncodesBehind v types.Array) (NoneBehind v types.Array)
array_found {n = n} {items = items} v are_bytes part h =
    finds_as (Array items) _ _ (λ a s. subst (Encodes Legacy v (12 ∷ a)) (sym (owned-Array items)) s)
    (finds_then (λ b xs. Encodes Legacy v (12 ∷ b) (array (elements (map owned_tree xs.items)))) (λ w r. NoValue v (12 ∷ w) r)
    (λ a b xs r s. array_of v n a b xs r s) (λ a w c r f. array_refused v n a w c r f) (λ a f r _ _ start byte last. in_count (number_early a n r start byte last))
    (finds_part_deep are_bytes vint_agrees part) h)

pub array_fails : {S : Type 0} {is_known : S → Type 0} {left : S → List ℕ} {failures : S → Failures} {old mid new : S} {i j k n : ℕ} {e : DeserializeError} (v : Version)
    → ((source : S) → is_known source → AllBytes (left source)) → reads.TakesIf reads.MayStopLean is_known left failures old i mid j (λ x. x) (Ok n) vint_at
    → FindsDeepBy {X = Vec OwnedValue Global} is_known left failures mid j new k (Err e) (EncodesItems v n) (NoItems v n) → FindsDeepBy is_known left failures old i new k (Err e) (EncodesBehind v types.Array) (NoneBehind v types.Array)
array_fails {n = n} v are_bytes part h =
    finds_then (EncodesBehind v types.Array) (NoneBehind v types.Array)
    (λ a b y r s. absurd s) (λ a w c r f. array_refused v n a w c r f) (λ a f r _ _ start byte last. in_count (number_early a n r start byte last))
    (finds_part_deep are_bytes vint_agrees part) (finds_fails (λ b y. ⊥) (NoItems v n) (λ w c f. f) h)

pub array_count_fails : {S : Type 0} {is_known : S → Type 0} {left : S → List ℕ} {failures : S → Failures} {old new : S} {i k : ℕ} {e : ReadError} (v : Version)
    → ((source : S) → is_known source → AllBytes (left source)) → reads.TakesIf reads.MayStopLean is_known left failures old i new k (λ x. x) (Err e) vint_at → FindsIf StoreMayStopRoomy is_known left failures old i new k (Err (read_error e)) (EncodesBehind v types.Array) (NoneBehind v types.Array)
array_count_fails v are_bytes h = finds_part_fails _ _ raised_roomy are_bytes vint_agrees (λ w c f. in_count f) (lean h)

-- one element more
item_more : (v : Version) (n : ℕ) (a b : List ℕ) (items more : Vec OwnedValue Global) (y : OwnedValue) → more.items ≡ items.items ++ y ∷ [] → EncodesItems v n a items → EncodesValue v b y → EncodesItems v (n + 1) (a ++ b) more
item_more v n a b items more y is p q =
    let trees : map owned_tree more.items ≡ map owned_tree items.items ++ owned_tree y ∷ [] = ap (map owned_tree) is ∙ map_push owned_tree items.items y in
    record {
      many = ap length is ∙ omega (arith, length-append items.items (y ∷ []), p.many);
      encoded = subst (λ ts. EncodesElements Legacy v (a ++ b) (elements ts)) (sym trees) (encodes_push Legacy v (map owned_tree items.items) (owned_tree y) a b p.encoded q);
    }

item_refused : (v : Version) (m n : ℕ) (a w : List ℕ) (items : Vec OwnedValue Global) (r : Refusal) → m < n → EncodesItems v m a items → NoValue v w r → NoItems v n (a ++ w) r
item_refused v m n a w items r less p f = record {
  before = elements (map owned_tree items.items);
  prefix = a;
  rest = w;
  joined = refl;
  encoded = p.encoded;
  fewer = omega (arith, elements-length (map owned_tree items.items), length-map items.items owned_tree, p.many);
  error = f;
}

pub items_more : {S : Type 0} {is_known : S → Type 0} {left : S → List ℕ} {failures : S → Failures} {old mid new : S} {i j k m : ℕ} {items : Vec OwnedValue Global} {y : OwnedValue} (v : Version) (more : Vec OwnedValue Global)
    → more.items ≡ items.items ++ y ∷ [] → FindsDeepBy is_known left failures old i mid j (Ok items) (EncodesItems v m) (λ w r. ⊥) → FindsDeepBy is_known left failures mid j new k (Ok y) (EncodesValue v) (NoValue v)
    → FindsDeepBy is_known left failures old i new k (Ok more) (EncodesItems v (m + 1)) (λ w r. ⊥)
items_more {m = m} {items = items} {y = y} v more is p q =
    finds_as more _ _ (λ a s. s refl)
    (finds_then (λ b z. z ≡ y → EncodesItems v (m + 1) b more) (λ w r. Unit {0})
    (λ a b z r s e. item_more v m a b items more z (is ∙ ap (λ (u : OwnedValue). items.items ++ u ∷ []) (sym e)) r s) (λ a w c r f. tt) (λ a f r _ _ start byte last. tt) p q)

pub items_fail : {S : Type 0} {is_known : S → Type 0} {left : S → List ℕ} {failures : S → Failures} {old mid new : S} {i j k m n : ℕ} {items : Vec OwnedValue Global} {e : DeserializeError} (v : Version)
    → m < n → FindsDeepBy is_known left failures old i mid j (Ok items) (EncodesItems v m) (λ w r. ⊥) → FindsDeepBy {X = OwnedValue} is_known left failures mid j new k (Err e) (EncodesValue v) (NoValue v)
    → FindsDeepBy {X = Vec OwnedValue Global} is_known left failures old i new k (Err e) (EncodesItems v n) (NoItems v n)
items_fail {m = m} {n = n} {items = items} v less p q =
    finds_then (EncodesItems v n) (NoItems v n) (λ a b z r s. absurd s) (λ a w c r f. item_refused v m n a w items c less r f) (λ a f r other nothing start byte last. absurd (other (value_ended refl nothing)))
    p (finds_fails (λ b z. ⊥) (NoValue v) (λ w c f. f) q)

-- ---- objects

object_of : (version : DocStoreVersion) (n : ℕ) (a b : List ℕ) (xs : Vec (String Global × OwnedValue) Global) → EncodesEntryCount (version_of version) a n → EncodesMembers (version_of version) n b xs
    → Encodes Legacy (version_of version) (13 ∷ (a ++ b)) (object (entries (owned_entries xs.items)))
object_of version n a b xs r s =
    let v = version_of version in
    let count : length (owned_entries xs.items) ≡ n = length-map (map (λ m. (m.0, owned_tree m.1)) xs.items) key_and ∙ length-map xs.items (λ m. (m.0, owned_tree m.1)) ∙ s.many in
    let many : entry_total v n ≡ entry_total v (entry_count (entries (owned_entries xs.items))) = ap (entry_total v) (sym (entries-length (owned_entries xs.items) ∙ count)) in
    inl (record { body = a ++ b; joined = refl; encoded = record { prefix = a; rest = b; joined = refl; first = subst (λ m. VNum a m) many r; second = s.encoded } })

object_refused : (version : DocStoreVersion) (n : ℕ) (a w : List ℕ) (r : Refusal) → EncodesEntryCount (version_of version) a n → NoMembers (version_of version) n w r → NoValue (version_of version) (13 ∷ (a ++ w)) r
object_refused version n a w r number (in_next_key es prefix rest joined encoded fewer f) =
    in_entry_key n es a prefix rest (ap (λ (l : List ℕ). a ++ l) joined) number encoded fewer f
object_refused version n a w r number (in_next_value es k prefix key rest joined encoded fewer keyed f) =
    in_entry n es k a prefix key rest (ap (λ (l : List ℕ). a ++ l) joined) number encoded fewer keyed f

pub entry_count_refused : (version : DocStoreVersion) (w : List ℕ) (c : Cause) → ErrorInEntryCount (version_of version) w c → NoValue (version_of version) (13 ∷ w) (corrupted c)
entry_count_refused version w c (in_count_number f) = in_entry_count f
entry_count_refused version w _ (odd_count_number n prefix rest joined number none) = odd_count n prefix rest joined number none

pub object_found : {S : Type 0} {is_known : S → Type 0} {left : S → List ℕ} {failures : S → Failures} {old mid new : S} {i j k n : ℕ} {members : Vec (String Global × OwnedValue) Global} (version : DocStoreVersion)
    → ((source : S) → is_known source → AllBytes (left source)) → reads.TakesIf reads.MayStopLean is_known left failures old i mid j (λ x. x) (Ok n) (entry_count_at (version_of version))
    → FindsDeepBy is_known left failures mid j new k (Ok members) (EncodesMembers (version_of version) n) (NoMembers (version_of version) n)
    → FindsDeepBy is_known left failures old i new k (Ok (Object members)) (EncodesBehind (version_of version) types.Object) (NoneBehind (version_of version) types.Object)
object_found {n = n} {members = members} version are_bytes part h =
    finds_as (Object members) _ _ (λ a s. subst (Encodes Legacy (version_of version) (13 ∷ a)) (sym (owned-Object members)) s)
    (finds_then (λ b xs. Encodes Legacy (version_of version) (13 ∷ b) (object (entries (owned_entries xs.items)))) (λ w r. NoValue (version_of version) (13 ∷ w) r)
    (λ a b xs r s. object_of version n a b xs r s) (λ a w c r f. object_refused version n a w c r f) (λ a f r _ _ start byte last. in_entry_count (number_early a (entry_total (version_of version) n) r start byte last))
    (finds_part_deep are_bytes (entry_count_agrees (version_of version)) part) h)

pub object_fails : {S : Type 0} {is_known : S → Type 0} {left : S → List ℕ} {failures : S → Failures} {old mid new : S} {i j k n : ℕ} {e : DeserializeError} (version : DocStoreVersion)
    → ((source : S) → is_known source → AllBytes (left source)) → reads.TakesIf reads.MayStopLean is_known left failures old i mid j (λ x. x) (Ok n) (entry_count_at (version_of version))
    → FindsDeepBy {X = Vec (String Global × OwnedValue) Global} is_known left failures mid j new k (Err e) (EncodesMembers (version_of version) n) (NoMembers (version_of version) n)
    → FindsDeepBy is_known left failures old i new k (Err e) (EncodesBehind (version_of version) types.Object) (NoneBehind (version_of version) types.Object)
object_fails {n = n} version are_bytes part h =
    finds_then (EncodesBehind (version_of version) types.Object) (NoneBehind (version_of version) types.Object)
    (λ a b y r s. absurd s) (λ a w c r f. object_refused version n a w c r f) (λ a f r _ _ start byte last. in_entry_count (number_early a (entry_total (version_of version) n) r start byte last))
    (finds_part_deep are_bytes (entry_count_agrees (version_of version)) part) (finds_fails (λ b y. ⊥) (NoMembers (version_of version) n) (λ w c f. f) h)

pub object_count_fails : {S : Type 0} {is_known : S → Type 0} {left : S → List ℕ} {failures : S → Failures} {old new : S} {i k : ℕ} {e : ReadError} (version : DocStoreVersion)
    → ((source : S) → is_known source → AllBytes (left source)) → reads.TakesIf reads.MayStopLean is_known left failures old i new k (λ x. x) (Err e) (entry_count_at (version_of version))
    → FindsIf StoreMayStopRoomy is_known left failures old i new k (Err (read_error e)) (EncodesBehind (version_of version) types.Object) (NoneBehind (version_of version) types.Object)
object_count_fails version are_bytes h = finds_part_fails _ _ raised_roomy are_bytes (entry_count_agrees (version_of version)) (entry_count_refused version) (lean h)

-- ---- members

pub member_found : {S : Type 0} {is_known : S → Type 0} {left : S → List ℕ} {failures : S → Failures} {old mid new : S} {i j k : ℕ} {key : String Global} {value : OwnedValue} (version : DocStoreVersion)
    → FindsIf StoreMayStopRoomy is_known left failures old i mid j (Ok key) (KeyEncoded (version_of version)) (ErrorInKey (version_of version)) → FindsDeepBy is_known left failures mid j new k (Ok value) (EncodesValue (version_of version)) (NoValue (version_of version))
    → FindsDeepBy is_known left failures old i new k (Ok (key, value)) (EncodesMember (version_of version)) (NoMember (version_of version))
member_found {key = key} {value = value} version p q =
    finds_as (key, value) _ _ (λ a s. s)
    (finds_then (λ b x. EncodesMember (version_of version) b (key, x)) (λ w r. Unit {0})
    (λ a b x r s. record { prefix = a; rest = b; joined = refl; first = r; second = s }) (λ a w c r f. tt) (λ a f r _ _ start byte last. tt) (finds_ok tree_stop StoreMayStopDeep p) q)

pub member_key_fails : {S : Type 0} {is_known : S → Type 0} {left : S → List ℕ} {failures : S → Failures} {old new : S} {i k : ℕ} {e : DeserializeError} (version : DocStoreVersion)
    → FindsIf {X = String Global} StoreMayStopRoomy is_known left failures old i new k (Err e) (KeyEncoded (version_of version)) (ErrorInKey (version_of version)) → FindsDeepBy {X = String Global × OwnedValue} is_known left failures old i new k (Err e) (EncodesMember (version_of version)) (NoMember (version_of version))
member_key_fails {e = e} version p = finds_fails _ _ (λ w c f. inl f) (roomy_deep (Err e) p)

pub member_value_fails : {S : Type 0} {is_known : S → Type 0} {left : S → List ℕ} {failures : S → Failures} {old mid new : S} {i j k : ℕ} {key : String Global} {e : DeserializeError} (version : DocStoreVersion)
    → FindsIf StoreMayStopRoomy is_known left failures old i mid j (Ok key) (KeyEncoded (version_of version)) (ErrorInKey (version_of version)) → FindsDeepBy {X = OwnedValue} is_known left failures mid j new k (Err e) (EncodesValue (version_of version)) (NoValue (version_of version))
    → FindsDeepBy {X = String Global × OwnedValue} is_known left failures old i new k (Err e) (EncodesMember (version_of version)) (NoMember (version_of version))
member_value_fails {key = key} version p q =
    finds_then (EncodesMember (version_of version)) (NoMember (version_of version)) (λ a b x r s. absurd s)
    (λ a w c r f. inr (string_bytes key, record { prefix = a; rest = w; joined = refl; first = r; second = f }))
    (λ a f r other nothing start byte last. absurd (other (value_ended refl nothing)))
    (finds_ok tree_stop StoreMayStopDeep p) (finds_fails (λ b z. ⊥) (NoValue (version_of version)) (λ w c f. f) q)

pub no_rest : (prefix rest : List ℕ) → [] ≡ prefix ++ rest → rest ≡ []
no_rest [] rest e = sym e
no_rest (b ∷ prefix) rest e = absurd cc

member_ended : (version : DocStoreVersion) (r : Refusal) → NoMember (version_of version) [] r → r ≡ end
member_ended version r p = elim p [
  | inl f ↦ key_error_ended (version_of version) [] r refl f
  | inr q ↦ value_ended (no_rest q.1.prefix q.1.rest q.1.joined) q.1.second
]

member_more : (version : DocStoreVersion) (n : ℕ) (a b : List ℕ) (members more : Vec (String Global × OwnedValue) Global) (y : String Global × OwnedValue) → more.items ≡ members.items ++ y ∷ []
    → EncodesMembers (version_of version) n a members → EncodesMember (version_of version) b y → EncodesMembers (version_of version) (n + 1) (a ++ b) more
member_more version n a b members more y is p q =
    let v = version_of version in
    let step : owned_entries (members.items ++ y ∷ []) ≡ owned_entries members.items ++ (string_bytes y.0, owned_tree y.1) ∷ [] =
    ap (map key_and) (map_push (λ m. (m.0, owned_tree m.1)) members.items y) ∙ map_push key_and (map (λ m. (m.0, owned_tree m.1)) members.items) (y.0, owned_tree y.1) in
    let entered : owned_entries more.items ≡ owned_entries members.items ++ (string_bytes y.0, owned_tree y.1) ∷ [] = ap owned_entries is ∙ step in
    record {
      many = ap length is ∙ omega (arith, length-append members.items (y ∷ []), p.many);
      encoded = subst (λ es. EncodesEntries Legacy v (a ++ b) (entries es)) (sym entered)
          (subst (λ l. EncodesEntries Legacy v (a ++ l) (entries (owned_entries members.items ++ (string_bytes y.0, owned_tree y.1) ∷ []))) (sym q.joined)
          (entries_push Legacy v (owned_entries members.items) (string_bytes y.0) (owned_tree y.1) a q.prefix q.rest p.encoded q.first q.second));
    }

member_refused : (v : Version) (m n : ℕ) (a w : List ℕ) (members : Vec (String Global × OwnedValue) Global) (r : Refusal) → m < n → EncodesMembers v m a members → NoMember v w r → NoMembers v n (a ++ w) r
member_refused v m n a w members r less p f =
    let count : length (owned_entries members.items) ≡ m = length-map (map (λ m. (m.0, owned_tree m.1)) members.items) key_and ∙ length-map members.items (λ m. (m.0, owned_tree m.1)) ∙ p.many in
    let fewer : entry_count (entries (owned_entries members.items)) < n = omega (arith, entries-length (owned_entries members.items), count) in
    elim f [
      | inl g ↦ in_next_key (entries (owned_entries members.items)) a w refl p.encoded fewer g
      | inr g ↦ in_next_value (entries (owned_entries members.items)) g.0 a g.1.prefix g.1.rest (ap (λ (l : List ℕ). a ++ l) g.1.joined) p.encoded fewer g.1.first g.1.second
    ]

pub members_more : {S : Type 0} {is_known : S → Type 0} {left : S → List ℕ} {failures : S → Failures} {old mid new : S} {i j k m : ℕ} {members : Vec (String Global × OwnedValue) Global} {y : String Global × OwnedValue} (version : DocStoreVersion) (more : Vec (String Global × OwnedValue) Global)
    → more.items ≡ members.items ++ y ∷ [] → FindsDeepBy is_known left failures old i mid j (Ok members) (EncodesMembers (version_of version) m) (λ w r. ⊥) → FindsDeepBy is_known left failures mid j new k (Ok y) (EncodesMember (version_of version)) (NoMember (version_of version))
    → FindsDeepBy is_known left failures old i new k (Ok more) (EncodesMembers (version_of version) (m + 1)) (λ w r. ⊥)
members_more {m = m} {members = members} {y = y} version more is p q =
    finds_as more _ _ (λ a s. s refl)
    (finds_then (λ b z. z ≡ y → EncodesMembers (version_of version) (m + 1) b more) (λ w r. Unit {0})
    (λ a b z r s e. member_more version m a b members more z (is ∙ ap (λ (u : String Global × OwnedValue). members.items ++ u ∷ []) (sym e)) r s) (λ a w c r f. tt) (λ a f r _ _ start byte last. tt) p q)

pub members_fail : {S : Type 0} {is_known : S → Type 0} {left : S → List ℕ} {failures : S → Failures} {old mid new : S} {i j k m n : ℕ} {members : Vec (String Global × OwnedValue) Global} {e : DeserializeError} (version : DocStoreVersion)
    → m < n → FindsDeepBy is_known left failures old i mid j (Ok members) (EncodesMembers (version_of version) m) (λ w r. ⊥) → FindsDeepBy {X = String Global × OwnedValue} is_known left failures mid j new k (Err e) (EncodesMember (version_of version)) (NoMember (version_of version))
    → FindsDeepBy {X = Vec (String Global × OwnedValue) Global} is_known left failures old i new k (Err e) (EncodesMembers (version_of version) n) (NoMembers (version_of version) n)
members_fail {m = m} {n = n} {members = members} version less p q =
    finds_then (EncodesMembers (version_of version) n) (NoMembers (version_of version) n) (λ a b z r s. absurd s) (λ a w c r f. member_refused (version_of version) m n a w members c less r f)
    (λ a f r other nothing start byte last. absurd (other (member_ended version f nothing)))
    p (finds_fails (λ b z. ⊥) (NoMember (version_of version)) (λ w c f. f) q)

-- ---- a list that is one too many
