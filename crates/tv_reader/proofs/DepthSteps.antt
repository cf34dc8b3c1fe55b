-- How many lists are open at once in what a reader of trees takes, and where that is too many.
use Rattle.std.proofs.Common.{◌≡◌, ◌≢◌, ℕ, zero, suc, ◌<◌, List, [], ◌∷◌, ◌++◌, length, map, Vec, String, string_bytes, Result, Ok, Err, IfOk, IsErrOf, refl, sym, ap, subst, ◌∙◌, arith, inl, inr, append_assoc}
use Rattle.std.specs.declared.alloc.Global.{Global}
use Rattle.std.proofs.lemmas.List.{append-nil, length-map, map_push}
use Rattle.tv_base.specs.Number.{VNum}
use Rattle.tv_base.specs.Parts.{Begins, Then}
use Rattle.tv_base.specs.Reading.{vint_at}
use Rattle.tv_base.specs.Source.{AllBytes, Failures}
use Rattle.tv_base.specs.Take as reads
use Rattle.tv_base.proofs.AgreeNumbers.{vint_agrees}
use Rattle.tv_reader.specs.Legacy.{Legacy}
use Rattle.tv_value.specs.Lent.{key_and}
use Rattle.tv_value.specs.Owned.{owned_tree, owned_entries}
use Rattle.tv_format.specs.Encoding.{Key, Encodes}
use Rattle.tv_format.specs.InputError.{Refusal}
use Rattle.tv_format.specs.Tree.{Tree, leaf, array, object, elements, element_count, entries, entry_count}
use Rattle.tv_format.specs.Version.{Version, entry_total}
use Rattle.tv_format.proofs.Lists.{elements-length, entries-length}
use Rattle.tv_value.specs.declared.owned_value.OwnedValue.{OwnedValue, Array, Object}
use Rattle.tv_reader.specs.Counts.{entry_count_at}
use Rattle.tv_reader.specs.Depth.{EncodesWithin, ElementsWithin, EntriesWithin, BehindKey, AmongElements, AmongEntries, Opens}
use Rattle.tv_reader.specs.Error.{StoreMayStopRoomy}
use Rattle.tv_reader.specs.Finds.{FindsIf, FindsDeepBy}
use Rattle.tv_reader.specs.Kinds.{kind_at}
use Rattle.tv_reader.specs.LeafBodies.{LeafOf}
use Rattle.tv_reader.specs.Leaves.{leaf_at}
use Rattle.tv_reader.specs.Trees.{EncodesBehind, NoneBehind, EncodesItems, NoItems, EncodesMembers, NoMembers}
use Rattle.tv_reader.specs.ValueType.{type_prefix}
use Rattle.tv_reader.specs.declared.error.DeserializeError.{DeserializeError}
use Rattle.tv_reader.specs.declared.error.DeserializeError.TheVariants as errors
use Rattle.tv_reader.specs.declared.value_type.ValueType.{ValueType}
use Rattle.tv_reader.specs.declared.value_type.ValueType.TheVariants as types
use Rattle.tv_reader.proofs.AgreeKinds.{kind_agrees}
use Rattle.tv_reader.proofs.AgreeLeaves.{leaf_agrees}
use Rattle.tv_reader.proofs.Finding.{finds_part, calm}
use Rattle.tv_reader.proofs.TreeSteps.{entry_count_agrees, owned-Array, owned-Object}

-- What a reader to a depth adds: what was read is within it, and after bytes that open a list too many that is reported.
pub record Deepens {S X : Type 0} (is_known : S → Type 0) (left : S → List ℕ) (old new : S) (result : Result X DeserializeError) (Within : List ℕ → X → Type 0) (Deep : List ℕ → Type 0) : Type 0 where
  pub within : is_known old → IfOk result (λ made. Begins (λ b. Within b made) (left old) (left new))
  pub deep : is_known old → IsErrOf result errors.TooDeep → Begins Deep (left old) (left new)

-- ---- one part after the other

begins_then : {P Q R : List ℕ → Type 0} (old mid new : List ℕ) → ((a b : List ℕ) → P a → Q b → R (a ++ b)) → Begins P old mid → Begins Q mid new → Begins R old new
begins_then old mid new join p q = record {
  prefix = p.prefix ++ q.prefix;
  joined = p.joined ∙ ap (λ (l : List ℕ). p.prefix ++ l) q.joined ∙ sym (append_assoc p.prefix q.prefix new);
  encoded = join p.prefix q.prefix p.encoded q.encoded;
}

begins_as : {P Q : List ℕ → Type 0} (old new : List ℕ) → ((a : List ℕ) → P a → Q a) → Begins P old new → Begins Q old new
begins_as old new map p = record { prefix = p.prefix; joined = p.joined; encoded = map p.prefix p.encoded }

ok_then : {X : Type 0} (R : List ℕ → Type 0) (W Joined : List ℕ → X → Type 0) (result : Result X DeserializeError) (old mid new : List ℕ) → ((a b : List ℕ) (y : X) → R a → W b y → Joined (a ++ b) y)
    → Begins R old mid → IfOk result (λ made. Begins (λ b. W b made) mid new) → IfOk result (λ made. Begins (λ b. Joined b made) old new)
ok_then R W Joined (Ok x) old mid new join p h = begins_then old mid new (λ a b r w. join a b x r w) p h
ok_then R W Joined (Err e) old mid new join p h = tt

pub deepens_then : {S X : Type 0} {is_known : S → Type 0} {left : S → List ℕ} {old mid new : S} {result : Result X DeserializeError} {R : List ℕ → Type 0} {W : List ℕ → X → Type 0} {P : List ℕ → Type 0} (Joined : List ℕ → X → Type 0) (Deeper : List ℕ → Type 0)
    → ((a b : List ℕ) (y : X) → R a → W b y → Joined (a ++ b) y) → ((a b : List ℕ) → R a → P b → Deeper (a ++ b))
    → (is_known old → Begins R (left old) (left mid)) → (is_known old → is_known mid) → Deepens is_known left mid new result W P → Deepens is_known left old new result Joined Deeper
deepens_then {left = left} {old = old} {mid = mid} {new = new} {result = result} {R = R} {W = W} Joined Deeper join behind first stays h = record {
  within = λ t. ok_then R W Joined result (left old) (left mid) (left new) join (first t) (h.within (stays t));
  deep = λ t is. begins_then (left old) (left mid) (left new) behind (first t) (h.deep (stays t) is);
}

not_err : {X : Type 0} (x : X) (e : DeserializeError) → IsErrOf {T = X} (Ok x) e → ⊥
not_err x e is = absurd cc

pub err_of : {A B : Type 0} (e d : DeserializeError) → IsErrOf {T = A} (Err e) d → IsErrOf {T = B} (Err e) d
err_of e d is = let same : e ≡ d = cc in ap (λ (z : DeserializeError). Err z) same

err_is : {X : Type 0} (e d : DeserializeError) → IsErrOf {T = X} (Err e) d → e ≡ d
err_is e d is = cc

-- of one part
pub deepens_found : {S X : Type 0} {is_known : S → Type 0} {left : S → List ℕ} {old new : S} (x : X) (W : List ℕ → X → Type 0) (P : List ℕ → Type 0) → (is_known old → Begins (λ b. W b x) (left old) (left new)) → Deepens is_known left old new (Ok x) W P
deepens_found x W P found = record { within = found; deep = λ t is. absurd (not_err x errors.TooDeep is) }

-- a refusal of a part
pub deepens_fails : {S X Y : Type 0} {is_known : S → Type 0} {left : S → List ℕ} {old new : S} {e : DeserializeError} {W : List ℕ → X → Type 0} {P : List ℕ → Type 0} (Joined : List ℕ → Y → Type 0) (Deeper : List ℕ → Type 0)
    → ((a : List ℕ) → P a → Deeper a) → Deepens is_known left old new (Err e) W P → Deepens is_known left old new (Err e) Joined Deeper
deepens_fails {left = left} {old = old} {new = new} {e = e} Joined Deeper map h = record { within = λ t. tt; deep = λ t is. begins_as (left old) (left new) map (h.deep t (err_of e errors.TooDeep is)) }

-- another refusal
pub deepens_not : {S X : Type 0} (is_known : S → Type 0) (left : S → List ℕ) (old new : S) (e : DeserializeError) (W : List ℕ → X → Type 0) (P : List ℕ → Type 0) → e ≢ errors.TooDeep → Deepens is_known left old new (Err e) W P
deepens_not is_known left old new e W P other = record { within = λ t. tt; deep = λ t is. absurd (other (err_is e errors.TooDeep is)) }

-- ---- values

apart : (x y : ℕ) (b c : List ℕ) → x ∷ b ≡ y ∷ c → x ≢ y → ⊥
apart x y b c e other = other (cc)

abbrev pub ValueWithin : Version → ℕ → List ℕ → OwnedValue → Type 0
ValueWithin v n b x = EncodesWithin v n b (owned_tree x)

abbrev pub BehindWithin : Version → ValueType → ℕ → List ℕ → OwnedValue → Type 0
BehindWithin v kind n b x = EncodesWithin v n (type_prefix kind ++ b) (owned_tree x)

abbrev pub OpensBehind : Version → ValueType → ℕ → List ℕ → Type 0
OpensBehind v kind n b = Opens v n (type_prefix kind ++ b)

pub value_deepens : {S : Type 0} {is_known : S → Type 0} {left : S → List ℕ} {old mid new : S} {i j : ℕ} {kind : ValueType} {result : Result OwnedValue DeserializeError} (failures : S → Failures) (v : Version) (n : ℕ)
    → ((source : S) → is_known source → AllBytes (left source)) → reads.TakesIf reads.MayStopLean is_known left failures old i mid j (λ x. x) (Ok kind) kind_at
    → Deepens is_known left mid new result (BehindWithin v kind n) (OpensBehind v kind n) → Deepens is_known left old new result (ValueWithin v n) (Opens v n)
value_deepens failures v n are_bytes part h =
    let p = finds_part are_bytes kind_agrees part in
    deepens_then (ValueWithin v n) (Opens v n)
    (λ a b y is w. subst (λ l. ValueWithin v n (l ++ b) y) (sym is) w) (λ a b is w. subst (λ l. Opens v n (l ++ b)) (sym is) w) p.found p.stays_known h

leaf_within : (v : Version) (n : ℕ) (kind : ValueType) (a : List ℕ) (t : Tree) → LeafOf v kind a t → EncodesWithin v n (type_prefix kind ++ a) t
leaf_within v n types.PreTokStr a t p = subst (EncodesWithin v n (7 ∷ 0 ∷ a)) (sym p.2) (record { body = 0 ∷ a; joined = refl; encoded = record { body = a; joined = refl; encoded = p.1 } })
leaf_within v n types.JSONObject a t p = absurd p
leaf_within v n types.Null a t p = subst (EncodesWithin v n (11 ∷ a)) (sym p.1) (record { body = a; joined = refl; encoded = p.0 })
leaf_within v n types.Array a t p = absurd p
leaf_within v n types.Object a t p = absurd p
leaf_within v n kind a t p = subst (EncodesWithin v n (type_prefix kind ++ a)) (sym p.2) (record { body = a; joined = refl; encoded = p.1 })

pub leaf_deepens : {S : Type 0} {is_known : S → Type 0} {left : S → List ℕ} {old new : S} {i k : ℕ} {value : OwnedValue} (failures : S → Failures) (v : Version) (n : ℕ) (kind : ValueType)
    → ((source : S) → is_known source → AllBytes (left source)) → reads.TakesIf reads.MayStop is_known left failures old i new k owned_tree (Ok value) (leaf_at v kind)
    → Deepens is_known left old new (Ok value) (BehindWithin v kind n) (OpensBehind v kind n)
leaf_deepens {left = left} {old = old} {new = new} {value = value} failures v n kind are_bytes h =
    let p = finds_part are_bytes (leaf_agrees v kind) h in
    deepens_found value (BehindWithin v kind n) (OpensBehind v kind n) (λ t. begins_as (left old) (left new) (λ a q. leaf_within v n kind a (owned_tree value) q) (p.found t))

-- the code of a legacy object is no other's
legacy_within : (v : Version) (n : ℕ) (b : List ℕ) (t : Tree) → Encodes Legacy v (8 ∷ b) t → EncodesWithin v n (8 ∷ b) t
legacy_within v n b (leaf l) h = h
legacy_within v n b (array ts) h = absurd (apart 8 12 b h.body h.joined (omega arith))
legacy_within v n b (object es) (inl h) = absurd (apart 8 13 b h.body h.joined (omega arith))
legacy_within v zero b (object es) (inr h) = h
legacy_within v (suc n) b (object es) (inr h) = inr h

pub legacy_deepens : {S : Type 0} {is_known : S → Type 0} {left : S → List ℕ} {failures : S → Failures} {old new : S} {i k : ℕ} (result : Result OwnedValue DeserializeError) (v : Version) (n : ℕ)
    → FindsIf StoreMayStopRoomy is_known left failures old i new k result (EncodesBehind v types.JSONObject) (NoneBehind v types.JSONObject) → Deepens is_known left old new result (BehindWithin v types.JSONObject n) (OpensBehind v types.JSONObject n)
legacy_deepens {left = left} {old = old} {new = new} (Ok value) v n p =
    deepens_found value (BehindWithin v types.JSONObject n) (OpensBehind v types.JSONObject n) (λ t. begins_as (left old) (left new) (λ a q. legacy_within v n a (owned_tree value) q) (p.found t))
legacy_deepens {is_known = is_known} {left = left} {failures = failures} {old = old} {new = new} (Err e) v n p =
    deepens_not is_known left old new e (BehindWithin v types.JSONObject n) (OpensBehind v types.JSONObject n) (calm (failures old) (failures new) e p.counts)

-- ---- arrays

abbrev pub ItemsWithin : Version → ℕ → List ℕ → Vec OwnedValue Global → Type 0
ItemsWithin v n b items = ElementsWithin v n b (elements (map owned_tree items.items))

abbrev pub AmongItems : Version → ℕ → ℕ → List ℕ → Type 0
AmongItems v n count b = AmongElements v n (Opens v n) count b

elements_push : (v : Version) (n : ℕ) (ts : List Tree) (t : Tree) (a b : List ℕ) → ElementsWithin v n a (elements ts) → EncodesWithin v n b t → ElementsWithin v n (a ++ b) (elements (ts ++ t ∷ []))
elements_push v n [] t a b p q = record { prefix = b; rest = []; joined = ap (λ (l : List ℕ). l ++ b) p ∙ sym (append-nil b); first = q; second = refl }
elements_push v n (u ∷ ts) t a b p q = record { prefix = p.prefix; rest = p.rest ++ b; joined = ap (λ (l : List ℕ). l ++ b) p.joined ∙ append_assoc p.prefix p.rest b; first = p.first; second = elements_push v n ts t p.rest b p.second q }

-- one more was read
pub items_deepen : {S : Type 0} (is_known : S → Type 0) (left : S → List ℕ) {old mid new : S} (items : Vec OwnedValue Global) (y : OwnedValue) (v : Version) (n : ℕ) (more : Vec OwnedValue Global) → more.items ≡ items.items ++ y ∷ []
    → (is_known old → Begins (λ b. ItemsWithin v n b items) (left old) (left mid)) → (is_known old → is_known mid) → (is_known mid → Begins (λ b. ValueWithin v n b y) (left mid) (left new)) → is_known old → Begins (λ b. ItemsWithin v n b more) (left old) (left new)
items_deepen is_known left {old = old} {mid = mid} {new = new} items y v n more is first stays next t =
    let trees : map owned_tree more.items ≡ map owned_tree items.items ++ owned_tree y ∷ [] = ap (map owned_tree) is ∙ map_push owned_tree items.items y in
    begins_then (left old) (left mid) (left new) (λ a b p q. subst (λ ts. ElementsWithin v n (a ++ b) (elements ts)) (sym trees) (elements_push v n (map owned_tree items.items) (owned_tree y) a b p q)) (first t) (next (stays t))

-- the next is refused
pub items_deepen_fails : {S : Type 0} {is_known : S → Type 0} {left : S → List ℕ} {failures : S → Failures} {old mid new : S} {i j m count : ℕ} {items : Vec OwnedValue Global} {I : List ℕ → Refusal → Type 0} {e : DeserializeError} (v : Version) (n : ℕ) → m < count
    → FindsDeepBy is_known left failures old i mid j (Ok items) (EncodesItems v m) I → (is_known old → Begins (λ b. ItemsWithin v n b items) (left old) (left mid))
    → Deepens is_known left mid new (Err e) (ValueWithin v n) (Opens v n) → Deepens {X = Vec OwnedValue Global} is_known left old new (Err e) (ItemsWithin v n) (AmongItems v n count)
items_deepen_fails {left = left} {old = old} {mid = mid} {m = m} {count = count} {items = items} v n less p first h =
    let before = elements (map owned_tree items.items) in
    let fewer : length items.items ≡ m → element_count before < count = λ many. omega (arith, elements-length (map owned_tree items.items), length-map items.items owned_tree, many, less) in
    deepens_then {R = λ a. ItemsWithin v n a items × (element_count before < count)} (ItemsWithin v n) (AmongItems v n count)
    (λ a b y r w. absurd w) (λ a b r w. record { before = before; fewer = r.1; parts = record { prefix = a; rest = b; joined = refl; first = r.0; second = w } })
    (λ t. begins_as (left old) (left mid) (λ a w. (w, fewer (p.found t).encoded.many)) (first t)) p.stays_known (deepens_fails (λ b y. ⊥) (Opens v n) (λ a w. w) h)

array_within : (v : Version) (n count : ℕ) (a b : List ℕ) (items : Vec OwnedValue Global) → VNum a count → length items.items ≡ count → ItemsWithin v n b items → BehindWithin v types.Array (suc n) (a ++ b) (Array items)
array_within v n count a b items number many w =
    let same : count ≡ element_count (elements (map owned_tree items.items)) = sym many ∙ sym (length-map items.items owned_tree) ∙ sym (elements-length (map owned_tree items.items)) in
    subst (EncodesWithin v (suc n) (12 ∷ (a ++ b))) (sym (owned-Array items))
    (record { body = a ++ b; joined = refl; encoded = record { prefix = a; rest = b; joined = refl; first = subst (λ m. VNum a m) same number; second = w } })

array_opens : (v : Version) (n count : ℕ) (a b : List ℕ) → VNum a count → AmongItems v n count b → OpensBehind v types.Array (suc n) (a ++ b)
array_opens v n count a b number w = inl (record { body = a ++ b; joined = refl; encoded = (count, record { prefix = a; rest = b; joined = refl; first = number; second = w }) })

pub array_deepens : {S : Type 0} {is_known : S → Type 0} {left : S → List ℕ} {failures : S → Failures} {old mid new : S} {i j k count : ℕ} {items : Vec OwnedValue Global} (v : Version) (levels below : ℕ) → levels ≡ suc below
    → ((source : S) → is_known source → AllBytes (left source)) → reads.TakesIf reads.MayStopLean is_known left failures old i mid j (λ x. x) (Ok count) vint_at
    → FindsDeepBy is_known left failures mid j new k (Ok items) (EncodesItems v count) (NoItems v count) → Deepens is_known left mid new (Ok items) (ItemsWithin v below) (AmongItems v below count)
    → Deepens is_known left old new (Ok (Array items)) (BehindWithin v types.Array levels) (OpensBehind v types.Array levels)
array_deepens {is_known = is_known} {left = left} {old = old} {mid = mid} {new = new} {count = count} {items = items} v levels below is are_bytes part q h =
    let p = finds_part are_bytes vint_agrees part in
    subst (λ n. Deepens is_known left old new (Ok (Array items)) (BehindWithin v types.Array n) (OpensBehind v types.Array n)) (sym is)
    (deepens_found (Array items) (BehindWithin v types.Array (suc below)) (OpensBehind v types.Array (suc below))
    (λ t. begins_then (left old) (left mid) (left new) (λ a b r w. array_within v below count a b items r (q.found (p.stays_known t)).encoded.many w) (p.found t) (h.within (p.stays_known t))))

pub array_deepens_fails : {S : Type 0} {is_known : S → Type 0} {left : S → List ℕ} {old mid new : S} {i j count : ℕ} {e : DeserializeError} (failures : S → Failures) (v : Version) (levels below : ℕ) → levels ≡ suc below
    → ((source : S) → is_known source → AllBytes (left source)) → reads.TakesIf reads.MayStopLean is_known left failures old i mid j (λ x. x) (Ok count) vint_at
    → Deepens {X = Vec OwnedValue Global} is_known left mid new (Err e) (ItemsWithin v below) (AmongItems v below count)
    → Deepens is_known left old new (Err e) (BehindWithin v types.Array levels) (OpensBehind v types.Array levels)
array_deepens_fails {is_known = is_known} {left = left} {old = old} {new = new} {count = count} {e = e} failures v levels below is are_bytes part h =
    let p = finds_part are_bytes vint_agrees part in
    subst (λ n. Deepens {X = OwnedValue} is_known left old new (Err e) (BehindWithin v types.Array n) (OpensBehind v types.Array n)) (sym is)
    (deepens_then (BehindWithin v types.Array (suc below)) (OpensBehind v types.Array (suc below)) (λ a b y r w. absurd w) (λ a b r w. array_opens v below count a b r w)
    p.found p.stays_known (deepens_fails (λ b y. ⊥) (AmongItems v below count) (λ a w. w) h))

-- ---- members and objects

abbrev pub MemberWithin : Version → ℕ → List ℕ → String Global × OwnedValue → Type 0
MemberWithin v n b member = Then (λ w. Key v w (string_bytes member.0)) (λ w. EncodesWithin v n w (owned_tree member.1)) b

abbrev pub MembersWithin : Version → ℕ → List ℕ → Vec (String Global × OwnedValue) Global → Type 0
MembersWithin v n b members = EntriesWithin v n b (entries (owned_entries members.items))

abbrev pub AmongMembers : Version → ℕ → ℕ → List ℕ → Type 0
AmongMembers v n count b = AmongEntries v n (Opens v n) count b

pub member_deepens : {S : Type 0} {is_known : S → Type 0} {left : S → List ℕ} {failures : S → Failures} {old mid new : S} {i j : ℕ} {key : String Global} {value : OwnedValue} {I : List ℕ → Refusal → Type 0} (v : Version) (n : ℕ)
    → FindsIf StoreMayStopRoomy is_known left failures old i mid j (Ok key) (λ b key. Key v b (string_bytes key)) I → Deepens is_known left mid new (Ok value) (ValueWithin v n) (Opens v n)
    → Deepens is_known left old new (Ok (key, value)) (MemberWithin v n) (BehindKey v (Opens v n))
member_deepens {left = left} {old = old} {mid = mid} {new = new} {key = key} {value = value} v n p h =
    deepens_found (key, value) (MemberWithin v n) (BehindKey v (Opens v n))
    (λ t. begins_then (left old) (left mid) (left new) (λ a b r w. record { prefix = a; rest = b; joined = refl; first = r; second = w }) (p.found t) (h.within (p.stays_known t)))

pub member_deepens_fails : {S : Type 0} {is_known : S → Type 0} {left : S → List ℕ} {failures : S → Failures} {old mid new : S} {i j : ℕ} {key : String Global} {e : DeserializeError} {I : List ℕ → Refusal → Type 0} (v : Version) (n : ℕ)
    → FindsIf StoreMayStopRoomy is_known left failures old i mid j (Ok key) (λ b key. Key v b (string_bytes key)) I → Deepens {X = OwnedValue} is_known left mid new (Err e) (ValueWithin v n) (Opens v n)
    → Deepens is_known left old new (Err e) (MemberWithin v n) (BehindKey v (Opens v n))
member_deepens_fails {key = key} v n p h =
    deepens_then (MemberWithin v n) (BehindKey v (Opens v n)) (λ a b y r w. absurd w) (λ a b r w. (string_bytes key, record { prefix = a; rest = b; joined = refl; first = r; second = w }))
    p.found p.stays_known (deepens_fails (λ b y. ⊥) (Opens v n) (λ a w. w) h)

entries_push : (v : Version) (n : ℕ) (es : List (List ℕ × Tree)) (e : List ℕ × Tree) (a key b : List ℕ) → EntriesWithin v n a (entries es) → Key v key e.0 → EncodesWithin v n b e.1 → EntriesWithin v n (a ++ (key ++ b)) (entries (es ++ e ∷ []))
entries_push v n [] e a key b p k q = record {
  prefix = key;
  rest = b;
  joined = ap (λ (l : List ℕ). l ++ (key ++ b)) p;
  first = k;
  second = record { prefix = b; rest = []; joined = sym (append-nil b); first = q; second = refl };
}
entries_push v n (f ∷ es) e a key b p k q = record {
  prefix = p.prefix;
  rest = p.rest ++ (key ++ b);
  joined = ap (λ (l : List ℕ). l ++ (key ++ b)) p.joined ∙ append_assoc p.prefix p.rest (key ++ b);
  first = p.first;
  second = record {
    prefix = p.second.prefix;
    rest = p.second.rest ++ (key ++ b);
    joined = ap (λ (l : List ℕ). l ++ (key ++ b)) p.second.joined ∙ append_assoc p.second.prefix p.second.rest (key ++ b);
    first = p.second.first;
    second = entries_push v n es e p.second.rest key b p.second.second k q;
  };
}

pub members_deepen : {S : Type 0} (is_known : S → Type 0) (left : S → List ℕ) {old mid new : S} (members : Vec (String Global × OwnedValue) Global) (y : String Global × OwnedValue) (v : Version) (n : ℕ) (more : Vec (String Global × OwnedValue) Global) → more.items ≡ members.items ++ y ∷ []
    → (is_known old → Begins (λ b. MembersWithin v n b members) (left old) (left mid)) → (is_known old → is_known mid) → (is_known mid → Begins (λ b. MemberWithin v n b y) (left mid) (left new)) → is_known old → Begins (λ b. MembersWithin v n b more) (left old) (left new)
members_deepen is_known left {old = old} {mid = mid} {new = new} members y v n more is first stays next t =
    let step : owned_entries (members.items ++ y ∷ []) ≡ owned_entries members.items ++ (string_bytes y.0, owned_tree y.1) ∷ [] =
    ap (map key_and) (map_push (λ m. (m.0, owned_tree m.1)) members.items y) ∙ map_push key_and (map (λ m. (m.0, owned_tree m.1)) members.items) (y.0, owned_tree y.1) in
    let entered : owned_entries more.items ≡ owned_entries members.items ++ (string_bytes y.0, owned_tree y.1) ∷ [] = ap owned_entries is ∙ step in
    begins_then (left old) (left mid) (left new)
    (λ a b p q. subst (λ es. EntriesWithin v n (a ++ b) (entries es)) (sym entered)
    (subst (λ l. EntriesWithin v n (a ++ l) (entries (owned_entries members.items ++ (string_bytes y.0, owned_tree y.1) ∷ []))) (sym q.joined)
    (entries_push v n (owned_entries members.items) (string_bytes y.0, owned_tree y.1) a q.prefix q.rest p q.first q.second))) (first t) (next (stays t))

entry_many : (members : Vec (String Global × OwnedValue) Global) → entry_count (entries (owned_entries members.items)) ≡ length members.items
entry_many members = entries-length (owned_entries members.items) ∙ length-map (map (λ m. (m.0, owned_tree m.1)) members.items) key_and ∙ length-map members.items (λ m. (m.0, owned_tree m.1))

pub members_deepen_fails : {S : Type 0} {is_known : S → Type 0} {left : S → List ℕ} {failures : S → Failures} {old mid new : S} {i j m count : ℕ} {members : Vec (String Global × OwnedValue) Global} {I : List ℕ → Refusal → Type 0} {e : DeserializeError} (v : Version) (n : ℕ) → m < count
    → FindsDeepBy is_known left failures old i mid j (Ok members) (EncodesMembers v m) I → (is_known old → Begins (λ b. MembersWithin v n b members) (left old) (left mid))
    → Deepens {X = String Global × OwnedValue} is_known left mid new (Err e) (MemberWithin v n) (BehindKey v (Opens v n)) → Deepens {X = Vec (String Global × OwnedValue) Global} is_known left old new (Err e) (MembersWithin v n) (AmongMembers v n count)
members_deepen_fails {left = left} {old = old} {mid = mid} {m = m} {count = count} {members = members} v n less p first h =
    let before = entries (owned_entries members.items) in
    let fewer : length members.items ≡ m → entry_count before < count = λ many. omega (arith, entry_many members, many, less) in
    deepens_then {R = λ a. MembersWithin v n a members × (entry_count before < count)} (MembersWithin v n) (AmongMembers v n count)
    (λ a b y r w. absurd w) (λ a b r w. record { before = before; fewer = r.1; parts = record { prefix = a; rest = b; joined = refl; first = r.0; second = w } })
    (λ t. begins_as (left old) (left mid) (λ a w. (w, fewer (p.found t).encoded.many)) (first t)) p.stays_known (deepens_fails (λ b y. ⊥) (BehindKey v (Opens v n)) (λ a w. w) h)

object_within : (v : Version) (n count : ℕ) (a b : List ℕ) (members : Vec (String Global × OwnedValue) Global) → VNum a (entry_total v count) → length members.items ≡ count → MembersWithin v n b members → BehindWithin v types.Object (suc n) (a ++ b) (Object members)
object_within v n count a b members number many w =
    let same : entry_total v count ≡ entry_total v (entry_count (entries (owned_entries members.items))) = ap (entry_total v) (sym (entry_many members ∙ many)) in
    subst (EncodesWithin v (suc n) (13 ∷ (a ++ b))) (sym (owned-Object members))
    (inl (record { body = a ++ b; joined = refl; encoded = record { prefix = a; rest = b; joined = refl; first = subst (λ m. VNum a m) same number; second = w } }))

object_opens : (v : Version) (n count : ℕ) (a b : List ℕ) → VNum a (entry_total v count) → AmongMembers v n count b → OpensBehind v types.Object (suc n) (a ++ b)
object_opens v n count a b number w = inr (record { body = a ++ b; joined = refl; encoded = (count, record { prefix = a; rest = b; joined = refl; first = number; second = w }) })

pub object_deepens : {S : Type 0} {is_known : S → Type 0} {left : S → List ℕ} {failures : S → Failures} {old mid new : S} {i j k count : ℕ} {members : Vec (String Global × OwnedValue) Global} (v : Version) (levels below : ℕ) → levels ≡ suc below
    → ((source : S) → is_known source → AllBytes (left source)) → reads.TakesIf reads.MayStopLean is_known left failures old i mid j (λ x. x) (Ok count) (entry_count_at v)
    → FindsDeepBy is_known left failures mid j new k (Ok members) (EncodesMembers v count) (NoMembers v count) → Deepens is_known left mid new (Ok members) (MembersWithin v below) (AmongMembers v below count)
    → Deepens is_known left old new (Ok (Object members)) (BehindWithin v types.Object levels) (OpensBehind v types.Object levels)
object_deepens {is_known = is_known} {left = left} {old = old} {mid = mid} {new = new} {count = count} {members = members} v levels below is are_bytes part q h =
    let p = finds_part are_bytes (entry_count_agrees v) part in
    subst (λ n. Deepens is_known left old new (Ok (Object members)) (BehindWithin v types.Object n) (OpensBehind v types.Object n)) (sym is)
    (deepens_found (Object members) (BehindWithin v types.Object (suc below)) (OpensBehind v types.Object (suc below))
    (λ t. begins_then (left old) (left mid) (left new) (λ a b r w. object_within v below count a b members r (q.found (p.stays_known t)).encoded.many w) (p.found t) (h.within (p.stays_known t))))

pub object_deepens_fails : {S : Type 0} {is_known : S → Type 0} {left : S → List ℕ} {old mid new : S} {i j count : ℕ} {e : DeserializeError} (failures : S → Failures) (v : Version) (levels below : ℕ) → levels ≡ suc below
    → ((source : S) → is_known source → AllBytes (left source)) → reads.TakesIf reads.MayStopLean is_known left failures old i mid j (λ x. x) (Ok count) (entry_count_at v)
    → Deepens {X = Vec (String Global × OwnedValue) Global} is_known left mid new (Err e) (MembersWithin v below) (AmongMembers v below count)
    → Deepens is_known left old new (Err e) (BehindWithin v types.Object levels) (OpensBehind v types.Object levels)
object_deepens_fails {is_known = is_known} {left = left} {old = old} {new = new} {count = count} {e = e} failures v levels below is are_bytes part h =
    let p = finds_part are_bytes (entry_count_agrees v) part in
    subst (λ n. Deepens {X = OwnedValue} is_known left old new (Err e) (BehindWithin v types.Object n) (OpensBehind v types.Object n)) (sym is)
    (deepens_then (BehindWithin v types.Object (suc below)) (OpensBehind v types.Object (suc below)) (λ a b y r w. absurd w) (λ a b r w. object_opens v below count a b r w)
    p.found p.stays_known (deepens_fails (λ b y. ⊥) (AmongMembers v below count) (λ a w. w) h))

-- ---- a list that is one too many
