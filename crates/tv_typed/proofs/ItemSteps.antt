-- Items that are read one after the other, and what is made of them.
use Rattle.std.proofs.Common.{◌≡◌, ℕ, zero, suc, ◌+◌, ◌<◌, true, false, List, [], ◌∷◌, ◌++◌, length, Option, Some, None, Vec, String, string_bytes, bytes_eq, if◌then◌else◌, Result, Ok, Err, refl, sym, ap, subst, ◌∙◌, arith, append_assoc, length-append, inl, inr}
use Rattle.std.specs.List.{AllZip, fold}
use Rattle.std.specs.declared.alloc.Global.{Global}
use Rattle.tv_base.specs.Number.{VNum}
use Rattle.tv_base.specs.Parts.{Each}
use Rattle.tv_base.specs.ErrorInPart.{InEach}
use Rattle.tv_base.specs.Source.{Failures}
use Rattle.tv_base.proofs.EarlyNumbers.{number_early}
use Rattle.tv_base.proofs.TakeSteps.{Taken_none}
use Rattle.tv_reader.specs.Legacy.{Legacy}
use Rattle.tv_format.specs.Encoding.{Encodes, EncodesElements, EncodesEntries}
use Rattle.tv_format.specs.Tree.{Tree, array, object, elements, element_count, entries, entry_count}
use Rattle.tv_format.specs.Version.{Version, entry_total}
use Rattle.tv_format.proofs.Prefixes.{each_push}
use Rattle.tv_format.proofs.Lists.{elements-length, entries-length}
use Rattle.tv_reader.specs.ValueType.{type_prefix}
use Rattle.tv_reader.specs.Version.{version_of}
use Rattle.tv_reader.specs.declared.error.DeserializeError.{DeserializeError}
use Rattle.tv_reader.specs.declared.error.DeserializeError.TheVariants as errors
use Rattle.tv_reader.specs.declared.value_type.ValueType.{ValueType}
use Rattle.tv_reader.specs.declared.value_type.ValueType.TheVariants as types
use Rattle.tv_typed.specs.Typed.{ReadsIf, DeserializesBy}
use Rattle.tv_typed.specs.Values.{EncodesAs, EncodedAs, NextRefused}
use Rattle.tv_typed.specs.Lists.{ArrayOf, IsEntry, ObjectOf, GivesLast, Length, element_total, EncodesInto, EncodesEntry, LengthRefused, in_length, ItemsRefused, ArrayRefused, EntryRefused, ObjectRefused, NextItem, NextItemRefused}
use Rattle.tv_typed.specs.declared.store_reader.StoreReader.{StoreReader}
use Rattle.tv_typed.proofs.DeserializeSteps.{end, deserializes, goes_then, goes_as, goes_fails, goes_short}
use Rattle.tv_typed.proofs.ListSteps.{at_version}
use Rattle.tv_reader.specs.Error.{StoreMayStop}

-- ---- one item after the other

both : false ≡ true → ⊥
both e = absurd cc

-- none yet
pub into_none : {S C X : Type 0} (is_known : S → Type 0) (left : S → List ℕ) (failures : S → Failures) (reader : StoreReader S) (c : C) (Made : C → List X → Type 0) (Item : List ℕ → X → Type 0) → reader.has_failed ≡ false → Made c []
    → DeserializesBy is_known left failures reader reader (Ok c) (EncodesInto Made Item 0) (λ w e. ⊥)
into_none is_known left failures reader c Made Item is_open made = record {
  closed = λ failed. absurd (both (sym is_open ∙ failed));
  unmarked = is_open;
  found = λ _ t. record { prefix = []; joined = refl; encoded = ([], made, refl, refl) };
  taken = λ _ t. Taken_none (left reader.source) reader.count;
  stays_known = λ _ t. t;
  counts = λ _. refl;
  same_version = refl;
  same_levels = refl;
}

-- one more
pub into_more : {S C X : Type 0} {is_known : S → Type 0} {left : S → List ℕ} {failures : S → Failures} {old mid new : StoreReader S} {c : C} {y : X} {m : ℕ} {R : List ℕ → DeserializeError → Type 0} (Made : C → List X → Type 0) (Item : List ℕ → X → Type 0) (d : C) → ((xs : List X) → Made c xs → Made d (xs ++ y ∷ []))
    → DeserializesBy is_known left failures old mid (Ok c) (EncodesInto Made Item m) (λ w e. ⊥) → DeserializesBy is_known left failures mid new (Ok y) Item R → DeserializesBy is_known left failures old new (Ok d) (EncodesInto Made Item (m + 1)) (λ w e. ⊥)
into_more {y = y} {m = m} Made Item d more p q =
    goes_as d (EncodesInto Made Item (m + 1)) (λ w e. ⊥) (λ a s. s refl)
    (goes_then (λ b z. z ≡ y → EncodesInto Made Item (m + 1) b d) (λ w r. Unit {0})
    (λ a b z r s e. (r.0 ++ y ∷ [], more r.0 r.1, omega (arith, length-append r.0 (y ∷ []), r.2), each_push Item r.0 y a b r.3 (subst (Item b) e s)))
    (λ a w c r f. tt) (λ a f r _ _ start byte last. tt) p q)

-- after some items stands one that is refused
behind_items : {X : Type 0} (Item : List ℕ → X → Type 0) (Refused : List ℕ → DeserializeError → Type 0) (xs : List X) (n : ℕ) (a w : List ℕ) (e : DeserializeError) → length xs < n → Each Item a xs → Refused w e → InEach Refused Item n (a ++ w) e
behind_items Item Refused [] zero a w e fewer p f = absurd (omega (arith, fewer))
behind_items Item Refused [] (suc n) a w e fewer p f = inl (subst (λ l. Refused (l ++ w) e) (sym p) f)
behind_items Item Refused (x ∷ xs) zero a w e fewer p f = absurd (omega (arith, fewer))
behind_items Item Refused (x ∷ xs) (suc n) a w e fewer p f =
    inr (x, record { prefix = p.prefix; rest = p.rest ++ w; joined = ap (λ l. l ++ w) p.joined ∙ append_assoc p.prefix p.rest w; first = p.first; second = behind_items Item Refused xs n p.rest w e (omega (arith, fewer)) p.second f })

-- the next one is refused
pub into_fail : {S C D X : Type 0} {is_known : S → Type 0} {left : S → List ℕ} {failures : S → Failures} {old mid new : StoreReader S} {c : C} {e : DeserializeError} {m n : ℕ} (Made : C → List X → Type 0) (Item : List ℕ → X → Type 0) (Refused : List ℕ → DeserializeError → Type 0) (B : List ℕ → D → Type 0)
    → ((f : DeserializeError) → Refused [] f → f ≡ end) → m < n
    → DeserializesBy is_known left failures old mid (Ok c) (EncodesInto Made Item m) (λ w e. ⊥) → DeserializesBy {X = X} is_known left failures mid new (Err e) Item Refused → DeserializesBy {X = D} is_known left failures old new (Err e) B (InEach Refused Item n)
into_fail {n = n} Made Item Refused B ended fewer p q =
    goes_then B (InEach Refused Item n) (λ a b z r s. absurd s) (λ a w f r h. behind_items Item Refused r.0 n a w f (omega (arith, fewer, r.2)) r.3 h)
    (λ a f r other nothing start byte last. absurd (other (ended f nothing))) p (goes_fails (λ b z. ⊥) Refused (λ w f h. h) q)

-- there is no memory for it
pub into_short : {S C D X : Type 0} {is_known : S → Type 0} {left : S → List ℕ} {failures : S → Failures} {old mid new : StoreReader S} {c : C} {y : X} {m : ℕ} {R : List ℕ → DeserializeError → Type 0} (Made : C → List X → Type 0) (Item : List ℕ → X → Type 0) (B : List ℕ → D → Type 0) (Q : List ℕ → DeserializeError → Type 0)
    → DeserializesBy is_known left failures old mid (Ok c) (EncodesInto Made Item m) (λ w e. ⊥) → DeserializesBy is_known left failures mid new (Ok y) Item R → DeserializesBy {X = D} is_known left failures old new (Err errors.Memory) B Q
into_short Made Item B Q p q = goes_short B Q (goes_then (λ b z. Unit {0}) (λ w e. Unit {0}) (λ a b z r s. tt) (λ a w c r f. tt) (λ a f r _ _ start byte last. tt) p q)

-- ---- the number, and then the items

pub collection_then : {S C X : Type 0} {is_known : S → Type 0} {left : S → List ℕ} {failures : S → Failures} {old mid new : StoreReader S} {n : ℕ} {result : Result C DeserializeError} (collection : ValueType) (total : ℕ → ℕ) (kind : ValueType) (Made : C → List X → Type 0) (Item : List ℕ → X → Type 0) (Refused : List ℕ → DeserializeError → Type 0) (B : List ℕ → C → Type 0)
    → ((a b : List ℕ) (m : ℕ) (c : C) → Length collection total kind a m → EncodesInto Made Item m b c → B (a ++ b) c)
    → ReadsIf StoreMayStop is_known left failures old mid (Ok n) (Length collection total kind) (LengthRefused collection total kind) → DeserializesBy is_known left failures mid new result (EncodesInto Made Item n) (InEach Refused Item n)
    → DeserializesBy is_known left failures old new result B (ItemsRefused collection total Item Refused kind)
collection_then {n = n} collection total kind Made Item Refused B make p h =
    goes_then B (ItemsRefused collection total Item Refused kind) (λ a b c r s. make a b n c r s)
    (λ a w e r f. inr (n, record { prefix = a; rest = w; joined = refl; first = r; second = f }))
    (λ a f r _ _ start byte last. inl (in_length r.0 (number_early a (total n) r.1 start byte last)))
    (deserializes (Length collection total kind) (λ b k q. q) p) h

pub collection_fails : {S C X : Type 0} {is_known : S → Type 0} {left : S → List ℕ} {failures : S → Failures} {old new : StoreReader S} {e : DeserializeError} (collection : ValueType) (total : ℕ → ℕ) (kind : ValueType) (Item : List ℕ → X → Type 0) (Refused : List ℕ → DeserializeError → Type 0) (B : List ℕ → C → Type 0)
    → ReadsIf {X = ℕ} StoreMayStop is_known left failures old new (Err e) (Length collection total kind) (LengthRefused collection total kind) → DeserializesBy {X = C} is_known left failures old new (Err e) B (ItemsRefused collection total Item Refused kind)
collection_fails collection total kind Item Refused B p = goes_fails B (ItemsRefused collection total Item Refused kind) (λ w c f. inl f) (deserializes (Length collection total kind) (λ b k q. q) p)

-- ---- arrays

pub trees_of : {X : Type 0} (is : Tree → X → Type 0) (v : Version) (b : List ℕ) (xs : List X) → Each (EncodesAs is v) b xs → (ts : List Tree) × AllZip is ts xs × (length ts ≡ length xs) × EncodesElements Legacy v b (elements ts)
trees_of is v b [] p = ([], tt, refl, p)
trees_of is v b (x ∷ xs) p =
    let rest = trees_of is v p.rest xs p.second in
    (p.first.0 ∷ rest.0, (p.first.2, rest.1), ap suc rest.2, record { prefix = p.prefix; rest = p.rest; joined = p.joined; first = p.first.1; second = rest.3 })

array_made : {X : Type 0} (is : Tree → X → Type 0) (v : Version) (kind : ValueType) (a b : List ℕ) (n : ℕ) (c : Vec X Global) → Length types.Array element_total kind a n → EncodesInto (λ (items : Vec X Global) xs. items.items ≡ xs) (EncodesAs is v) n b c
    → EncodedAs (λ t (items : Vec X Global). ArrayOf is t items.items) v kind (a ++ b) c
array_made is v kind a b n c r s =
    let q = trees_of is v b s.0 s.3 in
    let many : n ≡ element_count (elements q.0) = sym s.2 ∙ sym q.2 ∙ sym (elements-length q.0) in (
      array (elements q.0),
      subst (λ k. Encodes Legacy v (type_prefix k ++ (a ++ b)) (array (elements q.0))) (sym r.0) (record { body = a ++ b; joined = refl; encoded = record { prefix = a; rest = b; joined = refl; first = subst (VNum a) many r.1; second = q.3 } }),
      record { trees = q.0; whole = refl; each = subst (AllZip is q.0) (sym s.1) q.1 },
    )

pub array_then : {S X : Type 0} {is_known : S → Type 0} {left : S → List ℕ} {failures : S → Failures} {old mid new : StoreReader S} {n : ℕ} {result : Result (Vec X Global) DeserializeError} (is : Tree → X → Type 0) (refused : Version → ValueType → List ℕ → DeserializeError → Type 0) (kind : ValueType)
    → ReadsIf StoreMayStop is_known left failures old mid (Ok n) (Length types.Array element_total kind) (LengthRefused types.Array element_total kind)
    → DeserializesBy is_known left failures mid new result (EncodesInto (λ (items : Vec X Global) xs. items.items ≡ xs) (EncodesAs is (version_of mid.version)) n) (InEach (NextRefused refused (version_of mid.version)) (EncodesAs is (version_of mid.version)) n)
    → DeserializesBy is_known left failures old new result (EncodedAs (λ t (items : Vec X Global). ArrayOf is t items.items) (version_of old.version) kind) (ArrayRefused is refused (version_of old.version) kind)
array_then {X = X} {old = old} {n = n} is refused kind p h =
    let v = version_of old.version in
    collection_then types.Array element_total kind (λ (items : Vec X Global) xs. items.items ≡ xs) (EncodesAs is v) (NextRefused refused v) (EncodedAs (λ t (items : Vec X Global). ArrayOf is t items.items) v kind)
    (λ a b m c r s. array_made is v kind a b m c r s) p
    (at_version (λ w. EncodesInto (λ (items : Vec X Global) xs. items.items ≡ xs) (EncodesAs is w) n) (λ w. InEach (NextRefused refused w) (EncodesAs is w) n) old.version p.same_version h)

-- ---- objects

pub entries_of : {X : Type 0} (is : Tree → X → Type 0) (v : Version) (b : List ℕ) (xs : List (String Global × X)) → Each (EncodesEntry is v) b xs → (es : List (List ℕ × Tree)) × AllZip (IsEntry is) es xs × (length es ≡ length xs) × EncodesEntries Legacy v b (entries es)
entries_of is v b [] p = ([], tt, refl, p)
entries_of is v b (x ∷ xs) p =
    let rest = entries_of is v p.rest xs p.second in
    let e = p.first in (
      (string_bytes x.0, e.second.0) ∷ rest.0,
      ((refl, e.second.2), rest.1),
      ap suc rest.2,
      record {
        prefix = e.prefix;
        rest = e.rest ++ p.rest;
        joined = p.joined ∙ ap (λ l. l ++ p.rest) e.joined ∙ append_assoc e.prefix e.rest p.rest;
        first = e.first;
        second = record { prefix = e.rest; rest = p.rest; joined = refl; first = e.second.1; second = rest.3 };
      },
    )

object_made : {C X : Type 0} (is : Tree → X → Type 0) (made_of : Tree → C → Type 0) (Made : C → List (String Global × X) → Type 0) → ((t : Tree) (c : C) (xs : List (String Global × X)) → Made c xs → ObjectOf is t xs → made_of t c)
    → (v : Version) (kind : ValueType) (a b : List ℕ) (n : ℕ) (c : C) → Length types.Object (entry_total v) kind a n → EncodesInto Made (EncodesEntry is v) n b c → EncodedAs made_of v kind (a ++ b) c
object_made is made_of Made make v kind a b n c r s =
    let q = entries_of is v b s.0 s.3 in
    let many : n ≡ entry_count (entries q.0) = sym s.2 ∙ sym q.2 ∙ sym (entries-length q.0) in (
      object (entries q.0),
      subst (λ k. Encodes Legacy v (type_prefix k ++ (a ++ b)) (object (entries q.0))) (sym r.0)
          (inl (record { body = a ++ b; joined = refl; encoded = record { prefix = a; rest = b; joined = refl; first = subst (λ m. VNum a (entry_total v m)) many r.1; second = q.3 } })),
      make (object (entries q.0)) c s.0 s.1 (record { trees = q.0; whole = refl; each = q.1 }),
    )

pub object_then : {S C X : Type 0} {is_known : S → Type 0} {left : S → List ℕ} {failures : S → Failures} {old mid new : StoreReader S} {n : ℕ} {result : Result C DeserializeError} (is : Tree → X → Type 0) (refused : Version → ValueType → List ℕ → DeserializeError → Type 0)
    (made_of : Tree → C → Type 0) (Made : C → List (String Global × X) → Type 0) → ((t : Tree) (c : C) (xs : List (String Global × X)) → Made c xs → ObjectOf is t xs → made_of t c) → (kind : ValueType)
    → ReadsIf StoreMayStop is_known left failures old mid (Ok n) (Length types.Object (entry_total (version_of old.version)) kind) (LengthRefused types.Object (entry_total (version_of old.version)) kind)
    → DeserializesBy is_known left failures mid new result (EncodesInto Made (EncodesEntry is (version_of mid.version)) n) (InEach (EntryRefused refused (version_of mid.version)) (EncodesEntry is (version_of mid.version)) n)
    → DeserializesBy is_known left failures old new result (EncodedAs made_of (version_of old.version) kind) (ObjectRefused is refused (version_of old.version) kind)
object_then {old = old} {n = n} is refused made_of Made make kind p h =
    let v = version_of old.version in
    collection_then types.Object (entry_total v) kind Made (EncodesEntry is v) (EntryRefused refused v) (EncodedAs made_of v kind) (λ a b m c r s. object_made is made_of Made make v kind a b m c r s) p
    (at_version (λ w. EncodesInto Made (EncodesEntry is w) n) (λ w. InEach (EntryRefused refused w) (EncodesEntry is w) n) old.version p.same_version h)

-- ---- maps

last_push : {X : Type 0} (key : List ℕ) (found : Option X) (ps : List (String Global × X)) (p : String Global × X)
    → fold (λ f q. if bytes_eq key (string_bytes q.0) then Some q.1 else f) found (ps ++ p ∷ []) ≡ (if bytes_eq key (string_bytes p.0) then Some p.1 else fold (λ f q. if bytes_eq key (string_bytes q.0) then Some q.1 else f) found ps)
last_push key found [] p = refl
last_push key found (q ∷ ps) p = last_push key (if bytes_eq key (string_bytes q.0) then Some q.1 else found) ps p

-- the last value stands
pub last_more : {X : Type 0} (old new : List ℕ → Option X) (key : String Global) (value : X) → ((q : List ℕ) → new q ≡ (if bytes_eq q (string_bytes key) then Some value else old q)) → (pairs : List (String Global × X)) → GivesLast old pairs → GivesLast new (pairs ++ (key, value) ∷ [])
last_more old new key value put pairs last = λ q. put q ∙ ap (λ f. if bytes_eq q (string_bytes key) then Some value else f) (last q) ∙ sym (last_push q None pairs (key, value))

-- ---- the next of them

-- there is a next one, and it is refused
pub item_fails : {S X : Type 0} {is_known : S → Type 0} {left : S → List ℕ} {failures : S → Failures} {old new : StoreReader S} {e : DeserializeError} (Item : List ℕ → X → Type 0) (Refused : List ℕ → DeserializeError → Type 0) (position announced : ℕ) → position < announced
    → DeserializesBy {X = X} is_known left failures old new (Err e) Item Refused → DeserializesBy {X = Option X} is_known left failures old new (Err e) (NextItem Item position announced) (NextItemRefused Refused position announced)
item_fails Item Refused position announced fewer h = goes_fails (NextItem Item position announced) (NextItemRefused Refused position announced) (λ w c f. (fewer, f)) h
