-- Where an array or an object is refused, no prefix of its bytes encodes one of whose values some
-- are read.
use Rattle.std.specs.Prelude.{◌≡◌, ℕ, zero, suc, List, [], ◌∷◌, ◌++◌, length, String, string_bytes}
use Rattle.std.specs.List.{AllZip}
use Rattle.std.specs.declared.alloc.Global.{Global}
use Rattle.std.proofs.Common.{refl, sym, ap, subst, ◌∙◌, arith, append_assoc, inl, inr}
use Rattle.tv_base.specs.Number.{VNum}
use Rattle.tv_base.specs.Parts.{OneReading, Then, Each}
use Rattle.tv_base.specs.ErrorInPart.{InEach}
use Rattle.tv_base.proofs.Agreement.{one_from, agree_map, agree_then}
use Rattle.tv_base.proofs.Excluding.{Excludes, rests, excludes_then, excludes_number}
use Rattle.tv_base.proofs.Numbers.{one_number}
use Rattle.tv_reader.specs.Legacy.{Legacy}
use Rattle.tv_reader.proofs.UniqueLegacy.{one_legacy}
use Rattle.tv_format.specs.Encoding.{Key, Encodes, EncodesElements, EncodesEntries, NoLegacy}
use Rattle.tv_format.specs.Tree.{Tree, object, elements, Entries, entries}
use Rattle.tv_format.specs.Version.{Version, entry_total}
use Rattle.tv_format.proofs.ExcludingLeaves.{key_excludes}
use Rattle.tv_format.proofs.Leaves.{agree_key, total_same}
use Rattle.tv_format.proofs.Lists.{elements-length, entries-length}
use Rattle.tv_format.proofs.Trees.{one_tree, agree_tree}
use Rattle.tv_reader.specs.ValueType.{type_prefix}
use Rattle.tv_reader.specs.declared.error.DeserializeError.{DeserializeError}
use Rattle.tv_reader.specs.declared.value_type.ValueType.{ValueType}
use Rattle.tv_reader.specs.declared.value_type.ValueType.TheVariants as types
use Rattle.tv_reader.proofs.AgreeKinds.{same_coded}
use Rattle.tv_typed.specs.Excluding.{next_excludes, with_legacy}
use Rattle.tv_typed.specs.Lists.{ArrayOf, IsEntry, ObjectOf, Length, element_total, EncodesEntry}
use Rattle.tv_typed.specs.Lists.{LengthRefused, other_collection, in_length, no_total, ItemsRefused}
use Rattle.tv_typed.specs.Lists.{ArrayRefused, EntryRefused, ObjectRefused}
use Rattle.tv_typed.specs.Values.{EncodesAs, NextRefused, RefusalsExclude}

-- ---- items

-- items that are encoded without legacy objects are refused by none of what is said of all items
each_excludes : {A X : Type 0} (Item Plain : List ℕ → A → Type 0) (Encoded : List ℕ → X → Type 0)
    (Is : A → X → Type 0) (Refused : List ℕ → DeserializeError → Type 0) → OneReading Item
    → ((b : List ℕ) (x : X) → Encoded b x → (a : A) × Item b a)
    → ((b : List ℕ) (a : A) → Plain b a → Item b a)
    → ((whole prefix rest : List ℕ) (e : DeserializeError) (a : A) (x : X) → Refused whole e
    → whole ≡ prefix ++ rest → Plain prefix a → Is a x → ⊥)
    → (n : ℕ) (us : List A) (xs : List X) → n ≡ length us → AllZip Is us xs
    → Excludes (InEach Refused Encoded n) (λ b. Each Plain b us)
each_excludes Item Plain Encoded Is Refused one parts more none zero us xs many each =
    record { excludes = λ whole a rest e error p joined. error }
each_excludes Item Plain Encoded Is Refused one parts more none (suc n) (u ∷ us) (x ∷ xs) many each = record {
  excludes = λ whole a rest e error p joined.
      let cut : whole ≡ p.prefix ++ (p.rest ++ rest) = joined ∙ ap (λ z. z ++ rest) p.joined
      ∙ append_assoc p.prefix p.rest rest in
      (elim error as (λ _. ⊥) [
        | inl h ↦ none whole p.prefix (p.rest ++ rest) e u x h cut p.first each.0
        | inr h ↦
            let item = parts h.1.prefix h.0 h.1.first in
            let both : h.1.prefix ++ h.1.rest ≡ p.prefix ++ (p.rest ++ rest) = sym h.1.joined ∙ cut in
            let same = one h.1.prefix p.prefix h.1.rest (p.rest ++ rest) item.0 u item.1
            (more p.prefix u p.first) both in
            (each_excludes Item Plain Encoded Is Refused one parts more none n us xs
            (omega (arith, many)) each.1).excludes h.1.rest p.rest rest e h.1.second p.second
            (rests h.1.prefix h.1.rest p.prefix (p.rest ++ rest) same.0 both)
      ]);
}
each_excludes Item Plain Encoded Is Refused one parts more none (suc n) [] xs many each =
    absurd (omega (arith, many))
each_excludes Item Plain Encoded Is Refused one parts more none (suc n) (u ∷ us) [] many each = absurd each

-- ---- their number

length_excluded : (collection : ValueType) (total : ℕ → ℕ) (kind : ValueType) (m : ℕ) (whole a rest : List ℕ)
    (e : DeserializeError) → LengthRefused collection total kind whole e → Length collection total kind a m
    → whole ≡ a ++ rest → ⊥
length_excluded collection total kind m whole a rest error (other_collection other) p joined = other p.0
length_excluded collection total kind m whole a rest error (in_length {cause} same f) p joined =
    (excludes_number (total m)).excludes whole a rest cause f p.1 joined
length_excluded collection total kind m whole a rest error
    (no_total n prefix after same cut number none) p joined =
    none m (sym (one_number prefix a after rest n (total m) number p.1 (sym cut ∙ joined)).1)

length_reads : (collection : ValueType) (total : ℕ → ℕ) (kind : ValueType)
    → ((m n : ℕ) → total m ≡ total n → m ≡ n) → OneReading (Length collection total kind)
length_reads collection total kind apart a b x y m n p q e = let s =
    one_number a b x y (total m) (total n) p.1 q.1 e in (s.0, apart m n s.1)

-- a number, and then this many items
items_exclude : {A X : Type 0} (collection : ValueType) (total : ℕ → ℕ) (kind : ValueType)
    → ((m n : ℕ) → total m ≡ total n → m ≡ n)
    → (Item Plain : List ℕ → A → Type 0) (Encoded : List ℕ → X → Type 0) (Is : A → X → Type 0)
    (Refused : List ℕ → DeserializeError → Type 0) → OneReading Item
    → ((b : List ℕ) (x : X) → Encoded b x → (a : A) × Item b a)
    → ((b : List ℕ) (a : A) → Plain b a → Item b a)
    → ((whole prefix rest : List ℕ) (e : DeserializeError) (a : A) (x : X) → Refused whole e
    → whole ≡ prefix ++ rest → Plain prefix a → Is a x → ⊥)
    → (us : List A) (xs : List X) → AllZip Is us xs
    → Excludes (ItemsRefused collection total Encoded Refused kind)
    (Then (λ b. Length collection total kind b (length us)) (λ b. Each Plain b us))
items_exclude collection total kind apart Item Plain Encoded Is Refused one parts more none us xs each =
    excludes_then (LengthRefused collection total kind) (Length collection total kind)
    (λ n. InEach Refused Encoded n) (length us)
    (record {
      excludes = λ whole a rest e f p joined. length_excluded collection total kind
          (length us) whole a rest e f p joined;
    }) (length_reads collection total kind apart)
    (each_excludes Item Plain Encoded Is Refused one parts more none (length us) us xs refl each)

-- ---- arrays

pub each_elements : (v : Version) (ts : List Tree) (b : List ℕ) → EncodesElements NoLegacy v b (elements ts)
    → Each (Encodes NoLegacy v) b ts
each_elements version [] b h = h
each_elements version (t ∷ ts) b h =
    record {
      prefix = h.prefix;
      rest = h.rest;
      joined = h.joined;
      first = h.first;
      second = each_elements version ts h.rest h.second;
    }

pub array_excludes : {X : Type 0} (is : Tree → X → Type 0)
    (refused : Version → ValueType → List ℕ → DeserializeError → Type 0) → RefusalsExclude is refused
    → (v : Version) (kind : ValueType) (prefix rest : List ℕ) (e : DeserializeError) (t : Tree) (xs : List X)
    → ArrayRefused is refused v kind (prefix ++ rest) e
    → Encodes NoLegacy v (type_prefix kind ++ prefix) t → ArrayOf is t xs → ⊥
array_excludes is refused excludes v kind prefix rest e t xs r p o =
    let q = subst (λ z. Encodes NoLegacy v (type_prefix kind ++ prefix) z) o.whole p in
    let behind = same_coded kind types.Array prefix q.body q.joined in
    let s = q.encoded in
    (items_exclude types.Array element_total kind (λ m n e. e) (Encodes Legacy v) (Encodes NoLegacy v)
    (EncodesAs is v) is (NextRefused refused v) (one_tree Legacy v one_legacy) (λ b x s. (s.0, s.1))
    (λ b t. with_legacy v t b)
    (λ whole prefix rest e t x f joined p h. next_excludes is refused excludes v whole prefix rest e t x f
    joined p h) o.trees xs o.each).excludes (prefix ++ rest) prefix rest e r
    (record {
      prefix = s.prefix;
      rest = s.rest;
      joined = behind.1
          ∙ s.joined;
      first = (behind.0, subst (VNum s.prefix) (elements-length o.trees) s.first);
      second =
          each_elements v o.trees s.rest s.second;
    }) refl

-- ---- objects

-- a key, and the tree after it
abbrev pub KeyAndTree : (List ℕ → Entries → Type 0) → Version → List ℕ → List ℕ × Tree → Type 0
KeyAndTree L version b e = Then (λ w. Key version w e.0) (λ w. Encodes L version w e.1) b

pub one_entry : (v : Version) → OneReading (KeyAndTree Legacy v)
one_entry version = one_from (KeyAndTree Legacy version)
    (λ p q. agree_map (λ h. λ i. (h.0 i, h.1 i))
    (agree_then (agree_key version p.0 q.0) (λ _. agree_tree Legacy version one_legacy p.1 q.1)))

pub each_entries : (v : Version) (es : List (List ℕ × Tree)) (b : List ℕ)
    → EncodesEntries NoLegacy v b (entries es) → Each (KeyAndTree NoLegacy v) b es
each_entries version [] b h = h
each_entries version (e ∷ es) b h = record {
  prefix = h.prefix ++ h.second.prefix;
  rest = h.second.rest;
  joined = h.joined ∙ ap (λ (l : List ℕ). h.prefix ++ l) h.second.joined
      ∙ sym (append_assoc h.prefix h.second.prefix h.second.rest);
  first = record {
    prefix = h.prefix;
    rest = h.second.prefix;
    joined = refl;
    first = h.first;
    second = h.second.first;
  };
  second = each_entries version es h.second.rest h.second.second;
}

entry_excludes : {X : Type 0} (is : Tree → X → Type 0)
    (refused : Version → ValueType → List ℕ → DeserializeError → Type 0) → RefusalsExclude is refused
    → (v : Version) (whole prefix rest : List ℕ) (e : DeserializeError) (i : List ℕ × Tree)
    (x : String Global × X) → EntryRefused refused v whole e → whole ≡ prefix ++ rest
    → KeyAndTree NoLegacy v prefix i → IsEntry is i x → ⊥
entry_excludes is refused excludes v whole prefix rest e i x (inl f) joined p h =
    key_excludes v whole f.refusal f.error i.0 p.prefix (p.rest ++ rest) p.first
    (joined ∙ ap (λ z. z ++ rest) p.joined ∙ append_assoc p.prefix p.rest rest)
entry_excludes is refused excludes v whole prefix rest e i x (inr f) joined p h =
    let k = f.1 in
    let both : k.prefix ++ k.rest ≡ p.prefix ++ (p.rest ++ rest) = sym k.joined ∙ joined
    ∙ ap (λ z. z ++ rest) p.joined ∙ append_assoc p.prefix p.rest rest in
    let same = (agree_key v f.0 i.0).agree k.prefix p.prefix k.rest (p.rest ++ rest) k.first p.first both in
    next_excludes is refused excludes v k.rest p.rest rest e i.1 x.1 k.second
    (rests k.prefix k.rest p.prefix (p.rest ++ rest) same.0 both) p.second h.1

object_excluded : {X : Type 0} (is : Tree → X → Type 0)
    (refused : Version → ValueType → List ℕ → DeserializeError → Type 0) → RefusalsExclude is refused
    → (v : Version) (kind : ValueType) (prefix rest : List ℕ) (e : DeserializeError)
    (es : List (List ℕ × Tree)) (xs : List (String Global × X))
    → ObjectRefused is refused v kind (prefix ++ rest) e
    → Encodes NoLegacy v (type_prefix kind ++ prefix) (object (entries es)) → AllZip (IsEntry is) es xs
    → ⊥
object_excluded is refused excludes v kind prefix rest e es xs r (inr q) each = q.encoded
object_excluded is refused excludes v kind prefix rest e es xs r (inl q) each =
    let behind = same_coded kind types.Object prefix q.body q.joined in
    let s = q.encoded in
    (items_exclude types.Object (entry_total v) kind (total_same v) (KeyAndTree Legacy v)
    (KeyAndTree NoLegacy v) (EncodesEntry is v) (IsEntry is) (EntryRefused refused v) (one_entry v)
    (λ b x s. (
      (string_bytes x.0, s.second.0),
      record { prefix = s.prefix; rest = s.rest; joined = s.joined; first = s.first; second = s.second.1 },
    ))
    (λ b e p. record {
      prefix = p.prefix;
      rest = p.rest;
      joined = p.joined;
      first = p.first;
      second = with_legacy v e.1 p.rest p.second;
    })
    (λ whole prefix rest e i x f joined p h. entry_excludes is refused excludes v whole prefix rest e i x f
    joined p h) es xs each).excludes (prefix ++ rest) prefix rest e r
    (record {
      prefix = s.prefix;
      rest = s.rest;
      joined = behind.1
          ∙ s.joined;
      first =
          (behind.0, subst (λ n. VNum s.prefix (entry_total v n)) (entries-length es) s.first);
      second =
          each_entries v es s.rest s.second;
    }) refl

pub object_excludes : {X : Type 0} (is : Tree → X → Type 0)
    (refused : Version → ValueType → List ℕ → DeserializeError → Type 0) → RefusalsExclude is refused
    → (v : Version) (kind : ValueType) (prefix rest : List ℕ) (e : DeserializeError) (t : Tree)
    (xs : List (String Global × X)) → ObjectRefused is refused v kind (prefix ++ rest) e
    → Encodes NoLegacy v (type_prefix kind ++ prefix) t → ObjectOf is t xs → ⊥
object_excludes is refused excludes v kind prefix rest e t xs r p o =
    object_excluded is refused excludes v kind prefix rest e o.trees xs r
    (subst (λ z. Encodes NoLegacy v (type_prefix kind ++ prefix) z) o.whole p) o.each
