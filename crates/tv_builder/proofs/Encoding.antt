-- How values that stand encoded in bytes are written.
use Rattle.std.proofs.Common.{◌≡◌, ℕ, ◌+◌, ◌≤◌, List, [], ◌∷◌, ◌++◌, length, drop, refl, sym, ◌∙◌, ap, subst, append_assoc, length-append, arith, inl}
use Rattle.tv_base.specs.Number.{VNum}
use Rattle.tv_base.specs.Parts.{Begins, Then, Each}
use Rattle.tv_format.specs.Content.{Content, form_of}
use Rattle.tv_format.specs.Leaves.{form, store_code}
use Rattle.tv_format.specs.declared.leaf_type.LeafType.{LeafType}
use Rattle.tv_format.specs.Encoding.{NoLegacy, Key, ContentBody, Encodes, EncodesElements, EncodesEntries}
use Rattle.tv_format.specs.Tree.{text, Tree, leaf, array, object, elements, entries, element_count, entry_count}
use Rattle.tv_format.specs.Version.{Version, plain, entry_total}
use Rattle.tv_format.specs.WriteVersion.{written_version}
use Rattle.tv_format.specs.declared.leaf_type.WriteVersion.{WriteVersion}
use Rattle.tv_format.proofs.Prefixes.{begins_behind, begins_then, begins_nothing, begins_item}
use Rattle.tv_builder.specs.declared.kinds.ListKind.TheVariants.{Array, Object}
use Rattle.tv_heap.specs.declared.value_type.Place.{Place}
use Rattle.tv_builder.specs.Given.{place_bytes}
use Rattle.tv_builder.specs.EncodedPut.{EncodedPut}
use Rattle.tv_builder.specs.Whole.{PutWith, ListPut}
use Rattle.tv_value.proofs.Found.{leaf_begins}
use Rattle.tv_builder.proofs.Grammar.{elements_counted, entries_counted}
use Rattle.tv_builder.proofs.Putting.{ChildPut, ChildrenPut, none_put, one_child_more, all_put, items_make, members_make, flat_entries, flat_push}

-- ---- a leaf

-- a leaf was read after its type's code, and written
pub leaf_encoded : (version : WriteVersion) (t : LeafType) (c : Content) (code : ℕ) (bytes rest old new : List ℕ) (p : Place) → store_code t ≡ code → form_of c ≡ form t → Begins (λ b. ContentBody plain b c) bytes rest → PutWith old t c new p → EncodedPut (written_version version) (code ∷ bytes) rest old new p
leaf_encoded version t c code bytes rest old new p is formed begins put =
    let m = leaf_begins version t c code bytes rest is formed begins in
    record { tree = leaf m.0; encoded = m.2; put = put.put m.0 m.1.0 m.1.1 }

-- ---- lists

-- This many children, of a list that announces a total, were read after that number, and written.
pub record ReadPut {T : Type 0} (Child : List ℕ → T → Type 0) (trees : List T → List Tree) (total count : ℕ) (bytes rest old before heap places : List ℕ) : Type 0 where
  pub behind : List ℕ
  pub number : Begins (λ b. VNum b total) bytes behind
  pub done : List T
  pub counted : length done ≡ count
  pub encoded : Begins (λ b. Each Child b done) behind rest
  pub put : ChildrenPut 4294967295 old before (trees done) heap places

pub none_read : {T : Type 0} (Child : List ℕ → T → Type 0) (trees : List T → List Tree) (total : ℕ) (bytes behind heap places : List ℕ) → trees [] ≡ [] → length heap ≤ 4294967295 → Begins (λ b. VNum b total) bytes behind
    → ReadPut Child trees total 0 bytes behind heap places heap places
none_read Child trees total bytes behind heap places none fits number = record {
  behind = behind;
  number = number;
  done = [];
  counted = refl;
  encoded = begins_nothing behind refl;
  put = subst (λ z. ChildrenPut 4294967295 heap places z heap places) (sym none) (none_put heap places fits (omega arith));
}

pub one_read : {T : Type 0} (Child : List ℕ → T → Type 0) (trees : List T → List Tree) (total n : ℕ) (bytes rest after old before heap places new later : List ℕ) (child : T) (s : ReadPut Child trees total n bytes rest old before heap places)
    → Begins (λ b. Child b child) rest after → ChildrenPut 4294967295 old before (trees (s.done ++ child ∷ [])) new later → ReadPut Child trees total (n + 1) bytes after old before new later
one_read Child trees total n bytes rest after old before heap places new later child s encoded put = record {
  behind = s.behind;
  number = s.number;
  done = s.done ++ child ∷ [];
  counted = omega (arith, s.counted, length-append s.done (child ∷ []));
  encoded = begins_item Child s.done child s.behind rest after s.encoded encoded;
  put = put;
}

-- ---- arrays

abbrev pub Item : Version → List ℕ → Tree → Type 0
Item v b t = Encodes NoLegacy v b t

items_encode : (v : Version) (ts : List Tree) (b : List ℕ) → Each (Item v) b ts → EncodesElements NoLegacy v b (elements ts)
items_encode v [] b p = p
items_encode v (t ∷ ts) b p = record { prefix = p.prefix; rest = p.rest; joined = p.joined; first = p.first; second = items_encode v ts p.rest p.second }

abbrev pub ItemsPut : Version → ℕ → ℕ → List ℕ → List ℕ → List ℕ → List ℕ → List ℕ → List ℕ → Type 0
ItemsPut v announced = ReadPut (Item v) (λ ts. ts) announced

pub one_item : (v : Version) (announced n : ℕ) (bytes rest after old before heap places new later : List ℕ) (p : Place) → ItemsPut v announced n bytes rest old before heap places → EncodedPut v rest after heap new p → later ≡ places ++ place_bytes p
    → ItemsPut v announced (n + 1) bytes after old before new later
one_item v announced n bytes rest after old before heap places new later p s w e =
    one_read (Item v) (λ ts. ts) announced n bytes rest after old before heap places new later w.tree s w.encoded (one_child_more old before heap places new later s.done w.tree s.put (p, w.put, e))

pub array_encoded : (v : Version) (announced n m : ℕ) (bytes rest old before heap places new : List ℕ) (p : Place) → announced ≡ n → ItemsPut v announced n bytes rest old before heap places → m ≡ length before → ListPut 4294967295 heap Array (drop m places) new p
    → EncodedPut v (12 ∷ bytes) rest old new p
array_encoded v announced n m bytes rest old before heap places new p all_read s is w =
    let many : announced ≡ element_count (elements s.done) = all_read ∙ sym s.counted ∙ sym (elements_counted NoLegacy v s.done) in
    let items : Begins (λ b. EncodesElements NoLegacy v b (elements s.done)) s.behind rest = record { prefix = s.encoded.prefix; joined = s.encoded.joined; encoded = items_encode v s.done s.encoded.prefix s.encoded.encoded } in
    record {
      tree = array (elements s.done);
      encoded = begins_behind 12 bytes rest (begins_then bytes s.behind rest (subst (λ m. Begins (λ b. VNum b m) bytes s.behind) many s.number) items);
      put = all_put Array old before heap places new s.done (array (elements s.done)) m p (items_make s.done) s.put is w;
    }

-- ---- objects

abbrev pub Member : Version → List ℕ → List ℕ × Tree → Type 0
Member v b e = Then (λ k. Key v k e.0) (λ s. Encodes NoLegacy v s e.1) b

members_encode : (v : Version) (es : List (List ℕ × Tree)) (b : List ℕ) → Each (Member v) b es → EncodesEntries NoLegacy v b (entries es)
members_encode v [] b p = p
members_encode v (e ∷ es) b p =
    let m = p.first in
    record {
      prefix = m.prefix;
      rest = m.rest ++ p.rest;
      joined = p.joined ∙ ap (λ z. z ++ p.rest) m.joined ∙ append_assoc m.prefix m.rest p.rest;
      first = m.first;
      second = record { prefix = m.rest; rest = p.rest; joined = refl; first = m.second; second = members_encode v es p.rest p.second };
    }

abbrev pub MembersPut : Version → ℕ → ℕ → List ℕ → List ℕ → List ℕ → List ℕ → List ℕ → List ℕ → Type 0
MembersPut v announced = ReadPut (Member v) flat_entries (entry_total v announced)

pub one_member : (v : Version) (announced n : ℕ) (bytes rest between after old before heap places mid now new later k : List ℕ) (p : Place) → MembersPut v announced n bytes rest old before heap places → Begins (λ b. Key v b k) rest between
    → ChildPut 4294967295 heap places (leaf (text k)) mid now → EncodedPut v between after mid new p → later ≡ now ++ place_bytes p → MembersPut v announced (n + 1) bytes after old before new later
one_member v announced n bytes rest between after old before heap places mid now new later k p s key named w e =
    let keyed = one_child_more old before heap places mid now (flat_entries s.done) (leaf (text k)) s.put named in
    let both = one_child_more old before mid now new later (flat_entries s.done ++ leaf (text k) ∷ []) w.tree keyed (p, w.put, e) in
    one_read (Member v) flat_entries (entry_total v announced) n bytes rest after old before heap places new later (k, w.tree) s (begins_then rest between after key w.encoded) (subst (λ z. ChildrenPut 4294967295 old before z new later) (flat_push s.done k w.tree) both)

pub object_encoded : (v : Version) (announced n m : ℕ) (bytes rest old before heap places new : List ℕ) (p : Place) → announced ≡ n → MembersPut v announced n bytes rest old before heap places → m ≡ length before → ListPut 4294967295 heap Object (drop m places) new p
    → EncodedPut v (13 ∷ bytes) rest old new p
object_encoded v announced n m bytes rest old before heap places new p all_read s is w =
    let many : entry_total v announced ≡ entry_total v (entry_count (entries s.done)) = ap (entry_total v) (all_read ∙ sym s.counted ∙ sym (entries_counted NoLegacy v s.done)) in
    let members : Begins (λ b. EncodesEntries NoLegacy v b (entries s.done)) s.behind rest = record { prefix = s.encoded.prefix; joined = s.encoded.joined; encoded = members_encode v s.done s.encoded.prefix s.encoded.encoded } in
    let own_bytes = begins_behind 13 bytes rest (begins_then bytes s.behind rest (subst (λ m. Begins (λ b. VNum b m) bytes s.behind) many s.number) members) in
    record {
      tree = object (entries s.done);
      encoded = record { prefix = own_bytes.prefix; joined = own_bytes.joined; encoded = inl own_bytes.encoded };
      put = all_put Object old before heap places new (flat_entries s.done) (object (entries s.done)) m p (members_make s.done) s.put is w;
    }
