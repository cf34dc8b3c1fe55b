-- What stands in a heap is what the store has after a value's code.
use Rattle.std.proofs.Common.{inl, inr, append_assoc, take-append-drop, ◌≡◌, ℕ, ◌+◌, ◌*◌, ◌-◌, ◌/◌, ◌%◌, ◌^◌, ◌<◌, ◌≤◌, suc, ℤ, not, List, [], ◌∷◌, ◌++◌, ◌↔◌, length, take, drop, refl, sym, ◌∙◌, ap, arith}
use Rattle.std.specs.Int.{w64, cast_unsigned}
use Rattle.std.specs.List.{filter}
use Rattle.std.proofs.lemmas.Bool.{cases_lt, cond-true, cond-false, lt-ltb, le-ltb}
use Rattle.std.proofs.lemmas.List.{length-append}
use Rattle.std.proofs.lemmas.List.Elements.{filter-append}
use Rattle.std.proofs.Math.Logic.{∥∥₁_elim}
use Rattle.std.proofs.Math.Seq.{take-append_seam}
use mathlib.Core.HLevel.{⊥_prop}
use base.Stored.{Coded-set}
use Rattle.tv_base.specs.Number.{Groups, last, more, vnum, low_bytes, eight_bytes, sixteen_bytes, Fixed, no_bytes, low_byte, Signed}
use Rattle.tv_base.specs.Parts.{short_sized}
use Rattle.tv_base.proofs.Numbers.{vnum_encodes, length-fixed}
use Rattle.tv_format.specs.Short.{short_content, short_leaf, short, short_elements, short_entries, short_tokenized}
use Rattle.tv_format.specs.Content.{Content, signed_content, text_content, tokens_content, form_of}
use Rattle.tv_format.specs.Leaves.{type_of, content, store_code, heap_code}
use Rattle.tv_format.specs.declared.leaf_type.Form.TheVariants as forms
use Rattle.tv_format.specs.declared.leaf_type.LeafType.{LeafType}
use Rattle.tv_format.specs.Tree.{Token, Leaf, text, Tree, leaf, array, object, Elements, no_elements, element, elements, element_count, Entries, no_entries, entry, entries, entry_count}
use Rattle.tv_format.specs.TreeCode.{coded_text}
use Rattle.tv_format.specs.Version.{Version, entry_total}
use Rattle.tv_heap.specs.declared.value.Encoded.{Encoded}
use Rattle.tv_heap.specs.declared.value.Encoded.TheVariants as held
use Rattle.tv_heap.specs.Encoded.{HoldsTokens, IsTokenized, SaysTokenized, is_last, last_byte_count}
use Rattle.tv_heap.specs.Held.{Held, HeldElements, HeldEntries}
use Rattle.tv_heap.specs.Reads.{Stands, ShortSized, ShortTokenized, ContentStands, LeafStands, ReadsTree, ReadsElements, ReadsEntries}
use Rattle.tv_format.specs.LeavesLaws.{one_heap_code, small_heap_code}
use Rattle.tv_heap.specs.ReadsLaws.{leaf_type_small}
use Rattle.tv_format.proofs.Leaves.{agree_tokenized}
use Rattle.tv_format.specs.Encoding.{Tokenized}
use Rattle.tv_heap.proofs.Lends.{text_sized, stands_behind, tokenized_stands}
use Rattle.tv_heap.proofs.Shapes.{GivesSized, children_are, entries_are}

-- ---- the last bytes of numbers

pub last_more : (b : ℕ) (bs : List ℕ) → 128 ≤ b → last_byte_count (b ∷ bs) ≡ suc (last_byte_count bs)
last_more b bs h = ap length (cond-true (is_last b) (b ∷ filter is_last bs) (filter is_last bs) (ap not (le-ltb b 128 h)))

pub last_same : (b : ℕ) (bs : List ℕ) → b < 128 → last_byte_count (b ∷ bs) ≡ last_byte_count bs
last_same b bs h = ap length (cond-false (is_last b) (b ∷ filter is_last bs) (filter is_last bs) (ap not (lt-ltb b 128 h)))

last_append : (a b : List ℕ) → last_byte_count (a ++ b) ≡ last_byte_count a + last_byte_count b
last_append a b = ap length (filter-append is_last a b) ∙ length-append (filter is_last a) (filter is_last b)

-- there are no more than bytes
pub last_at_most : (bs : List ℕ) → last_byte_count bs ≤ length bs
last_at_most [] = omega arith
last_at_most (b ∷ bs) =
    elim (cases_lt b 128) [
      | inl p ↦ omega (arith, last_same b bs p, last_at_most bs)
      | inr p ↦ omega (arith, last_more b bs p, last_at_most bs)
    ]

groups_last : {bytes : List ℕ} {n : ℕ} → Groups bytes n → last_byte_count bytes ≡ 1
groups_last (last {n = n} p) = last_more (n + 128) [] (omega arith)
groups_last (more {b = b} {bytes = bs} p g) = last_same b bs p ∙ groups_last g

number_last : (n : ℕ) → n < 2 ^ 32 → last_byte_count (vnum n) ≡ 1
number_last n h = groups_last (vnum_encodes n (omega (arith, h))).groups

code_small : (heap : List ℕ) (code at : ℕ) (t : Tree) → ReadsTree heap code at t → code < 128
code_small heap code at (leaf l) r = omega (arith, r.0, leaf_type_small l)
code_small heap code at (array ts) r = omega (arith, r.0)
code_small heap code at (object es) r = omega (arith, r.0)

child_last : (code at : ℕ) (rest whole : List ℕ) → code < 128 → at < 2 ^ 32 → whole ≡ code ∷ (vnum at ++ rest) → last_byte_count whole ≡ suc (last_byte_count rest)
child_last code at rest whole small fits joined = omega (arith, ap last_byte_count joined, last_same code (vnum at ++ rest) small, last_append (vnum at) rest, number_last at fits)

elements_last : (heap : List ℕ) (parent : ℕ) (whole : List ℕ) (ts : Elements) → ReadsElements heap parent whole ts → last_byte_count whole ≡ element_count ts
elements_last heap parent whole no_elements r = ap last_byte_count r
elements_last heap parent whole (element t ts) r =
    child_last r.code r.at r.rest whole (code_small heap r.code r.at t r.reads) r.fits r.joined ∙ ap suc (elements_last heap parent r.rest ts r.others)

-- ---- an object's keys and values in turn

abbrev flat : Entries → Elements
flat no_entries = no_elements
flat (entry k t es) = element (leaf (text k)) (element t (flat es))

flat_reads : (heap : List ℕ) (parent : ℕ) (whole : List ℕ) (es : Entries) → ReadsEntries heap parent whole es → ReadsElements heap parent whole (flat es)
flat_reads heap parent whole no_entries r = r
flat_reads heap parent whole (entry k t es) r = record {
  code = r.code;
  at = r.at;
  rest = r.rest;
  joined = r.joined;
  fits = r.fits;
  below = r.below;
  reads = r.reads;
  others = record {
    code = r.others.code;
    at = r.others.at;
    rest = r.others.rest;
    joined = r.others.joined;
    fits = r.others.fits;
    below = r.others.below;
    reads = r.others.reads;
    others = flat_reads heap parent r.others.rest es r.others.others;
  };
}

flat_count : (es : Entries) → element_count (flat es) ≡ 2 * entry_count es
flat_count no_entries = refl
flat_count (entry k t es) = omega (arith, flat_count es)

-- ---- values

-- what `sized_encoding_at` promises
abbrev GivesEncoded : List ℕ → ℕ → List ℕ → Type 0
GivesEncoded heap at x = (s : List ℕ) → Stands heap at (λ w. ShortSized s w) → x ≡ short_sized s

-- what `eight_at` promises
abbrev GivesNumber : List ℕ → ℕ → ℕ → Type 0
GivesNumber heap at x = (n : ℕ) → Stands heap at (λ w. Fixed 8 w n) → x ≡ n

-- the eight bytes of a signed number are a number's
pattern_is : (heap : List ℕ) (at x : ℕ) (z : ℤ) → GivesNumber heap at x → Stands heap at (λ w. Signed w z) → x ≡ cast_unsigned w64 z
pattern_is heap at x z is p = is _ (record { before = p.before; whole = p.whole; behind = p.behind; joined = p.joined; place = p.place; stands = p.stands.encoded })

pub signed_bytes : (heap : List ℕ) (at x : ℕ) → GivesNumber heap at x → (c : Content) → form_of c ≡ forms.Signed → ContentStands heap at c → eight_bytes x ≡ short_content c
signed_bytes heap at x is (signed_content z) e p = ap eight_bytes (pattern_is heap at x z is p)
signed_bytes heap at x is _ e p = absurd (cc)

pub text_bytes : (heap : List ℕ) (at : ℕ) (x : List ℕ) → GivesEncoded heap at x → (c : Content) → form_of c ≡ forms.Text → ContentStands heap at c → x ≡ short_content c
text_bytes heap at x is (text_content s) e p = is s (text_sized heap at s p)
text_bytes heap at x is _ e p = absurd (cc)

-- ---- leaves

-- the code of a type, and what stands after it
pub leaf_short : (t : LeafType) (l : Leaf) (code : ℕ) (behind : List ℕ) → type_of l ≡ t → code ≡ store_code t → behind ≡ short_content (content l) → code ∷ behind ≡ short_leaf l
leaf_short t l code behind same is e = λ i. (is ∙ ap store_code (sym same)) i ∷ e i

leaf_tree_bytes : (v : Version) (heap : List ℕ) (code at : ℕ) (u : Tree) (t : LeafType) (x : List ℕ) → code ≡ heap_code t → ((l : Leaf) → type_of l ≡ t → LeafStands heap at l → x ≡ short_leaf l) → ReadsTree heap code at u → x ≡ short v u
leaf_tree_bytes v heap code at (leaf l) t x e is r = is l (one_heap_code (type_of l) t (sym r.0 ∙ e)) r.1
leaf_tree_bytes v heap code at _ t x e is r = absurd (omega (arith, r.0, e, small_heap_code t))

pub leaf_bytes : (v : Version) (heap : List ℕ) (code at : ℕ) (h : Held heap code at) (t : LeafType) (x : List ℕ) → code ≡ heap_code t → ((l : Leaf) → type_of l ≡ t → LeafStands heap at l → x ≡ short_leaf l) → x ≡ short v h.0
leaf_bytes v heap code at h t x e is = ∥∥₁_elim h.1 (Coded-set coded_text x (short v h.0)) (leaf_tree_bytes v heap code at h.0 t x e is)

-- ---- lists

pub array_bytes : (v : Version) (heap : List ℕ) (code at : ℕ) (t : Tree) → ∥ ReadsTree heap code at t ∥₁ → code ≡ 12 → (list : List ℕ) → GivesSized heap at list → (n : ℕ) → n ≡ last_byte_count list → (x : HeldElements heap list)
    → 12 ∷ (vnum n ++ short_elements v (elements x.0)) ≡ short v t
array_bytes v heap code at (array ts) h e list is n counted x =
    let same = children_are heap code at ts h e list is x in
    ∥∥₁_elim h (Coded-set coded_text (12 ∷ (vnum n ++ short_elements v (elements x.0))) (short v (array ts)))
    (λ r.
    let number : n ≡ element_count ts = counted ∙ ap last_byte_count (is r.1.list r.1.stands) ∙ elements_last heap at r.1.list ts r.1.children in
    λ i. 12 ∷ (vnum (number i) ++ short_elements v (same i)))
array_bytes v heap code at (leaf l) h e list is n counted x = absurd (∥∥₁_elim h ⊥_prop (λ r. omega (arith, r.0, leaf_type_small l)))
array_bytes v heap code at (object es) h e list is n counted x = absurd (∥∥₁_elim h ⊥_prop (λ r. omega (arith, r.0)))

pub object_bytes : (v : Version) (heap : List ℕ) (code at : ℕ) (t : Tree) → ∥ ReadsTree heap code at t ∥₁ → code ≡ 11 → (list : List ℕ) → GivesSized heap at list → (n : ℕ) → n ≡ last_byte_count list / 2 → (x : HeldEntries heap list)
    → 13 ∷ (vnum (entry_total v n) ++ short_entries v (entries x.0)) ≡ short v t
object_bytes v heap code at (object es) h e list is n counted x =
    let same = entries_are heap code at es h e list is x in
    ∥∥₁_elim h (Coded-set coded_text (13 ∷ (vnum (entry_total v n) ++ short_entries v (entries x.0))) (short v (object es)))
    (λ r.
    let all : last_byte_count list ≡ 2 * entry_count es = ap last_byte_count (is r.1.list r.1.stands) ∙ elements_last heap at r.1.list (flat es) (flat_reads heap at r.1.list es r.1.children) ∙ flat_count es in
    let number : n ≡ entry_count es = omega (arith, counted, all) in
    λ i. 13 ∷ (vnum (entry_total v (number i)) ++ short_entries v (same i)))
object_bytes v heap code at (leaf l) h e list is n counted x = absurd (∥∥₁_elim h ⊥_prop (λ r. omega (arith, r.0, leaf_type_small l)))
object_bytes v heap code at (array ts) h e list is n counted x = absurd (∥∥₁_elim h ⊥_prop (λ r. omega (arith, r.0)))

-- ---- texts with their tokens

are_tokens_prop : (c : Content) → IsProp (HoldsTokens c)
are_tokens_prop (tokens_content t ts) x y = refl
are_tokens_prop _ x y = absurd x

tokenized_prop : (t : Tree) → IsProp (IsTokenized t)
tokenized_prop (leaf l) = are_tokens_prop (content l)
tokenized_prop _ = λ x y. absurd x

leaf_tree_tokens : (heap : List ℕ) (code at : ℕ) (u : Tree) (t : LeafType) (S : Type 0) → code ≡ heap_code t → ((l : Leaf) → type_of l ≡ t → S ↔ HoldsTokens (content l)) → ReadsTree heap code at u → S ↔ IsTokenized u
leaf_tree_tokens heap code at (leaf l) t S e is r = is l (one_heap_code (type_of l) t (sym r.0 ∙ e))
leaf_tree_tokens heap code at _ t S e is r = absurd (omega (arith, r.0, e, small_heap_code t))

says_prop : (x : Encoded) → IsProp (SaysTokenized x)
says_prop (held.Tokenized content) x y = refl
says_prop _ x y = absurd x

pub leaf_tokens : (heap : List ℕ) (code at : ℕ) (h : Held heap code at) (t : LeafType) (x : Encoded) → code ≡ heap_code t → ((l : Leaf) → type_of l ≡ t → SaysTokenized x ↔ HoldsTokens (content l)) → SaysTokenized x ↔ IsTokenized h.0
leaf_tokens heap code at h t x e is = (
  λ s. ∥∥₁_elim h.1 (tokenized_prop h.0) (λ r. (leaf_tree_tokens heap code at h.0 t (SaysTokenized x) e is r).0 s),
  λ s. ∥∥₁_elim h.1 (says_prop x) (λ r. (leaf_tree_tokens heap code at h.0 t (SaysTokenized x) e is r).1 s),
)

-- lists are no texts with tokens
not_tokens : (heap : List ℕ) (code at : ℕ) (t : Tree) → 10 < code → ReadsTree heap code at t → IsTokenized t → ⊥
not_tokens heap code at (leaf l) e r is = omega (arith, r.0, e, leaf_type_small l)
not_tokens heap code at _ e r is = is

pub no_list_tokens : (heap : List ℕ) (code at : ℕ) (h : Held heap code at) → 10 < code → ⊥ ↔ IsTokenized h.0
no_list_tokens heap code at h e = (λ x. absurd x, λ t. ∥∥₁_elim h.1 ⊥_prop (λ r. not_tokens heap code at h.0 e r t))

-- ---- bytes at an address

fixed_is : {k : ℕ} {bs : List ℕ} {n : ℕ} → Fixed k bs n → bs ≡ low_bytes k n
fixed_is no_bytes = refl
fixed_is (low_byte {k = k} {b = b} {high = high} p f) =
    let low : b ≡ (b + 256 * high) % 256 = omega arith in
    let above : high ≡ (b + 256 * high) / 256 = omega arith in
    λ i. low i ∷ (fixed_is f ∙ ap (low_bytes k) above) i

prefix_is : (heap : List ℕ) (at : ℕ) (P : List ℕ → Type 0) (p : Stands heap at P) (behind prefix : List ℕ) (n : ℕ) → behind ≡ drop at heap → prefix ≡ take n behind → n ≡ length p.whole → prefix ≡ p.whole
prefix_is heap at P p behind prefix n e f l = f ∙ (λ i. take (l i) ((e ∙ stands_behind heap at P p) i)) ∙ take-append_seam p.whole p.behind

pub sixteen_is : (heap behind prefix : List ℕ) (at n : ℕ) → Stands heap at (λ w. Fixed 16 w n) → behind ≡ drop at heap → prefix ≡ take 16 behind → prefix ≡ sixteen_bytes n
unfolding sixteen_bytes
sixteen_is heap behind prefix at n p e f = prefix_is heap at _ p behind prefix 16 e f (sym (length-fixed p.stands)) ∙ fixed_is p.stands

-- the length before the bytes, and as many bytes as it says
pub encoded_is : (heap behind rest prefix : List ℕ) (at len n : ℕ) (s : List ℕ) → Stands heap at (λ w. ShortSized s w) → behind ≡ drop at heap
    → ((m : ℕ) (r : List ℕ) → m < 2 ^ 64 → behind ≡ vnum m ++ r → (len ≡ m) × (rest ≡ r)) → n ≡ length behind - length rest + len → prefix ≡ take n behind → prefix ≡ short_sized s
encoded_is heap behind rest prefix at len n s p e is count f =
    let parts : behind ≡ vnum (length s) ++ (s ++ p.behind) = e ∙ stands_behind heap at _ p ∙ ap (λ z. z ++ p.behind) p.stands.is ∙ append_assoc (vnum (length s)) s p.behind in
    let found = is (length s) (s ++ p.behind) (omega (arith, p.stands.fits)) parts in
    let whole : n ≡ length p.whole =
    omega (arith, count, found.0, ap length found.1, ap length parts, length-append (vnum (length s)) (s ++ p.behind), length-append s p.behind, ap length p.stands.is, length-append (vnum (length s)) s) in
    prefix_is heap at _ p behind prefix n e f whole ∙ p.stands.is

pub tokens_is : (heap behind prefix : List ℕ) (at n : ℕ) (t s : List ℕ) (ts ss : List Token) → Stands heap at (λ w. ShortTokenized s ss w) → behind ≡ drop at heap → Tokenized (take n behind) t ts → prefix ≡ take n behind
    → prefix ≡ short_tokenized s ss
tokens_is heap behind prefix at n t s ts ss p e found f =
    let joined : take n behind ++ drop n behind ≡ p.whole ++ p.behind = take-append-drop n behind ∙ e ∙ stands_behind heap at _ p in
    f ∙ ((agree_tokenized t s ts ss).agree (take n behind) p.whole (drop n behind) p.behind found (tokenized_stands heap at s ss p) joined).0 ∙ p.stands.is
