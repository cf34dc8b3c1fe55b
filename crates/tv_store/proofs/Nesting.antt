-- A value's children nest as deep as its tree does, since its encoding tells them.
use Rattle.std.proofs.Common.{◌≡◌, ℕ, zero, suc, ◌*◌, ◌/◌, ◌<◌, List, [], ◌∷◌, ◌++◌, length, refl, sym, ap, subst, ◌∙◌, inl, inr, arith}
use Rattle.std.proofs.lemmas.Bool.{cases_lt}
use Rattle.std.proofs.lemmas.List.{append_cancel_left, length-append}
use Rattle.std.proofs.Math.Logic.{∥∥₁_elim}
use base.Stored.{Coded-set}
use Rattle.tv_base.specs.Number.{groups_of, vnum}
use Rattle.tv_base.proofs.Numbers.{groups_small, groups_large}
use Rattle.tv_doc.proofs.Valid.{reads_valid}
use Rattle.tv_format.proofs.ShortEncodings.{short_encodes}
use Rattle.tv_format.proofs.Trees.{one_tree, no_legacy_reads}
use Rattle.tv_format.specs.Encoding.{NoLegacy}
use Rattle.tv_format.specs.Leaves.{type_of}
use Rattle.tv_format.specs.LeavesLaws.{leaf_coded}
use Rattle.tv_format.specs.Short.{short, short_elements, short_entries, IsText, IsValue, AreElements, AreEntries}
use Rattle.tv_format.specs.Tree.{Tree, leaf, array, object, text, Elements, no_elements, element, elements, element_count, Entries, no_entries, entry, entries, entry_count}
use Rattle.tv_format.specs.TreeCode.{coded_tree}
use Rattle.tv_format.specs.Version.{Version, V2}
use Rattle.tv_heap.specs.declared.value.Encoded.{Encoded}
use Rattle.tv_heap.specs.declared.value.Encoded.TheVariants as held
use Rattle.tv_heap.specs.declared.value.CompactDocValue.{CompactDocValue}
use Rattle.tv_heap.specs.Encoded.{encoded_bytes}
use Rattle.tv_heap.specs.Reads.{ReadsTree, ReadsElements, ReadsEntries}
use Rattle.tv_heap.specs.Value.{tree_of}
use Rattle.tv_store.specs.Nested.{HeldNestsWithin}
use Rattle.tv_value.specs.Nesting.{NestsWithin}

-- ---- bytes that encode children encode no others

some_bytes : (t : Tree) → 0 < length (short V2 t)
some_bytes (leaf l) = omega arith
some_bytes (array ts) = omega arith
some_bytes (object es) = omega arith

none_before : (t : Tree) (rest : List ℕ) → [] ≡ short V2 t ++ rest → ⊥
none_before t rest e = omega (arith, some_bytes t, length-append (short V2 t) rest, ap length e)

one_value : (t u : Tree) (x y : List ℕ) → IsValue t → IsValue u → short V2 t ++ x ≡ short V2 u ++ y → (short V2 t ≡ short V2 u) × (t ≡ u)
one_value t u x y p q e = one_tree NoLegacy V2 no_legacy_reads (short V2 t) (short V2 u) x y t u (short_encodes NoLegacy V2 tt t p) (short_encodes NoLegacy V2 tt u q) e

same_elements : (ts us : Elements) → AreElements ts → AreElements us → short_elements V2 ts ≡ short_elements V2 us → ts ≡ us
same_elements no_elements no_elements p q e = refl
same_elements no_elements (element u us) p q e = absurd (none_before u (short_elements V2 us) e)
same_elements (element t ts) no_elements p q e = absurd (none_before t (short_elements V2 ts) (sym e))
same_elements (element t ts) (element u us) p q e =
    let first = one_value t u (short_elements V2 ts) (short_elements V2 us) p.0 q.0 e in
    let others : short_elements V2 ts ≡ short_elements V2 us =
    append_cancel_left (short V2 u) _ _ (ap (λ (l : List ℕ). l ++ short_elements V2 ts) (sym first.0) ∙ e) in
    let rest = same_elements ts us p.1 q.1 others in
    λ i. element (first.1 i) (rest i)

-- keys are encoded as texts are
abbrev flat : Entries → Elements
flat no_entries = no_elements
flat (entry k t es) = element (leaf (text k)) (element t (flat es))

flat_bytes : (es : Entries) → short_entries V2 es ≡ short_elements V2 (flat es)
flat_bytes no_entries = refl
flat_bytes (entry k t es) = ap (λ (l : List ℕ). short V2 (leaf (text k)) ++ (short V2 t ++ l)) (flat_bytes es)

flat_valid : (es : Entries) → AreEntries es → AreElements (flat es)
flat_valid no_entries h = tt
flat_valid (entry k t es) h = (h.0, (h.1, flat_valid es h.2))

flat_one : (es fs : Entries) → flat es ≡ flat fs → es ≡ fs
flat_one no_entries no_entries e = refl
flat_one no_entries (entry l u fs) e = absurd (omega (arith, ap element_count e))
flat_one (entry k t es) no_entries e = absurd (omega (arith, ap element_count e))
flat_one (entry k t es) (entry l u fs) e =
    let key : k ≡ l = cc in
    let value : t ≡ u = cc in
    let left : flat es ≡ flat fs = cc in
    let rest = flat_one es fs left in
    λ i. entry (key i) (value i) (rest i)

-- ---- what is left of a list is valid

elements_valid : (heap : List ℕ) (parent : ℕ) (whole : List ℕ) (ts : Elements) → ReadsElements heap parent whole ts → AreElements ts
elements_valid heap parent whole no_elements p = tt
elements_valid heap parent whole (element t ts) p = (reads_valid heap p.code p.at t p.reads, elements_valid heap parent p.rest ts p.others)

text_valid : (heap : List ℕ) (at : ℕ) (k : List ℕ) → ReadsTree heap 1 at (leaf (text k)) → IsText k
text_valid heap at k r = reads_valid heap 1 at (leaf (text k)) r

entries_valid : (heap : List ℕ) (parent : ℕ) (whole : List ℕ) (es : Entries) → ReadsEntries heap parent whole es → AreEntries es
entries_valid heap parent whole no_entries p = tt
entries_valid heap parent whole (entry k t es) p =
    let q = p.others in
    (text_valid heap p.at k (refl, p.reads.1), reads_valid heap q.code q.at t q.reads, entries_valid heap parent q.rest es q.others)

-- ---- from the tree to the children

head_is : {c d : ℕ} {a b : List ℕ} → c ∷ a ≡ d ∷ b → c ≡ d
head_is e = cc

body_is : {c d : ℕ} {a b : List ℕ} → c ∷ a ≡ d ∷ b → a ≡ b
body_is e = cc

-- this many groups at most are reported from what follows them
same_groups : (k m n : ℕ) (x y : List ℕ) → groups_of k m ++ x ≡ groups_of k n ++ y → groups_of k m ≡ groups_of k n
same_groups zero m n x y e = refl
same_groups (suc k) m n x y e =
    elim (cases_lt m 128) [
      | inl p ↦
          elim (cases_lt n 128) [
            | inl q ↦
                let a = groups_small k m p in
                let b = groups_small k n q in
                let whole = ap (λ (l : List ℕ). l ++ x) (sym a) ∙ e ∙ ap (λ (l : List ℕ). l ++ y) b in
                a ∙ ap (λ z. z ∷ []) (head_is whole) ∙ sym b
            | inr q ↦
                let whole = ap (λ (l : List ℕ). l ++ x) (sym (groups_small k m p)) ∙ e ∙ ap (λ (l : List ℕ). l ++ y) (groups_large k n q) in
                absurd (omega (arith, head_is whole))
          ]
      | inr p ↦
          elim (cases_lt n 128) [
            | inl q ↦
                let whole = ap (λ (l : List ℕ). l ++ x) (sym (groups_large k m p)) ∙ e ∙ ap (λ (l : List ℕ). l ++ y) (groups_small k n q) in
                absurd (omega (arith, head_is whole))
            | inr q ↦
                let a = groups_large k m p in
                let b = groups_large k n q in
                let whole = ap (λ (l : List ℕ). l ++ x) (sym a) ∙ e ∙ ap (λ (l : List ℕ). l ++ y) b in
                let first = head_is whole in
                let others = same_groups k (m / 128) (n / 128) x y (body_is whole) in
                a ∙ (λ i. first i ∷ others i) ∙ sym b
          ]
    ]

-- the children after a count
behind_count : (m n : ℕ) (x y : List ℕ) → vnum m ++ x ≡ vnum n ++ y → x ≡ y
unfolding vnum
behind_count m n x y e = append_cancel_left (groups_of 10 n) x y (ap (λ (l : List ℕ). l ++ x) (sym (same_groups 10 m n x y e)) ∙ e)

array_is : (count : ℕ) (us : Elements) (t : Tree) → AreElements us → IsValue t → 12 ∷ (vnum count ++ short_elements V2 us) ≡ short V2 t → t ≡ array us
array_is count us (leaf l) valid whole e = absurd ((leaf_coded (type_of l)).no_array (sym (head_is e)))
array_is count us (object es) valid whole e = absurd (omega (arith, head_is e))
array_is count us (array ts) valid whole e =
    let rest = behind_count count (element_count ts) _ _ (body_is e) in
    ap array (same_elements ts us whole.1 valid (sym rest))

object_is : (count : ℕ) (fs : Entries) (t : Tree) → AreEntries fs → IsValue t → 13 ∷ (vnum (2 * count) ++ short_entries V2 fs) ≡ short V2 t → t ≡ object fs
object_is count fs (leaf l) valid whole e = absurd ((leaf_coded (type_of l)).no_object (sym (head_is e)))
object_is count fs (array ts) valid whole e = absurd (omega (arith, head_is e))
object_is count fs (object es) valid whole e =
    let rest = behind_count (2 * count) (2 * entry_count es) _ _ (body_is e) in
    ap object (flat_one es fs (same_elements (flat es) (flat fs) (flat_valid es whole.1) (flat_valid fs valid) (sym (flat_bytes es) ∙ sym rest ∙ flat_bytes fs)))

-- where the tree nests within a number, so do the children that its encoding has
pub held_within : (n : ℕ) (value : CompactDocValue) (e : Encoded) → ((v : Version) → encoded_bytes v e ≡ short v (tree_of value)) → NestsWithin n (tree_of value) → HeldNestsWithin n e
held_within n value (held.Array count items) is h =
    let t = tree_of value in
    let us = elements items.held.0 in
    let same : t ≡ array us =
    ∥∥₁_elim value.held.1 (Coded-set coded_tree t (array us))
    (λ r. ∥∥₁_elim items.held.1 (Coded-set coded_tree t (array us))
    (λ s. array_is count us t (elements_valid _ s.0 _ us s.1) (reads_valid _ _ _ t r) (is V2))) in
    subst (NestsWithin n) same h
held_within n value (held.Object count members) is h =
    let t = tree_of value in
    let fs = entries members.held.0 in
    let same : t ≡ object fs =
    ∥∥₁_elim value.held.1 (Coded-set coded_tree t (object fs))
    (λ r. ∥∥₁_elim members.held.1 (Coded-set coded_tree t (object fs))
    (λ s. object_is count fs t (entries_valid _ s.0 _ fs s.1) (reads_valid _ _ _ t r) (is V2))) in
    subst (NestsWithin n) same h
held_within n value _ is h = tt
