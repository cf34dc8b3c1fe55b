-- What an addition does to the document that a heap and its pairs hold.
use Rattle.std.proofs.Common.{true, ◌≡◌, ◌≢◌, ℕ, suc, zero, ◌+◌, ◌^◌, ◌<◌, ◌≤◌, List, [], ◌∷◌, ◌++◌, length, map, take, slice_get, get_or, ltb, true, Some, None, refl, sym, ◌∙◌, ap, subst, arith}
use Rattle.std.proofs.lemmas.Bool.{ltb-true}
use Rattle.std.proofs.lemmas.Option.{slice_get-get_or}
use Rattle.std.proofs.lemmas.List.{length-append, map-append}
use Rattle.std.proofs.Math.Logic.{∥∥₁_elim, ∥∥₁_map}
use Rattle.std.proofs.Math.Seq.{take-append_seam}
use Rattle.std.proofs.Math.Nat.{ℕ_set}
use base.Stored.{Coded-set}
use Rattle.tv_format.specs.Tree.{Leaf, null, boolean, Tree, leaf, array, object, Document}
use Rattle.tv_format.specs.TreeCode.{coded_document}
use Rattle.tv_builder.specs.declared.heap_pairs.HeapPairs.{HeapPairs}
use Rattle.tv_builder.specs.declared.heap_pairs.HeapPair.{HeapPair}
use Rattle.tv_builder.specs.HeldPairs.{heap_of, document_of, IsUnchanged, Added, ReadsAt}
use Rattle.tv_builder.specs.Holds.{pair_at, ReadsPair, ReadsPairs, Holds, one_document}
use Rattle.tv_heap.specs.Room.{room, document_room}
use Rattle.tv_heap.specs.Weight.{document_weight}
use Rattle.tv_heap.specs.TypeCode.{type_code}
use Rattle.tv_base.specs.Sink.{IsPrefix}
use Rattle.tv_heap.specs.Reads.{ReadsTree}
use Rattle.tv_heap.specs.declared.value_type.Place.{Place}
use Rattle.tv_heap.proofs.Grown.{grown}
use Rattle.tv_builder.specs.TreeBytes.{leaf_place, tree_heap, tree_place, elements_heap, entries_heap, document_heap}
use Rattle.tv_builder.specs.Whole.{Put}
use Rattle.tv_builder.proofs.Giving.{prefix_length}
use Rattle.tv_builder.proofs.Putting.{elements_prefix, entries_prefix, put_grows}
use Rattle.tv_builder.proofs.Within.{document_within, tree_within_room, weight_room}

-- one heap and one list of pairs hold one document
pub same_document : (h k : List ℕ) (ps qs : List HeapPair) (x : Holds h ps) (y : Holds k qs) → h ≡ k → ps ≡ qs → x.0 ≡ y.0
same_document h k ps qs x y e f =
    ∥∥₁_elim x.1 (Coded-set coded_document x.0 y.0)
    (λ p. ∥∥₁_elim y.1 (Coded-set coded_document x.0 y.0) (λ q. one_document k qs x.0 y.0 (subst (λ z. ReadsPairs z qs x.0) e (subst (λ z. ReadsPairs h z x.0) f p)) q))

abbrev place_seen : HeapPair → ℕ × ℕ
place_seen p = (type_code p.place.value_type, p.place.address)

pub unchanged : (old new : HeapPairs) → heap_of new ≡ heap_of old → new.pairs.items ≡ old.pairs.items → IsUnchanged old new
unchanged old new e f = record {
  document = same_document (heap_of new) (heap_of old) new.pairs.items old.pairs.items new.document old.document e f;
  heap = e;
  pairs = f;
  places = ap (λ ps. map place_seen ps) f;
}

pair_grown : (old new more : List ℕ) (p : HeapPair) (x : ℕ × Tree) → new ≡ old ++ more → ReadsPair old p x → ReadsPair new p x
pair_grown old new more p x e r = record { field = r.field; fits = r.fits; reads = grown old new more (type_code p.place.value_type) p.place.address x.1 e r.reads }

pub pairs_grown : (old new more : List ℕ) (ps : List HeapPair) (d : Document) → new ≡ old ++ more → ReadsPairs old ps d → ReadsPairs new ps d
pairs_grown old new more [] [] e r = tt
pairs_grown old new more (p ∷ ps) (x ∷ d) e r = (pair_grown old new more p x e r.0, pairs_grown old new more ps d e r.1)
pairs_grown old new more [] (x ∷ d) e r = absurd r
pairs_grown old new more (p ∷ ps) [] e r = absurd r

pub pairs_push : (heap : List ℕ) (ps : List HeapPair) (d : Document) (p : HeapPair) (x : ℕ × Tree) → ReadsPairs heap ps d → ReadsPair heap p x → ReadsPairs heap (ps ++ p ∷ []) (d ++ x ∷ [])
pairs_push heap [] [] p x r t = (t, tt)
pairs_push heap (q ∷ ps) (y ∷ d) p x r t = (r.0, pairs_push heap ps d p x r.1 t)
pairs_push heap [] (y ∷ d) p x r t = absurd r
pairs_push heap (q ∷ ps) [] p x r t = absurd r

-- ---- a whole value stands after the old heap

leaf_behind : (len : ℕ) (l : Leaf) → type_code (leaf_place len l).value_type ≢ 0 → type_code (leaf_place len l).value_type ≢ 9 → len ≤ (leaf_place len l).address
leaf_behind len null some other = absurd (some refl)
leaf_behind len (boolean b) some other = absurd (other refl)
leaf_behind len _ some other = omega arith

tree_behind : (heap : List ℕ) (t : Tree) → type_code (tree_place heap t).value_type ≢ 0 → type_code (tree_place heap t).value_type ≢ 9 → length heap ≤ (tree_place heap t).address
tree_behind heap (leaf l) some other = leaf_behind (length heap) l some other
tree_behind heap (array ts) some other = prefix_length heap (elements_heap heap ts) (elements_prefix heap ts)
tree_behind heap (object es) some other = prefix_length heap (entries_heap heap es) (entries_prefix heap es)

placed_reads : (old new : List ℕ) (at : Place) (t : Tree) → Put 4294967295 old t new at → ReadsTree new (type_code at.value_type) at.address t
placed_reads old new at t w = let placed = w.placed in placed.reads

-- it grew by the tree's room at most
put_within_room : (old new : List ℕ) (at : Place) (t : Tree) → Put 4294967295 old t new at → length new ≤ length old + room t
put_within_room old new at t w = omega (arith, ap length w.heap, tree_within_room old t (omega (arith, w.fits, ap length w.heap)))

put_behind : (old new : List ℕ) (at : Place) (t : Tree) → Put 4294967295 old t new at → type_code at.value_type ≢ 0 → type_code at.value_type ≢ 9 → length old ≤ at.address
put_behind old new at t w = subst (λ (q : Place). type_code q.value_type ≢ 0 → type_code q.value_type ≢ 9 → length old ≤ q.address) (sym w.place) (tree_behind old t)

-- the document without pairs
unfoldable pub empty : (heap : List ℕ) (ps : List HeapPair) → ps ≡ [] → Holds heap ps
empty heap ps e = ([], ∣ subst (λ z. ReadsPairs heap z []) (sym e) tt ∣₁)

-- the document with one pair more
pub pushed : (old : HeapPairs) (heap : List ℕ) (ps : List HeapPair) (at : Place) (field : ℕ) (t : Tree) → field < 2 ^ 32 → Put 4294967295 (heap_of old) t heap at → ps ≡ old.pairs.items ++ pair_at field at ∷ [] → Holds heap ps
pushed old heap ps at field t fits w e =
    let prefix = put_grows (heap_of old) t heap at w in (
      document_of old ++ (field, t) ∷ [],
      ∥∥₁_map old.document.1 (λ r.
          subst (λ z. ReadsPairs heap z (document_of old ++ (field, t) ∷ [])) (sym e)
          (pairs_push heap old.pairs.items (document_of old) (pair_at field at) (field, t) (pairs_grown (heap_of old) heap prefix.0 old.pairs.items (document_of old) prefix.1 r)
          (record { field = refl; fits = fits; reads = placed_reads (heap_of old) heap at t w }))),
    )

-- the heap after one pair more
pub heap_then : (heap : List ℕ) (d : Document) (pair : ℕ × Tree) → document_heap heap (d ++ pair ∷ []) ≡ tree_heap (document_heap heap d) pair.1
heap_then heap [] pair = refl
heap_then heap (x ∷ d) pair = heap_then (tree_heap heap x.1) d pair

pub pushed_bytes : (old : HeapPairs) (heap : List ℕ) (ps : List HeapPair) (at : Place) (field : ℕ) (t : Tree) (fits : field < 2 ^ 32) (w : Put 4294967295 (heap_of old) t heap at) (e : ps ≡ old.pairs.items ++ pair_at field at ∷ [])
    → heap ≡ document_heap [] ((pushed old heap ps at field t fits w e).0)
unfolding pushed
pushed_bytes old heap ps at field t fits w e = w.heap ∙ ap (λ h. tree_heap h t) old.bytes ∙ sym (heap_then [] (document_of old) (field, t))

pub added : (old new : HeapPairs) (at : Place) (field : ℕ) (t : Tree) → field < 2 ^ 32 → Put 4294967295 (heap_of old) t (heap_of new) at → new.pairs.items ≡ old.pairs.items ++ pair_at field at ∷ [] → Added old new field t
unfolding pushed
added old new at field t fits w e =
    let prefix = put_grows (heap_of old) t (heap_of new) at w in
    record {
      document = same_document (heap_of new) (heap_of new) new.pairs.items new.pairs.items new.document (pushed old (heap_of new) new.pairs.items at field t fits w e) refl refl;
      bytes = w.heap;
      pair = e ∙ ap (λ p. old.pairs.items ++ pair_at field p ∷ []) w.place;
      added = prefix.0;
      heap = prefix.1;
      within = omega (arith, put_within_room (heap_of old) (heap_of new) at t w, ap length prefix.1, length-append (heap_of old) prefix.0);
      code = type_code at.value_type;
      at = at.address;
      places = ap (λ ps. map place_seen ps) e ∙ map-append place_seen old.pairs.items (pair_at field at ∷ []);
      behind = put_behind (heap_of old) (heap_of new) at t w;
    }

-- the same document, where the heap and the pairs are the same
pub kept : (old : HeapPairs) (heap : List ℕ) (ps : List HeapPair) → heap ≡ heap_of old → ps ≡ old.pairs.items → Holds heap ps
kept old heap ps e f = subst (λ z. Holds z ps) (sym e) (subst (λ z. Holds (heap_of old) z) (sym f) old.document)

pub kept_bytes : (old : HeapPairs) (heap : List ℕ) (ps : List HeapPair) (e : heap ≡ heap_of old) (f : ps ≡ old.pairs.items) → heap ≡ document_heap [] ((kept old heap ps e f).0)
kept_bytes old heap ps e f = e ∙ old.bytes ∙ ap (document_heap []) (sym (same_document heap (heap_of old) ps old.pairs.items (kept old heap ps e f) old.document e f))

-- what was written is cut off again
pub restored : (old mid : List ℕ) (n : ℕ) → IsPrefix old mid → n ≡ length old → take n mid ≡ old
restored old mid n f e = (λ i. take (e i) (f.1 i)) ∙ take-append_seam old f.0

pairs_length : (heap : List ℕ) (ps : List HeapPair) (d : Document) → ReadsPairs heap ps d → length ps ≡ length d
pairs_length heap [] [] r = refl
pairs_length heap (p ∷ ps) (x ∷ d) r = ap suc (pairs_length heap ps d r.1)
pairs_length heap [] (x ∷ d) r = absurd r
pairs_length heap (p ∷ ps) [] r = absurd r

pub document_length : (d : HeapPairs) → length d.pairs.items ≡ length (document_of d)
document_length d = ∥∥₁_elim d.document.1 (ℕ_set _ _) (λ r. pairs_length d.heap.items d.pairs.items d.document.0 r)

pair_reads : (heap : List ℕ) (ps : List HeapPair) (d : Document) → ReadsPairs heap ps d → (i : ℕ) (p : HeapPair) (e : ℕ × Tree) → slice_get ps i ≡ Some p → slice_get d i ≡ Some e
    → ReadsPair heap p e
pair_reads heap (q ∷ ps) (x ∷ d) r zero p e f g =
    let a : q ≡ p = cc in
    let b : x ≡ e = cc in
    subst (λ z. ReadsPair heap p z) b (subst (λ z. ReadsPair heap z x) a r.0)
pair_reads heap (q ∷ ps) (x ∷ d) r (suc i) p e f g = pair_reads heap ps d r.1 i p e f g
pair_reads heap [] [] r i p e f g = absurd (cc)
pair_reads heap [] (x ∷ d) r i p e f g = absurd r
pair_reads heap (q ∷ ps) [] r i p e f g = absurd r

some_or_none : (d : Document) (i : ℕ) → i < length d → (e : ℕ × Tree) × (slice_get d i ≡ Some e)
some_or_none [] i l = absurd (omega arith)
some_or_none (x ∷ d) zero l = (x, refl)
some_or_none (x ∷ d) (suc i) l = some_or_none d i (omega arith)

none_past : {A : Type 0} (xs : List A) (i : ℕ) → length xs ≤ i → slice_get xs i ≡ None
none_past [] i l = refl
none_past (x ∷ xs) zero l = absurd (omega arith)
none_past (x ∷ xs) (suc i) l = none_past xs i (omega arith)

within_at : (ps : List HeapPair) (i : ℕ) (p : HeapPair) → slice_get ps i ≡ Some p → i < length ps
within_at [] i p e = absurd (cc)
within_at (q ∷ ps) zero p e = omega arith
within_at (q ∷ ps) (suc i) p e = omega (arith, within_at ps i p e)

pub read_at : (d : HeapPairs) (i : ℕ) (p : HeapPair) → slice_get d.pairs.items i ≡ Some p → ReadsAt d i (Some (type_code p.place.value_type, p.place.address))
read_at d i p is =
    let here = some_or_none (document_of d) i (omega (arith, document_length d, within_at d.pairs.items i p is)) in
    (here.0, (here.1, ∥∥₁_map d.document.1 (λ r. (pair_reads d.heap.items d.pairs.items d.document.0 r i p here.0 is here.1).reads)))

pub none_at : (d : HeapPairs) (i : ℕ) → length d.pairs.items ≤ i → ReadsAt d i None
none_at d i l = none_past (document_of d) i (omega (arith, document_length d))

pub place_at : (ps : List HeapPair) (i : ℕ) (p : HeapPair) → slice_get ps i ≡ Some p → slice_get (map place_seen ps) i ≡ Some (type_code p.place.value_type, p.place.address)
place_at [] i p e = absurd (cc)
place_at (q ∷ ps) zero p e = let a : q ≡ p = cc in ap (λ z. Some (place_seen z)) a
place_at (q ∷ ps) (suc i) p e = place_at ps i p e

pub no_place : (ps : List HeapPair) (i : ℕ) → length ps ≤ i → slice_get (map place_seen ps) i ≡ None
no_place [] i l = refl
no_place (q ∷ ps) zero l = absurd (omega arith)
no_place (q ∷ ps) (suc i) l = no_place ps i (omega arith)

-- what the look-up in the pairs gives
pub found : (d : HeapPairs) (i : ℕ) (pair : HeapPair) (xs : List HeapPair) → xs ≡ d.pairs.items → ltb i (length xs) ≡ true → pair ≡ get_or xs i pair → slice_get d.pairs.items i ≡ Some pair
found d i pair xs same test is =
    let within : i < length d.pairs.items = omega (arith, ltb-true i (length xs) test, ap length same) in
    slice_get-get_or d.pairs.items i pair within ∙ ap (λ x. Some x) (sym (is ∙ ap (λ z. get_or z i pair) same))

pub no_pairs : (d : HeapPairs) → length d.pairs.items ≡ 0 → document_of d ≡ []
no_pairs d e = none (document_of d) (omega (arith, document_length d))
  where
    none : (xs : Document) → length xs ≡ 0 → xs ≡ []
    none [] e = refl
    none (x ∷ xs) e = absurd (omega arith)

-- the heap is within the weight of what it holds, and within its room
pub weighs : (d : HeapPairs) → length (heap_of d) ≤ document_weight (document_of d)
weighs d = document_within (heap_of d) (document_of d) d.bytes (omega (arith, d.fits))

pub within_room : (d : HeapPairs) → length (heap_of d) ≤ document_room (document_of d)
within_room d = weight_room (length (heap_of d)) (document_of d) (weighs d) (omega (arith, d.fits))

-- a document without places has no pairs
pub empty_document : (d : HeapPairs) → d.pairs.items ≡ [] → document_of d ≡ []
empty_document d e = no_pairs d (ap length e)
