-- A pair that stands encoded in bytes, and is added to those of a heap.
use Rattle.std.proofs.Common.{◌≡◌, ℕ, ◌+◌, ◌≤◌, ◌<◌, List, [], ◌∷◌, ◌++◌, length, take, drop, get_or, refl, sym, ◌∙◌, ap, subst, append_assoc, length-append, arith}
use Rattle.std.proofs.lemmas.List.{append-nil, length-take-le}
use Rattle.std.proofs.lemmas.List.Sums.{sum_by_push}
use Rattle.std.proofs.Math.Seq.{take-append_seam}
use Rattle.std.specs.Int.{w32, from_le_bytes}
use Rattle.tv_base.specs.Number.{Fixed}
use Rattle.tv_base.specs.Parts.{Begins}
use Rattle.tv_base.proofs.Widths.{fixed_4}
use Rattle.tv_format.specs.Encoding.{Encodes, EncodesPair, NoLegacy}
use Rattle.tv_format.specs.Tree.{Tree, Document}
use Rattle.tv_format.specs.Version.{Version}
use Rattle.tv_format.proofs.Prefixes.{begins_nothing, begins_cut, begins_then, begins_item, small_take}
use Rattle.tv_heap.specs.Room.{room}
use Rattle.tv_builder.specs.EncodedPut.{EncodedPut}
use Rattle.tv_builder.specs.TreeBytes.{tree_heap, tree_place, document_heap, document_pairs}
use Rattle.tv_heap.specs.declared.value_type.Place.{Place}
use Rattle.tv_builder.proofs.Giving.{prefix_then}
use Rattle.tv_builder.specs.declared.heap_pairs.HeapPairs.{HeapPairs}
use Rattle.tv_builder.specs.declared.heap_pairs.HeapPair.{HeapPair}
use Rattle.tv_builder.specs.HeldPairs.{document_of, heap_of, Added, IsUnchanged}
use Rattle.tv_builder.specs.Keeping.{PairKept}
use Rattle.tv_builder.specs.EncodedPairs.{IsStart, AddsEncodedPair, AddsEncoded, StoodIn}
use Rattle.tv_builder.specs.Holds.{pair_at}
use Rattle.tv_builder.proofs.Documents.{unchanged, heap_then, restored, document_length}
use Rattle.tv_builder.proofs.Kept.{Written, Fields, same_fields, kept_added}

-- ---- one pair

-- four bytes are the field, and the value is after them
pub record FieldFound (whole prefix value : List ℕ) (field : ℕ) : Type 0 where
  pub prefix_is : prefix ≡ take 4 whole
  pub value_is : value ≡ drop 4 whole
  pub long : 4 ≤ length whole
  pub small : (i : ℕ) → get_or whole i 0 < 256
  pub number : field ≡ from_le_bytes w32 prefix

begins_pair : (v : Version) (whole prefix value rest : List ℕ) (field : ℕ) (t : Tree) → FieldFound whole prefix value field → Begins (λ b. Encodes NoLegacy v b t) value rest
    → Begins (λ b. EncodesPair NoLegacy v b (field, t)) whole rest
begins_pair v whole prefix value rest field t f s =
    let small : (i : ℕ) → get_or prefix i 0 < 256 = subst (λ bs. (i : ℕ) → get_or bs i 0 < 256) (sym f.prefix_is) (small_take 4 whole f.small) in
    let four = fixed_4 prefix (ap length f.prefix_is ∙ length-take-le 4 whole f.long) small in
    let number : Begins (λ b. Fixed 4 b field) whole value = begins_cut (λ b. Fixed 4 b field) 4 whole prefix value f.prefix_is f.value_is (subst (Fixed 4 prefix) (sym f.number) four) in
    begins_then whole value rest number s

pub pair_added : (v : Version) (old new : HeapPairs) (whole prefix value rest mid : List ℕ) (len small : ℕ) (at : Place) (s : EncodedPut v value rest (heap_of old) mid at)
    → FieldFound whole prefix value small → Written old mid len small s.tree at → PairKept mid (heap_of new) old.pairs.items new.pairs.items small at → AddsEncodedPair v old new whole rest
pair_added v old new whole prefix value rest mid len small at s f w k =
    let more = kept_added old new mid len small s.tree at w k in
    record {
      pair = (small, s.tree);
      encoded = begins_pair v whole prefix value rest small s.tree f s.encoded;
      added = more;
      start = record { heap = (more.added, more.heap); later = pair_at small at ∷ []; pairs = k.pairs };
    }

-- ---- as many as there are

pub start_here : (d : HeapPairs) → IsStart d d
start_here d = record { heap = ([], sym (append-nil (heap_of d))); later = []; pairs = sym (append-nil d.pairs.items) }

pub start_then : (old mid new : HeapPairs) → IsStart old mid → IsStart mid new → IsStart old new
start_then old mid new a b = record {
  heap = prefix_then (heap_of old) (heap_of mid) (heap_of new) a.heap b.heap;
  later = a.later ++ b.later;
  pairs = b.pairs ∙ ap (λ z. z ++ b.later) a.pairs ∙ append_assoc old.pairs.items a.later b.later;
}

-- nothing more was added
pub start_same : (old mid new : HeapPairs) → IsStart old mid → heap_of new ≡ heap_of mid → new.pairs.items ≡ mid.pairs.items → IsStart old new
start_same old mid new a heap pairs = record { heap = (a.heap.0, heap ∙ a.heap.1); later = a.later; pairs = pairs ∙ a.pairs }

pub none_encoded : (v : Version) (d : HeapPairs) (whole : List ℕ) → AddsEncoded v d d whole whole 0
none_encoded v d whole = record {
  pairs = [];
  counted = refl;
  encoded = begins_nothing whole refl;
  document = sym (append-nil (document_of d));
  bytes = refl;
  places = sym (append-nil d.pairs.items);
  start = start_here d;
  within = omega arith;
  none = λ e. unchanged d d refl refl;
}

pairs_then : (heap : List ℕ) (d : Document) (pair : ℕ × Tree) → document_pairs heap (d ++ pair ∷ []) ≡ document_pairs heap d ++ pair_at pair.0 (tree_place (document_heap heap d) pair.1) ∷ []
pairs_then heap [] pair = refl
pairs_then heap (x ∷ d) pair = ap (λ ps. pair_at x.0 (tree_place heap x.1) ∷ ps) (pairs_then (tree_heap heap x.1) d pair)

pub one_more : (v : Version) (old mid new : HeapPairs) (whole rest after : List ℕ) (n : ℕ) → AddsEncoded v old mid whole rest n → AddsEncodedPair v mid new rest after → AddsEncoded v old new whole after (n + 1)
one_more v old mid new whole rest after n a p = record {
  pairs = a.pairs ++ p.pair ∷ [];
  counted = omega (arith, a.counted, length-append a.pairs (p.pair ∷ []));
  encoded = begins_item (EncodesPair NoLegacy v) a.pairs p.pair whole rest after a.encoded p.encoded;
  document = more.document ∙ ap (λ z. z ++ p.pair ∷ []) a.document ∙ append_assoc (document_of old) a.pairs (p.pair ∷ []);
  bytes = more.bytes ∙ ap (λ h. tree_heap h p.pair.1) a.bytes ∙ sym (heap_then (heap_of old) a.pairs p.pair);
  places =
      more.pair ∙ (λ i. a.places i ++ pair_at p.pair.0 (tree_place (a.bytes i) p.pair.1) ∷ [])
      ∙ append_assoc old.pairs.items (document_pairs (heap_of old) a.pairs) (pair_at p.pair.0 (tree_place (document_heap (heap_of old) a.pairs) p.pair.1) ∷ [])
      ∙ ap (λ ps. old.pairs.items ++ ps) (sym (pairs_then (heap_of old) a.pairs p.pair));
  start = start_then old mid new a.start p.start;
  within = omega (arith, a.within, more.within, ap length more.heap, length-append (heap_of mid) more.added, sum_by_push (λ (x : ℕ × Tree). room x.1) a.pairs p.pair);
  none = λ e. absurd (let f : n + 1 ≡ 0 = e in omega (arith, f));
}
  where
    more : Added mid new p.pair.0 p.pair.1
    more = p.added

-- and then none
pub no_more : (v : Version) (old mid new : HeapPairs) (whole rest : List ℕ) (n : ℕ) → AddsEncoded v old mid whole rest n → IsUnchanged mid new → AddsEncoded v old new whole rest n
no_more v old mid new whole rest n a u = record {
  pairs = a.pairs;
  counted = a.counted;
  encoded = a.encoded;
  document = u.document ∙ a.document;
  bytes = u.heap ∙ a.bytes;
  places = u.pairs ∙ a.places;
  start = start_same old mid new a.start u.heap u.pairs;
  within = omega (arith, a.within, ap length u.heap);
  none = λ e. let v = a.none e in record { document = u.document ∙ v.document; heap = u.heap ∙ v.heap; pairs = u.pairs ∙ v.pairs; places = u.places ∙ v.places };
}

-- ---- what was added is taken back

-- the heap and the pairs are cut
pub cut_back : (old now : HeapPairs) (pairs heap : ℕ) → StoodIn old now pairs heap → (take heap (heap_of now) ≡ heap_of old) × (take pairs now.pairs.items ≡ old.pairs.items)
cut_back old now pairs heap s =
    let counted : pairs ≡ length old.pairs.items = omega (arith, s.counted, document_length old) in (
      restored (heap_of old) (heap_of now) heap s.start.heap (sym s.heap_length),
      (λ i. take (counted i) (s.start.pairs i)) ∙ take-append_seam old.pairs.items s.start.later,
    )

pub back_fields : (old now : HeapPairs) (pairs heap : ℕ) (bytes : List ℕ) (ps : List HeapPair) → StoodIn old now pairs heap → bytes ≡ take heap (heap_of now) → ps ≡ take pairs now.pairs.items → Fields bytes ps
back_fields old now pairs heap bytes ps s e f = same_fields old bytes ps (e ∙ (cut_back old now pairs heap s).0) (f ∙ (cut_back old now pairs heap s).1)

pub back_unchanged : (old now new : HeapPairs) (pairs heap : ℕ) → StoodIn old now pairs heap → heap_of new ≡ take heap (heap_of now) → new.pairs.items ≡ take pairs now.pairs.items → IsUnchanged old new
back_unchanged old now new pairs heap s e f = unchanged old new (e ∙ (cut_back old now pairs heap s).0) (f ∙ (cut_back old now pairs heap s).1)
