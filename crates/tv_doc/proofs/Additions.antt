-- What a list of additions leaves.
use Rattle.std.proofs.Common.{◌≡◌, ℕ, List, [], ◌∷◌, ◌++◌, length, Result, Ok, Err, refl, sym, subst, ◌∙◌, ap, append_assoc, append-nil, arith}
use Rattle.tv_builder.specs.Holds.{pair_at}
use Rattle.tv_builder.specs.TreeBytes.{tree_heap, tree_place}
use Rattle.tv_format.specs.Tree.{Tree, Document}
use Rattle.tv_builder.specs.declared.errors.AddError.{AddError}
use Rattle.tv_doc.specs.declared.document.CompactDoc.{CompactDoc}
use Rattle.tv_doc.specs.Additions.{Addition, pair_of, accepted_pairs, Runs, Keeps, Accepts, AddsEach, IsEmpty, IsMade}
use Rattle.tv_doc.specs.Document.{document_of, heap_of, places_of, Adds, IsUnchanged, IsWithinRoom}
use Rattle.tv_builder.proofs.Documents.{within_room as pairs_within_room}

-- the heap is within the room of the values
pub within_room : (d : CompactDoc) → IsWithinRoom d
within_room d = pairs_within_room d.values

unchanged_keeps : (old new : CompactDoc) → IsUnchanged old new → Keeps [] old new
unchanged_keeps old new same = record {
  document = same.document ∙ sym (append-nil (document_of old));
  heap = ([], same.heap ∙ sym (append-nil (heap_of old)));
  added_places = [];
  places = same.places ∙ sym (append-nil (places_of old));
}

one_keeps : (field : ℕ) (t : Tree) (old new : CompactDoc) (answer : Result (Unit {0}) AddError) → Adds old new field t answer → Keeps (pair_of answer field t) old new
one_keeps field t old new (Ok x) adds =
    let added = adds.1 in
    record { document = added.document; heap = (added.added, added.heap); added_places = (added.code, added.at) ∷ []; places = added.places }
one_keeps field t old new (Err e) adds = unchanged_keeps old new adds.1

prefix_of_prefix : {X : Type 0} (a b c x y : List X) → b ≡ a ++ x → c ≡ b ++ y → c ≡ a ++ (x ++ y)
prefix_of_prefix a b c x y p q = q ∙ ap (λ z. z ++ y) p ∙ append_assoc a x y

pub runs_keep : (additions : List Addition) (old new : CompactDoc) → Runs additions old new → Keeps (accepted_pairs additions) old new
runs_keep [] old new same = unchanged_keeps old new same
runs_keep (a ∷ rest) old new run =
    let one = one_keeps a.field a.tree old run.0 a.answer run.1 in
    let others = runs_keep rest run.0 new run.2 in
    record {
      document = prefix_of_prefix (document_of old) (document_of run.0) (document_of new) (pair_of a.answer a.field a.tree) (accepted_pairs rest) one.document others.document;
      heap = (one.heap.0 ++ others.heap.0, prefix_of_prefix (heap_of old) (heap_of run.0) (heap_of new) one.heap.0 others.heap.0 one.heap.1 others.heap.1);
      added_places = one.added_places ++ others.added_places;
      places = prefix_of_prefix (places_of old) (places_of run.0) (places_of new) one.added_places others.added_places one.places others.places;
    }

-- ---- pairs that are all accepted

pub unchanged_same : (d : CompactDoc) → IsUnchanged d d
unchanged_same d = record { document = refl; heap = refl; pairs = refl; places = refl }

pub unchanged_from : (a b c : CompactDoc) → IsUnchanged a b → IsUnchanged b c → IsUnchanged a c
unchanged_from a b c u v = record { document = v.document ∙ u.document; heap = v.heap ∙ u.heap; pairs = v.pairs ∙ u.pairs; places = v.places ∙ u.places }

pub adds_from : (field : ℕ) (t : Tree) (a b c : CompactDoc) → IsUnchanged a b → Accepts b c field t → Accepts a c field t
adds_from field t a b c u h =
    let same = ap length u.heap in
    let k = h.1 in (
      omega (arith, same, h.0),
      record {
        document = k.document ∙ ap (λ d. d ++ (field, t) ∷ []) u.document;
        bytes = k.bytes ∙ ap (λ h. tree_heap h t) u.heap;
        pair = k.pair ∙ (λ i. u.pairs i ++ pair_at field (tree_place (u.heap i) t) ∷ []);
        added = k.added;
        heap = k.heap ∙ ap (λ l. l ++ k.added) u.heap;
        within = k.within;
        code = k.code;
        at = k.at;
        places = k.places ∙ ap (λ l. l ++ (k.code, k.at) ∷ []) u.places;
        behind = λ some other. omega (arith, same, k.behind some other);
      },
    )

pub each_from : (ps : Document) (a b c : CompactDoc) → IsUnchanged a b → AddsEach ps b c → AddsEach ps a c
each_from [] a b c u h = unchanged_from a b c u h
each_from (p ∷ ps) a b c u h = (h.0, adds_from p.0 p.1 a b h.0 u h.1, h.2)

pub each_append : (ps qs : Document) (a b c : CompactDoc) → AddsEach ps a b → AddsEach qs b c → AddsEach (ps ++ qs) a c
each_append [] qs a b c h k = each_from qs a b c h k
each_append (p ∷ ps) qs a b c h k = (h.0, h.1, each_append ps qs h.0 b c h.2 k)

pub each_one : (field : ℕ) (t : Tree) (a b : CompactDoc) → Accepts a b field t → AddsEach ((field, t) ∷ []) a b
each_one field t a b h = (b, h, unchanged_same b)

pub each_document : (ps : Document) (a b : CompactDoc) → AddsEach ps a b → document_of b ≡ document_of a ++ ps
each_document [] a b h = h.document ∙ sym (append-nil (document_of a))
each_document (p ∷ ps) a b h = prefix_of_prefix (document_of a) (document_of h.0) (document_of b) (p ∷ []) ps h.1.1.document (each_document ps h.0 b h.2)

-- from an empty document the pairs are all
pub from_empty : (ps : Document) (start made : CompactDoc) → IsEmpty start → AddsEach ps start made → document_of made ≡ ps
from_empty ps start made none h = each_document ps start made h ∙ ap (λ d. d ++ ps) none.document

pub made_of : (ps : Document) (start made : CompactDoc) → IsEmpty start → AddsEach ps start made → IsMade made
made_of ps start made none h = (start, none, subst (λ d. AddsEach d start made) (sym (from_empty ps start made none h)) h)
