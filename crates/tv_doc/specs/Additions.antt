-- Additions to a document, one after the other, refused ones among them.
--
-- The words of the public contracts:
-- `AreKept`: where each of these additions is called on what the one before it left, the accepted pairs are
-- kept, as `Keeps` says. `document`: they stand in order after the pairs that were there. `heap`: what stood
-- in the heap stands there still. `places`: the pairs that were there have the
-- same places, and the new places come after them.
-- `AddsAsBuilt`: the first document is made by one addition, the second by a builder. `added_bytes`: the
-- addition writes the tree after the heap.
-- `added_pair`: it adds the pair after the others. `heap`, `pairs` and `document`: both documents have the
-- same heap, byte for byte, and the same
-- pairs at the same places.
use Rattle.std.specs.Prelude.{◌≡◌, ℕ, List, [], ◌∷◌, ◌++◌, Result, Ok, Err}
use Rattle.tv_base.specs.Sink.{IsPrefix}
use Rattle.tv_format.specs.Tree.{Tree, Document}
use Rattle.tv_builder.specs.TreeBytes.{tree_heap}
use Rattle.tv_builder.specs.declared.errors.AddError.{AddError}
use Rattle.tv_doc.specs.declared.document.CompactDoc.{CompactDoc}
use Rattle.tv_doc.specs.Document.{document_of, heap_of, pairs_of, places_of, Adds, IsUnchanged}

-- an addition and its answer
pub record Addition : Type 0 where
  pub field : ℕ
  pub tree : Tree
  pub answer : Result (Unit {0}) AddError

-- its pair, where it was accepted
abbrev pub pair_of : Result (Unit {0}) AddError → ℕ → Tree → Document
pair_of (Ok x) field tree = (field, tree) ∷ []
pair_of (Err e) field tree = []

-- the pairs of those that were accepted, in order
abbrev pub accepted_pairs : List Addition → Document
accepted_pairs [] = []
accepted_pairs (a ∷ rest) = pair_of a.answer a.field a.tree ++ accepted_pairs rest

-- each is called on what the one before it left
abbrev pub Runs : List Addition → CompactDoc → CompactDoc → Type 0
Runs [] old new = IsUnchanged old new
Runs (a ∷ rest) old new = (mid : CompactDoc) × Adds old mid a.field a.tree a.answer × Runs rest mid new

-- the accepted pairs stand after those that were there, and the old heap and the old places are prefixes of
-- the new ones
pub record Keeps (pairs : Document) (old new : CompactDoc) : Type 0 where
  pub document : document_of new ≡ document_of old ++ pairs
  pub heap : IsPrefix (heap_of old) (heap_of new)
  pub added_places : List (ℕ × ℕ)
  pub places : places_of new ≡ places_of old ++ added_places

-- where each addition is called on what the one before it left, the accepted pairs are kept
abbrev pub AreKept : List Addition → CompactDoc → CompactDoc → Type 0
AreKept additions old new = Runs additions old new → Keeps (accepted_pairs additions) old new

-- the addition is accepted
abbrev pub Accepts : CompactDoc → CompactDoc → ℕ → Tree → Type 0
Accepts old new field the_tree = Adds old new field the_tree (Ok (tt {0}))

-- each of these pairs is added, one after the other
abbrev pub AddsEach : Document → CompactDoc → CompactDoc → Type 0
AddsEach [] old new = IsUnchanged old new
AddsEach (pair ∷ pairs) old new = (mid : CompactDoc) × Accepts old mid pair.0 pair.1 × AddsEach pairs mid new

-- One call adds a pair, and a builder builds its value whole and finishes it: both leave the same heap and
-- the same pairs.
pub record AddsAsBuilt (old : CompactDoc) (field : ℕ) (tree : Tree)
    (added finished : CompactDoc) : Type 0 where
  pub added_bytes : heap_of added ≡ tree_heap (heap_of old) tree
  pub added_pair : document_of added ≡ document_of old ++ (field, tree) ∷ []
  pub heap : heap_of added ≡ heap_of finished
  pub pairs : pairs_of added ≡ pairs_of finished
  pub document : document_of added ≡ document_of finished

-- no pair, and no byte in the heap
pub record IsEmpty (empty : CompactDoc) : Type 0 where
  pub document : document_of empty ≡ []
  pub heap : heap_of empty ≡ []

-- its pairs were added, one after the other, to an empty document
abbrev pub IsMade : CompactDoc → Type 0
IsMade made = (start : CompactDoc) × IsEmpty start × AddsEach (document_of made) start made
