-- What a document is seen as, and what its calls return and leave.
--
-- The words of the public contracts:
-- `IsEmptyWith`: a document without pairs. `document`: it has no pair. `heap`: no byte stands in its heap.
-- `bytes` and `places`: for how many bytes of the heap, and for how many pairs, it has memory.
-- `Clears`: all pairs are taken off. The document is then empty, and has the memory that it had before.
-- `Shrinks`: memory is given back. `unchanged`: the pairs and the heap are unchanged. `bytes` and `places`:
-- the document has no more memory for its heap and for pairs than before. `frees_bytes` and `frees_places`:
-- it has none for its heap where no byte stands in it, and none for pairs where it has
-- no pair.
-- `Adds`: a pair of this field and this tree is added after the others. Or the addition is refused:
-- `HeapFull` where the heap has no room for the tree, `Memory` only where it has. The pairs and the heap are
-- then unchanged. `AddsLeaf`: the same of a value without children.
-- `KeepsMemory`: after `HeapFull` the heap has memory for at most 1 MiB more than before.
-- `IsWrittenInOrder`: the heap is what writing the trees of the pairs one after the other gives.
-- `IsWithinRoom`: it is no longer than the room of
-- the values.
use Rattle.std.specs.Prelude.{◌≡◌, ◌≤◌, ℕ, List, [], length, Option, Result}
use Rattle.tv_builder.specs.HeldPairs as held
use Rattle.tv_builder.specs.TreeBytes.{document_heap}
use Rattle.tv_builder.specs.declared.errors.AddError.{AddError}
use Rattle.tv_builder.specs.declared.heap_pairs.HeapPair.{HeapPair}
use Rattle.tv_format.specs.Tree.{Leaf, Tree, Document, leaf}
use Rattle.tv_heap.specs.Room.{document_room}
use Rattle.tv_doc.specs.declared.document.CompactDoc.{CompactDoc}

-- its fields and trees, in order
abbrev pub document_of : CompactDoc → Document
document_of doc = held.document_of doc.values

-- the bytes in which the trees stand
abbrev pub heap_of : CompactDoc → List ℕ
heap_of doc = held.heap_of doc.values

-- the fields, and where their values stand in it
abbrev pub pairs_of : CompactDoc → List HeapPair
pairs_of doc = doc.values.pairs.items

-- for how many bytes of the heap, and for how many pairs, it has memory
abbrev pub heap_capacity : CompactDoc → ℕ
heap_capacity doc = held.heap_capacity doc.values

abbrev pub pairs_capacity : CompactDoc → ℕ
pairs_capacity doc = held.pairs_capacity doc.values

-- each pair's type byte and address
abbrev pub places_of : CompactDoc → List (ℕ × ℕ)
places_of doc = held.places_of doc.values

-- one pair is added
abbrev pub Added : CompactDoc → CompactDoc → ℕ → Tree → Type 0
Added old new field tree = held.Added old.values new.values field tree

-- the same heap and the same pairs at the same places
abbrev pub IsUnchanged : CompactDoc → CompactDoc → Type 0
IsUnchanged old new = held.IsUnchanged old.values new.values

-- the heap has no room for the tree
abbrev pub IsFull : CompactDoc → Tree → Type 0
IsFull doc tree = held.IsFull doc.values tree

-- when which refusal comes
abbrev pub RefusesAddition : CompactDoc → Tree → AddError → Type 0
RefusesAddition doc tree error = held.RefusesAddition doc.values tree error

-- what an addition returns, and what it leaves
abbrev pub Adds : {T : Type 0} → CompactDoc → CompactDoc → ℕ → Tree → Result T AddError → Type 0
Adds old new field tree r = held.Adds old.values new.values field tree r

-- the same of a value without children
abbrev pub AddsLeaf : {T : Type 0} → CompactDoc → CompactDoc → ℕ → Leaf → Result T AddError → Type 0
AddsLeaf old new field the_leaf r = Adds old new field (leaf the_leaf) r

-- after a refusal for want of room the heap has memory for at most 1 MiB more than before
abbrev pub KeepsMemory : {T : Type 0} → CompactDoc → CompactDoc → Result T AddError → Type 0
KeepsMemory old new r = held.KeepsMemory old.values new.values r

-- no pair and no byte in the heap, with memory for this many pairs and bytes
pub record IsEmptyWith (for_pairs for_bytes : ℕ) (empty : CompactDoc) : Type 0 where
  pub document : document_of empty ≡ []
  pub heap : heap_of empty ≡ []
  pub bytes : heap_capacity empty ≡ for_bytes
  pub places : pairs_capacity empty ≡ for_pairs

-- all pairs are taken off, and the memory stays
abbrev pub Clears : CompactDoc → CompactDoc → Type 0
Clears old new = IsEmptyWith (pairs_capacity old) (heap_capacity old) new

-- memory is given back, all of it where nothing needs any, and the document stays the same
pub record Shrinks (old new : CompactDoc) : Type 0 where
  pub unchanged : IsUnchanged old new
  pub bytes : heap_capacity new ≤ heap_capacity old
  pub places : pairs_capacity new ≤ pairs_capacity old
  pub frees_bytes : heap_of old ≡ [] → heap_capacity new ≡ 0
  pub frees_places : document_of old ≡ [] → pairs_capacity new ≡ 0

-- the heap is what writing the trees one after the other gives
abbrev pub IsWrittenInOrder : CompactDoc → Type 0
IsWrittenInOrder doc = heap_of doc ≡ document_heap [] (document_of doc)

-- the heap takes at most the room of the values
abbrev pub IsWithinRoom : CompactDoc → Type 0
IsWithinRoom doc = length (heap_of doc) ≤ document_room (document_of doc)

-- the type byte and the address of the pair at a place, whose tree the heap reads there
abbrev pub ReadsAt : CompactDoc → ℕ → Option (ℕ × ℕ) → Type 0
ReadsAt doc i place = held.ReadsAt doc.values i place
