-- What a tree builder is seen as, and what its calls return and leave: that of the builder of pairs which it
-- holds.
--
-- The words of the public contracts:
-- `IsNewBuilder`: a builder after this document's pairs. `document`, `heap`, `kept` and `pairs`: its finished
-- pairs are those of the document, at the same places, and its heap is the document's, which ends after the
-- last of them. `state`: nothing of a next value has come, and no list is
-- open. `not_failed`: no call was refused.
-- `IsDocumentOf`: the document of a builder's finished pairs. `document` and `pairs`: it has these pairs, at
-- their places. `heap`: its heap is the
-- builder's up to the end of the last of their values.
-- `IsHeapLength`: a length. `is_length`: the heap so far has it. `within`: it is at most what the finished
-- pairs and the next value so far weigh.
-- `Builds`: a call that brings a part of the next value. Its arguments say where the call belongs, what fits
-- where memory is refused, and which state it goes on to. After a refusal it returns `AlreadyFailed` and
-- changes nothing. Else it goes on to that state: the finished pairs stay, and the heap is that of the state.
-- Or it is refused: `OutOfPlace` exactly where it does not belong there, `HeapFull` where the state has no
-- room, or `Memory`.
-- Then nothing is open, and the finished pairs stay.
-- `BuildsLeaf`, `BuildsTree`, `BuildsList`, `BuildsKey`, `BeginsBytes`: such a call for a value without
-- children; for a whole value; for a list that opens with this many announced children; for a key of the
-- innermost object; for the head of bytes, of which this many are announced.
-- `BuildsBytes`: some of the announced bytes. `builds`: it is such a call. `no_heap_full`: it never returns
-- `HeapFull`.
-- `Ends`: the announced bytes are a finished value or key, or the call is refused. `Finishes`: the complete
-- value becomes that of a pair, or the call
-- is refused.
-- `HoldsState`: all of a builder's state stands in its heap. `kept`: the heap of the finished pairs is what
-- writing their trees one after the other gives. `bytes`: after it the heap's bytes are those of the state.
-- `reads`: where a tree is complete, the heap reads it at its place. `room`: the heap takes at most the room
-- of the pairs and what is written.
use Rattle.std.specs.Prelude.{◌≡◌, ◌+◌, ◌≤◌, ℕ, List, [], false, length, Result, IsErrOf}
use Rattle.tv_builder.specs.Builder as pairs
pub use Rattle.tv_builder.specs.Builder.{TakesBytes, HasAllBytes, HasContent, IsComplete}
use Rattle.tv_builder.specs.Fits.{LeafFits, ListFits, KeyFits, HeadFits}
use Rattle.tv_builder.specs.State.{State, OpenList, complete, in_lists, lists_of, awaited, head_awaits}
use Rattle.tv_builder.specs.State.{written}
use Rattle.tv_builder.specs.State.{and_value, and_list, and_key, and_head, and_bytes}
use Rattle.tv_builder.specs.StateHeap.{state_heap}
use Rattle.tv_builder.specs.TreeBytes.{tree_place, document_heap}
use Rattle.tv_builder.specs.Weight.{document_weight, state_weight}
use Rattle.tv_builder.specs.declared.kinds.Awaits.TheVariants as awaits
use Rattle.tv_builder.specs.declared.kinds.BytesKind.{BytesKind}
use Rattle.tv_builder.specs.declared.kinds.ListKind.{ListKind}
use Rattle.tv_builder.specs.declared.heap_pairs.HeapPair.{HeapPair}
use Rattle.tv_builder.specs.declared.errors.BuildError.{BuildError}
use Rattle.tv_builder.specs.declared.errors.BuildError.TheVariants.{HeapFull}
use Rattle.tv_doc.specs.Document.{document_of, heap_of, pairs_of}
use Rattle.tv_doc.specs.declared.builder.TreeBuilder.{TreeBuilder}
use Rattle.tv_doc.specs.declared.document.CompactDoc.{CompactDoc}
use Rattle.tv_format.specs.Tree.{Document, Leaf, Tree, leaf}
use Rattle.tv_heap.specs.Reads.{ReadsTree}
use Rattle.tv_heap.specs.Room.{document_room}
use Rattle.tv_heap.specs.TypeCode.{type_code}

-- the finished pairs
abbrev pub built : TreeBuilder → Document
built builder = pairs.built builder.builder

-- what has come so far of the next value
abbrev pub state_of : TreeBuilder → State
state_of builder = pairs.state_of builder.builder

-- its open lists, from the innermost
abbrev pub open_lists : TreeBuilder → List OpenList
open_lists builder = lists_of (state_of builder)

abbrev pub heap_so_far : TreeBuilder → List ℕ
heap_so_far builder = pairs.heap_so_far builder.builder

-- the heap of the finished pairs
abbrev pub kept_heap : TreeBuilder → List ℕ
kept_heap builder = pairs.kept_heap builder.builder

-- where the values of the finished pairs stand
abbrev pub pairs_so_far : TreeBuilder → List HeapPair
pairs_so_far builder = pairs.pairs_so_far builder.builder

abbrev pub Builds : TreeBuilder → TreeBuilder → Type 0 → Type 0 → (State → State)
    → Result (Unit {0}) BuildError → Type 0
Builds old new in_place fits after r = pairs.Builds old.builder new.builder in_place fits after r

abbrev pub Ends : TreeBuilder → TreeBuilder → Result (Unit {0}) BuildError → Type 0
Ends old new r = pairs.Ends old.builder new.builder r

abbrev pub Finishes : TreeBuilder → TreeBuilder → ℕ → Result (Unit {0}) BuildError → Type 0
Finishes old new f r = pairs.Finishes old.builder new.builder f r

-- ---- new builders, and what is taken out of one

-- after the pairs of a document, and nothing of a next value has come
pub record IsNewBuilder (doc : CompactDoc) (new_builder : TreeBuilder) : Type 0 where
  pub document : built new_builder ≡ document_of doc
  pub heap : heap_so_far new_builder ≡ heap_of doc
  pub kept : kept_heap new_builder ≡ heap_of doc
  pub pairs : pairs_so_far new_builder ≡ pairs_of doc
  pub state : state_of new_builder ≡ in_lists []
  pub not_failed : new_builder.builder.failed ≡ false

-- the document of the finished pairs
pub record IsDocumentOf (builder : TreeBuilder) (doc : CompactDoc) : Type 0 where
  pub document : document_of doc ≡ built builder
  pub heap : heap_of doc ≡ kept_heap builder
  pub pairs : pairs_of doc ≡ pairs_so_far builder

-- the length of the heap so far
pub record IsHeapLength (builder : TreeBuilder) (byte_count : ℕ) : Type 0 where
  pub is_length : byte_count ≡ length (heap_so_far builder)
  pub within : byte_count ≤ document_weight (built builder) + state_weight (state_of builder)

-- ---- the parts of the next value

-- a value without children
abbrev pub BuildsLeaf : TreeBuilder → TreeBuilder → Leaf → Result (Unit {0}) BuildError → Type 0
BuildsLeaf old new the_leaf r = Builds old new (awaited (state_of old) ≡ awaits.Value)
    (LeafFits (heap_so_far old) the_leaf)
    (λ s. and_value s (leaf the_leaf)) r

-- a whole value, which says nothing of what fits where memory is refused
abbrev pub BuildsTree : TreeBuilder → TreeBuilder → Tree → Result (Unit {0}) BuildError → Type 0
BuildsTree old new tree r = Builds old new (awaited (state_of old) ≡ awaits.Value) (Unit {0})
    (λ s. and_value s tree) r

-- a list opens with this many announced children; one of none closes at once
abbrev pub BuildsList : TreeBuilder → TreeBuilder → ListKind → ℕ → Result (Unit {0}) BuildError → Type 0
BuildsList old new kind n r = Builds old new (awaited (state_of old) ≡ awaits.Value)
    (ListFits (heap_so_far old) n) (λ s. and_list s kind n) r

-- a key of the innermost object
abbrev pub BuildsKey : TreeBuilder → TreeBuilder → List ℕ → Result (Unit {0}) BuildError → Type 0
BuildsKey old new k r = Builds old new (awaited (state_of old) ≡ awaits.Key) (KeyFits (heap_so_far old) k)
    (λ s. and_key s k) r

-- the bytes of a value or of a key begin, of which this many are announced
abbrev pub BeginsBytes : TreeBuilder → TreeBuilder → BytesKind → ℕ → Result (Unit {0}) BuildError → Type 0
BeginsBytes old new kind n r = Builds old new (awaited (state_of old) ≡ head_awaits kind)
    (HeadFits (heap_so_far old) n) (λ s. and_head s kind n) r

-- some of the announced bytes
pub record BuildsBytes (old new : TreeBuilder) (bs : List ℕ)
    (result : Result (Unit {0}) BuildError) : Type 0 where
  pub builds : Builds old new (TakesBytes (state_of old) (length bs)) (Unit {0}) (λ s. and_bytes s bs) result
  pub no_heap_full : ¬ IsErrOf result HeapFull

-- ---- a law

-- all of the state stands in the heap
pub record HoldsState (builder : TreeBuilder) : Type 0 where
  pub kept : kept_heap builder ≡ document_heap [] (built builder)
  pub bytes : heap_so_far builder ≡ state_heap (kept_heap builder) (state_of builder)
  pub reads : (t : Tree) → state_of builder ≡ complete t
      → let place = tree_place (kept_heap builder) t in
      ∥ ReadsTree (heap_so_far builder) (type_code place.value_type) place.address t ∥₁
  pub room : length (heap_so_far builder) ≤ document_room (built builder) + written (state_of builder)
