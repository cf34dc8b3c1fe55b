-- Pairs that are encoded at the start of bytes, and are added to those of a heap.
use Rattle.std.specs.Prelude.{◌≡◌, ℕ, ◌+◌, ◌≤◌, List, ◌++◌, length}
use Rattle.tv_base.specs.Parts.{Begins, Each}
use Rattle.tv_base.specs.Sink.{IsPrefix}
use Rattle.tv_heap.specs.Room.{document_room}
use Rattle.tv_format.specs.Encoding.{EncodesPair, NoLegacy}
use Rattle.tv_format.specs.Tree.{Tree, Document}
use Rattle.tv_format.specs.Version.{Version}
use Rattle.tv_builder.specs.TreeBytes.{document_heap, document_pairs}
use Rattle.tv_builder.specs.HeldPairs.{document_of, heap_of, Added, IsUnchanged}
use Rattle.tv_builder.specs.declared.heap_pairs.HeapPairs.{HeapPairs}
use Rattle.tv_builder.specs.declared.heap_pairs.HeapPair.{HeapPair}

-- The old heap is a prefix of the heap now, and the old pairs, with their fields, types and addresses, come
-- before all others.
pub record IsStart (old now : HeapPairs) : Type 0 where
  pub heap : IsPrefix (heap_of old) (heap_of now)
  pub later : List HeapPair
  pub pairs : now.pairs.items ≡ old.pairs.items ++ later

-- This many pairs are added. The new heap and the new pairs' places are those that writing the trees one
-- after the other gives. The heap grows by at most the room of the trees. Where there is none, all is
-- unchanged.
pub record AddsEncoded (version : Version) (old new : HeapPairs) (whole rest : List ℕ)
    (count : ℕ) : Type 0 where
  pub pairs : Document
  pub counted : length pairs ≡ count
  pub encoded : Begins (λ b. Each (EncodesPair NoLegacy version) b pairs) whole rest
  pub document : document_of new ≡ document_of old ++ pairs
  pub bytes : heap_of new ≡ document_heap (heap_of old) pairs
  pub places : new.pairs.items ≡ old.pairs.items ++ document_pairs (heap_of old) pairs
  pub start : IsStart old new
  pub within : length (heap_of new) ≤ length (heap_of old) + document_room pairs
  pub none : count ≡ 0 → IsUnchanged old new

-- the same of one pair
pub record AddsEncodedPair (version : Version) (old new : HeapPairs) (whole rest : List ℕ) : Type 0 where
  pub pair : ℕ × Tree
  pub encoded : Begins (λ b. EncodesPair NoLegacy version b pair) whole rest
  pub added : Added old new pair.0 pair.1
  pub start : IsStart old new

-- There were this many pairs and so long a heap, and nothing of them was changed since then but that more was
-- added.
pub record StoodIn (old now : HeapPairs) (pairs heap : ℕ) : Type 0 where
  pub counted : length (document_of old) ≡ pairs
  pub heap_length : length (heap_of old) ≡ heap
  pub start : IsStart old now
