-- What pairs in a heap are seen as, and what an addition leaves.
use Rattle.std.specs.Prelude.{◌≡◌, ◌≢◌, ℕ, ◌+◌, ◌<◌, ◌≤◌, List, [], ◌∷◌, ◌++◌, length, map, slice_get, Option}
use Rattle.std.specs.Prelude.{Some, None, Result, Ok, Err}
use Rattle.std.specs.Vec.{vec_capacity}
use Rattle.tv_base.specs.Buffer.{capacity}
use Rattle.tv_format.specs.Tree.{Tree, Document}
use Rattle.tv_heap.specs.Reads.{ReadsTree}
use Rattle.tv_heap.specs.Room.{room}
use Rattle.tv_heap.specs.TypeCode.{type_code}
use Rattle.tv_builder.specs.Holds.{pair_at}
use Rattle.tv_builder.specs.TreeBytes.{tree_heap, tree_place}
use Rattle.tv_builder.specs.declared.errors.AddError.{AddError}
use Rattle.tv_builder.specs.declared.errors.AddError.TheVariants.{HeapFull, Memory}
use Rattle.tv_builder.specs.declared.heap_pairs.HeapPairs.{HeapPairs}

-- the fields and trees, in order
abbrev pub document_of : HeapPairs → Document
document_of d = d.document.0

-- the bytes in which the trees stand
abbrev pub heap_of : HeapPairs → List ℕ
heap_of d = d.heap.items

-- for how many bytes of the heap, and for how many pairs, there is memory
abbrev pub heap_capacity : HeapPairs → ℕ
heap_capacity d = capacity d.heap

abbrev pub pairs_capacity : HeapPairs → ℕ
pairs_capacity d = vec_capacity d.pairs

-- each pair's type byte and address
abbrev pub places_of : HeapPairs → List (ℕ × ℕ)
places_of d = map (λ p. (type_code p.place.value_type, p.place.address)) d.pairs.items

-- One pair is added. The new heap and the new pair's place are those that writing the tree after the old heap
-- gives: the old heap is kept as a prefix, and grew by the tree's room at most. The old places are kept, and
-- the new one is after the old heap, unless it is that of
-- null or a truth value.
pub record Added (old new : HeapPairs) (field : ℕ) (tree : Tree) : Type 0 where
  pub document : document_of new ≡ document_of old ++ (field, tree) ∷ []
  pub bytes : heap_of new ≡ tree_heap (heap_of old) tree
  pub pair : new.pairs.items ≡ old.pairs.items ++ pair_at field (tree_place (heap_of old) tree) ∷ []
  pub added : List ℕ
  pub heap : heap_of new ≡ heap_of old ++ added
  pub within : length added ≤ room tree
  pub code : ℕ
  pub at : ℕ
  pub places : places_of new ≡ places_of old ++ (code, at) ∷ []
  pub behind : code ≢ 0 → code ≢ 9 → length (heap_of old) ≤ at

-- the same heap and the same pairs at the same places
pub record IsUnchanged (old new : HeapPairs) : Type 0 where
  pub document : document_of new ≡ document_of old
  pub heap : heap_of new ≡ heap_of old
  pub pairs : new.pairs.items ≡ old.pairs.items
  pub places : places_of new ≡ places_of old

-- the heap has no room for the tree
abbrev pub IsFull : HeapPairs → Tree → Type 0
IsFull d tree = 4294967295 < length (heap_of d) + room tree

-- when which refusal comes
abbrev pub RefusesAddition : HeapPairs → Tree → AddError → Type 0
RefusesAddition d tree HeapFull = IsFull d tree
RefusesAddition d tree Memory = length (heap_of d) + room tree ≤ 4294967295

-- The promise of adding: what an addition of a pair returns, and what it leaves.
--
-- Where it succeeds, the heap had room for the tree, and the pair stands after the others (`Added`).
-- `HeapFull` comes only where the heap has no room for the tree, and `Memory` only where it has.
-- After an error nothing has changed (`IsUnchanged`).
abbrev pub Adds : {T : Type 0} → HeapPairs → HeapPairs → ℕ → Tree → Result T AddError → Type 0
Adds old new field tree (Ok x) = (length (heap_of old) + room tree ≤ 4294967295) × Added old new field tree
Adds old new field tree (Err e) = RefusesAddition old tree e × IsUnchanged old new

-- After a refusal for want of room the heap has memory for at most 1 MiB more than before.
abbrev pub GrowsLittle : {T : Type 0} → ℕ → ℕ → Result T AddError → Type 0
GrowsLittle old new (Ok x) = Unit {0}
GrowsLittle old new (Err HeapFull) = new ≤ old + 1048576
GrowsLittle old new (Err Memory) = Unit {0}

abbrev pub KeepsMemory : {T : Type 0} → HeapPairs → HeapPairs → Result T AddError → Type 0
KeepsMemory old new r = GrowsLittle (heap_capacity old) (heap_capacity new) r

-- the type byte and the address of the pair at a place, whose tree the heap reads there
abbrev pub ReadsAt : HeapPairs → ℕ → Option (ℕ × ℕ) → Type 0
ReadsAt d i None = slice_get (document_of d) i ≡ None
ReadsAt d i (Some p) = (pair : ℕ × Tree) × ((slice_get (document_of d) i ≡ Some pair)
    × ∥ ReadsTree (heap_of d) p.0 p.1 pair.1 ∥₁)
