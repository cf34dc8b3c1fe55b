-- What a builder of pairs is seen as, and what its calls return and leave.
use Rattle.std.specs.Prelude.{◌≡◌, ℕ, ◌+◌, ◌<◌, ◌≤◌, Bool, true, false, List, [], ◌∷◌, ◌++◌, length, take}
use Rattle.std.specs.Prelude.{Result, Ok, Err}
use Rattle.tv_base.specs.Sink.{IsPrefix}
use Rattle.tv_format.specs.Tree.{Tree, Document}
use Rattle.tv_builder.specs.declared.errors.BuildError.{BuildError}
use Rattle.tv_builder.specs.declared.errors.BuildError.TheVariants.{AlreadyFailed, OutOfPlace, NotUtf8}
use Rattle.tv_builder.specs.declared.errors.BuildError.TheVariants.{HeapFull, Memory}
use Rattle.tv_builder.specs.Holds.{pair_at}
use Rattle.tv_builder.specs.StateHeap.{state_heap, full_length}
use Rattle.tv_builder.specs.Parts.{IsContentOf}
use Rattle.tv_builder.specs.State.{State, complete, in_lists, in_bytes, and_end, state_room}
use Rattle.tv_builder.specs.TreeBytes.{tree_place}
use Rattle.tv_heap.specs.Room.{document_room}
use Rattle.tv_builder.specs.declared.heap_pairs.HeapPair.{HeapPair}
use Rattle.tv_builder.specs.declared.pair_builder.PairBuilder.{PairBuilder}

-- the finished pairs
abbrev pub built : PairBuilder → Document
built builder = builder.document.0

-- what has come so far of the next value
abbrev pub state_of : PairBuilder → State
state_of builder = builder.state.0

abbrev pub heap_so_far : PairBuilder → List ℕ
heap_so_far builder = builder.building.heap.items

-- where the values of the finished pairs stand
abbrev pub pairs_so_far : PairBuilder → List HeapPair
pairs_so_far builder = builder.pairs.items

-- the heap of the finished pairs
abbrev pub kept_heap : PairBuilder → List ℕ
kept_heap builder = take builder.kept (heap_so_far builder)

-- bytes are open, and this many more are announced
abbrev pub TakesBytes : State → ℕ → Type 0
TakesBytes (in_bytes ls kind n bs) more = length bs + more ≤ n
TakesBytes _ more = ⊥

-- all announced bytes have come
abbrev pub HasAllBytes : State → Type 0
HasAllBytes (in_bytes ls kind n bs) = length bs ≡ n
HasAllBytes _ = ⊥

-- and a text is one
abbrev pub HasContent : State → Type 0
HasContent (in_bytes ls kind n bs) = IsContentOf kind bs
HasContent _ = ⊥

-- A call that goes on to this state. After the finished pairs the heap is that of the state, and has room for
-- all announced bytes. `kept`
-- stays at the end of the last finished pair.
pub record Goes (old new : PairBuilder) (after : State) : Type 0 where
  pub not_failed : new.failed ≡ false
  pub document : built new ≡ built old
  pub pairs : pairs_so_far new ≡ pairs_so_far old
  pub kept : new.kept ≡ old.kept
  pub state : state_of new ≡ after
  pub heap : heap_so_far new ≡ state_heap (kept_heap old) after
  pub fits : full_length (kept_heap old) after ≤ 4294967295
  pub grows : IsPrefix (heap_so_far old) (heap_so_far new)

-- After a refusal nothing is open, and the heap ends after the last finished pair.
pub record Fails (old new : PairBuilder) : Type 0 where
  pub failed : new.failed ≡ true
  pub document : built new ≡ built old
  pub pairs : pairs_so_far new ≡ pairs_so_far old
  pub kept : new.kept ≡ old.kept
  pub state : state_of new ≡ in_lists []
  pub heap : heap_so_far new ≡ take old.kept (heap_so_far old)

-- After the finished pairs this state has no room in a heap, by its bytes and the announced ones, nor by the
-- room that all may take.
pub record Overfull (old : PairBuilder) (after : State) : Type 0 where
  pub bytes : 4294967295 < full_length (kept_heap old) after
  pub room : 4294967295 < document_room (built old) + state_room after

-- A call that belongs `in_place`. Memory is refused only where `fits` holds.
abbrev pub BuildsIf : Bool → PairBuilder → PairBuilder → Type 0 → Type 0 → (State → State)
    → Result (Unit {0}) BuildError → Type 0
BuildsIf true old new in_place fits after r = (r ≡ Err AlreadyFailed) × (new ≡ old)
BuildsIf false old new in_place fits after (Ok x) = in_place × Goes old new (after (state_of old))
BuildsIf false old new in_place fits after (Err OutOfPlace) = ¬ in_place × Fails old new
BuildsIf false old new in_place fits after (Err HeapFull) = in_place × Fails old new
    × Overfull old (after (state_of old))
BuildsIf false old new in_place fits after (Err Memory) = in_place × fits × Fails old new
BuildsIf false old new in_place fits after (Err _) = ⊥

abbrev pub Builds : PairBuilder → PairBuilder → Type 0 → Type 0 → (State → State)
    → Result (Unit {0}) BuildError → Type 0
Builds old new in_place fits after r = BuildsIf old.failed old new in_place fits after r

-- the call at the end of open bytes
abbrev pub EndsIf : Bool → PairBuilder → PairBuilder → Result (Unit {0}) BuildError → Type 0
EndsIf true old new r = (r ≡ Err AlreadyFailed) × (new ≡ old)
EndsIf false old new (Ok x) = HasAllBytes (state_of old) × HasContent (state_of old)
    × Goes old new (and_end (state_of old))
EndsIf false old new (Err OutOfPlace) = ¬ HasAllBytes (state_of old) × Fails old new
EndsIf false old new (Err NotUtf8) = HasAllBytes (state_of old) × ¬ HasContent (state_of old) × Fails old new
EndsIf false old new (Err HeapFull) = HasAllBytes (state_of old) × HasContent (state_of old) × Fails old new
    × Overfull old (and_end (state_of old))
EndsIf false old new (Err Memory) = HasAllBytes (state_of old) × HasContent (state_of old) × Fails old new
EndsIf false old new (Err _) = ⊥

abbrev pub Ends : PairBuilder → PairBuilder → Result (Unit {0}) BuildError → Type 0
Ends old new r = EndsIf old.failed old new r

-- the complete tree became a pair
pub record Finished (old new : PairBuilder) (field : ℕ) : Type 0 where
  pub tree : Tree
  pub was : state_of old ≡ complete tree
  pub not_failed : new.failed ≡ false
  pub document : built new ≡ built old ++ (field, tree) ∷ []
  pub state : state_of new ≡ in_lists []
  pub pairs : pairs_so_far new ≡ pairs_so_far old ++ pair_at field (tree_place (kept_heap old) tree) ∷ []
  pub heap : heap_so_far new ≡ heap_so_far old
  pub kept : new.kept ≡ length (heap_so_far old)

abbrev pub IsComplete : State → Type 0
IsComplete s = (tree : Tree) × (s ≡ complete tree)

abbrev pub FinishesIf : Bool → PairBuilder → PairBuilder → ℕ → Result (Unit {0}) BuildError → Type 0
FinishesIf true old new f r = (r ≡ Err AlreadyFailed) × (new ≡ old)
FinishesIf false old new f (Ok x) = Finished old new f
FinishesIf false old new f (Err OutOfPlace) = ¬ IsComplete (state_of old) × Fails old new
FinishesIf false old new f (Err Memory) = IsComplete (state_of old) × Fails old new
FinishesIf false old new f (Err _) = ⊥

abbrev pub Finishes : PairBuilder → PairBuilder → ℕ → Result (Unit {0}) BuildError → Type 0
Finishes old new f r = FinishesIf old.failed old new f r
