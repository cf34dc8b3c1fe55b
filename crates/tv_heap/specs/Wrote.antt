-- What a call that writes a value at the end of a heap leaves.
use Rattle.std.specs.Prelude.{◌≡◌, ◌≢◌, ℕ, ◌<◌, ◌≤◌, ◌^◌, List, ◌++◌, length}
use Rattle.tv_format.specs.Tree.{Tree}
use Rattle.tv_heap.specs.declared.value_type.Place.{Place}
use Rattle.tv_heap.specs.Room.{room}
use Rattle.tv_heap.specs.Reads.{ReadsTree}
use Rattle.tv_heap.specs.TypeCode.{type_code}
use Rattle.tv_heap.specs.Weight.{tree_weight}

-- The old heap is kept as a prefix and grew by the tree's room at most, and by its weight at most, and the
-- tree reads. Unless it is null or a
-- truth value, it stands after the old heap.
pub record Wrote (old new : List ℕ) (code at : ℕ) (tree : Tree) : Type 0 where
  pub added : List ℕ
  pub grows : new ≡ old ++ added
  pub within : length added ≤ room tree
  pub weighed : length added ≤ tree_weight tree
  pub reads : ReadsTree new code at tree
  pub behind : code ≢ 0 → code ≢ 9 → length old ≤ at
  pub below : code ≢ 0 → code ≢ 9 → at < length new
  pub fits : at < 2 ^ 32

-- the same of a value whose type and address are this place
abbrev pub WroteAt : List ℕ → List ℕ → Place → Tree → Type 0
WroteAt old new place tree = Wrote old new (type_code place.value_type) place.address tree
