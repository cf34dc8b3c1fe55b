-- How many bytes of heap a state may take, by what is written of it: less than its room.
use Rattle.std.specs.Prelude.{ℕ, ◌+◌, List, [], ◌∷◌, length}
use Rattle.tv_base.specs.Number.{vnum}
use Rattle.tv_base.specs.Parts.{short_sized}
use Rattle.tv_format.specs.Tree.{Tree, elements}
use Rattle.tv_heap.specs.Weight.{elements_weight}
use Rattle.tv_builder.specs.declared.kinds.ListKind.{ListKind}
use Rattle.tv_builder.specs.declared.kinds.ListKind.TheVariants as lists
use Rattle.tv_builder.specs.State.{OpenList, State, complete, in_lists, in_bytes, key_text}
pub use Rattle.tv_heap.specs.Weight.{tree_weight, document_weight}

-- 6 bytes for each finished child and what it weighs, a key as its text
abbrev mutual
  pub keys_weight : List Tree → ℕ
  keys_weight [] = 0
  keys_weight (t ∷ ts) = 6 + length (short_sized (key_text t)) + values_weight ts

  pub values_weight : List Tree → ℕ
  values_weight [] = 0
  values_weight (t ∷ ts) = 6 + tree_weight t + keys_weight ts

abbrev pub children_weight : ListKind → List Tree → ℕ
children_weight lists.Array trees = elements_weight (elements trees)
children_weight lists.Object trees = keys_weight trees

-- 5 more for each open list
abbrev pub lists_weight : List OpenList → ℕ
lists_weight [] = 0
lists_weight (l ∷ ls) = 5 + children_weight l.kind l.children + lists_weight ls

-- of open bytes the length that is announced, as it is encoded, and those that have come
abbrev pub state_weight : State → ℕ
state_weight (complete t) = tree_weight t
state_weight (in_lists ls) = lists_weight ls
state_weight (in_bytes ls kind n bs) = lists_weight ls + (length (vnum n) + length bs)
