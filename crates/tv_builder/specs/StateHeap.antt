-- What stands in a heap for a state, after what stood there before: each part is written at the heap's end as
-- it comes, the children of
-- open lists from the outermost on.
use Rattle.std.specs.Prelude.{ℕ, ◌+◌, ◌-◌, List, [], ◌∷◌, ◌++◌, length}
use Rattle.tv_base.specs.Number.{vnum}
use Rattle.tv_format.specs.Tree.{elements}
use Rattle.tv_builder.specs.State.{OpenList, State, complete, in_lists, in_bytes}
use Rattle.tv_builder.specs.TreeBytes.{tree_heap, elements_heap}

-- the heap after the finished children of open lists
abbrev pub lists_heap : List ℕ → List OpenList → List ℕ
lists_heap base [] = base
lists_heap base (l ∷ ls) = elements_heap (lists_heap base ls) (elements l.children)

-- the heap after a state
abbrev pub state_heap : List ℕ → State → List ℕ
state_heap base (complete t) = tree_heap base t
state_heap base (in_lists ls) = lists_heap base ls
state_heap base (in_bytes ls kind n bs) = lists_heap base ls ++ (vnum n ++ bs)

-- how many of the announced bytes have not come
abbrev pub missing : State → ℕ
missing (in_bytes ls kind n bs) = n - length bs
missing _ = 0

-- the length of the heap after a state, with all bytes that are announced
abbrev pub full_length : List ℕ → State → ℕ
full_length base state = length (state_heap base state) + missing state
