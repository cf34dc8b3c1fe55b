-- What has come so far of a value that comes part by part, and what a part does to it.
use Rattle.std.specs.Prelude.{◌≡◌, ℕ, suc, ◌+◌, ◌-◌, ◌%◌, ◌<◌, ◌≤◌, Bool, cond, nat_lt, nat_eq, List, [], ◌∷◌}
use Rattle.std.specs.Prelude.{◌++◌, length, map}
use Rattle.tv_format.specs.Tree.{Tree, leaf, text, facet, bytes, array, object, elements, entries}
use Rattle.tv_builder.specs.declared.kinds.Awaits.{Awaits}
use Rattle.tv_builder.specs.declared.kinds.Awaits.TheVariants as awaits
use Rattle.tv_builder.specs.declared.kinds.BytesKind.{BytesKind}
use Rattle.tv_builder.specs.declared.kinds.BytesKind.TheVariants as kinds
use Rattle.tv_builder.specs.declared.kinds.ListKind.{ListKind}
use Rattle.tv_builder.specs.declared.kinds.ListKind.TheVariants as lists
use Rattle.tv_builder.specs.Kinds.{total}
use Rattle.tv_builder.specs.Parts.{Part, value, key, array_head, object_head, bytes_head, some_bytes}
use Rattle.tv_heap.specs.Room.{room}
use Rattle.tv_heap.specs.Weight.{tree_weight}
use Rattle.tv_base.specs.Number.{vnum}

-- An open list, with the number of elements or entries that is announced, and its finished children. Those of
-- an object are keys
-- and values in turn, each key as a text.
pub record OpenList : Type 0 where
  pub kind : ListKind
  pub announced : ℕ
  pub children : List Tree

-- A tree is complete; or lists are open, from the innermost, none of them at first; or, in the innermost,
-- bytes are open, with their
-- length that is announced and those that have come.
pub data State : Type 0 where
  complete : Tree → State
  in_lists : List OpenList → State
  in_bytes : List OpenList → BytesKind → ℕ → List ℕ → State

-- ---- what comes next

-- of a list with this many finished children
abbrev pub next_at : ListKind → ℕ → Awaits
next_at lists.Array n = awaits.Value
next_at lists.Object n = cond (nat_eq (n % 2) 0) awaits.Key awaits.Value

abbrev pub next_in : List OpenList → Awaits
next_in [] = awaits.Value
next_in (l ∷ ls) = next_at l.kind (length l.children)

abbrev pub awaited : State → Awaits
awaited (complete t) = awaits.Finish
awaited (in_lists ls) = next_in ls
awaited (in_bytes ls kind n bs) = awaits.Bytes (n - length bs)

-- what begins where bytes of a kind are to come
abbrev pub head_awaits : BytesKind → Awaits
head_awaits kinds.Str = awaits.Value
head_awaits kinds.Facet = awaits.Value
head_awaits kinds.Bytes = awaits.Value
head_awaits kinds.Key = awaits.Key

-- ---- lists

abbrev pub key_text : Tree → List ℕ
key_text (leaf (text content)) = content
key_text _ = []

-- each key with the value after it
abbrev pub pairs_of : List Tree → List (List ℕ × Tree)
pairs_of [] = []
pairs_of (k ∷ []) = []
pairs_of (k ∷ t ∷ ts) = (key_text k, t) ∷ pairs_of ts

abbrev pub list_tree : ListKind → List Tree → Tree
list_tree lists.Array trees = array (elements trees)
list_tree lists.Object trees = object (entries (pairs_of trees))

abbrev pub with_child : OpenList → Tree → OpenList
with_child list tree = record {
  kind = list.kind;
  announced = list.announced;
  children = list.children ++ tree ∷ [];
}

-- with one child more it still lacks one
abbrev pub lacks_more : OpenList → Bool
lacks_more list = nat_lt (suc (length list.children)) (total list.kind list.announced)

-- ---- what a part does

-- A finished value comes to the innermost list, and a list that lacks nothing more is itself a finished
-- value.
abbrev pub with_value : List OpenList → Tree → State
with_value [] tree = complete tree
with_value (l ∷ ls) tree = cond (lacks_more l) (in_lists (with_child l tree ∷ ls))
    (with_value ls (list_tree l.kind (l.children ++ tree ∷ [])))

abbrev pub with_key : List OpenList → List ℕ → State
with_key [] k = in_lists []
with_key (l ∷ ls) k = in_lists (with_child l (leaf (text k)) ∷ ls)

-- a list of none is a finished value at once
abbrev pub with_list : List OpenList → ListKind → ℕ → State
with_list ls kind n = cond (nat_eq n 0) (with_value ls (list_tree kind []))
    (in_lists (record { kind = kind; announced = n; children = [] } ∷ ls))

abbrev pub with_content : List OpenList → BytesKind → List ℕ → State
with_content ls kinds.Str content = with_value ls (leaf (text content))
with_content ls kinds.Facet content = with_value ls (leaf (facet content))
with_content ls kinds.Bytes content = with_value ls (leaf (bytes content))
with_content ls kinds.Key content = with_key ls content

-- each where it is awaited
abbrev pub and_value : State → Tree → State
and_value (in_lists ls) tree = with_value ls tree
and_value state tree = state

abbrev pub and_list : State → ListKind → ℕ → State
and_list (in_lists ls) kind n = with_list ls kind n
and_list state kind n = state

abbrev pub and_key : State → List ℕ → State
and_key (in_lists ls) k = with_key ls k
and_key state k = state

abbrev pub and_head : State → BytesKind → ℕ → State
and_head (in_lists ls) kind n = in_bytes ls kind n []
and_head state kind n = state

abbrev pub and_bytes : State → List ℕ → State
and_bytes (in_bytes ls kind n bs) more = in_bytes ls kind n (bs ++ more)
and_bytes state more = state

abbrev pub and_end : State → State
and_end (in_bytes ls kind n bs) = with_content ls kind bs
and_end state = state

-- ---- which states there are

abbrev pub IsKeyLeaf : Tree → Type 0
IsKeyLeaf (leaf (text content)) = Unit {0}
IsKeyLeaf _ = ⊥

abbrev mutual
  -- where a key comes next
  pub StartsWithKey : List Tree → Type 0
  StartsWithKey [] = Unit {0}
  StartsWithKey (t ∷ ts) = IsKeyLeaf t × StartsWithValue ts

  pub StartsWithValue : List Tree → Type 0
  StartsWithValue [] = Unit {0}
  StartsWithValue (t ∷ ts) = StartsWithKey ts

abbrev pub AreChildren : ListKind → List Tree → Type 0
AreChildren lists.Array trees = Unit {0}
AreChildren lists.Object trees = StartsWithKey trees

-- some child is still awaited
pub record IsList (list : OpenList) : Type 0 where
  pub lacks : length list.children < total list.kind list.announced
  pub children : AreChildren list.kind list.children

abbrev pub AreLists : List OpenList → Type 0
AreLists [] = Unit {0}
AreLists (l ∷ ls) = IsList l × AreLists ls

abbrev pub IsValueNext : ListKind → ℕ → Type 0
IsValueNext lists.Array n = Unit {0}
IsValueNext lists.Object n = n % 2 ≡ 1

abbrev pub IsKeyNext : ListKind → ℕ → Type 0
IsKeyNext lists.Array n = ⊥
IsKeyNext lists.Object n = n % 2 ≡ 0

-- each awaits a value
abbrev pub AllAwait : List OpenList → Type 0
AllAwait [] = Unit {0}
AllAwait (l ∷ ls) = IsValueNext l.kind (length l.children) × AllAwait ls

-- each but the innermost
abbrev pub OthersAwait : List OpenList → Type 0
OthersAwait [] = Unit {0}
OthersAwait (l ∷ ls) = AllAwait ls

-- where bytes of a kind may come
abbrev pub HeadNext : BytesKind → List OpenList → Type 0
HeadNext kinds.Key [] = ⊥
HeadNext kinds.Key (l ∷ ls) = IsKeyNext l.kind (length l.children)
HeadNext _ ls = AllAwait ls

abbrev pub IsState : State → Type 0
IsState (complete t) = Unit {0}
IsState (in_lists ls) = AreLists ls × OthersAwait ls
IsState (in_bytes ls kind n bs) = AreLists ls × OthersAwait ls × HeadNext kind ls × (length bs ≤ n)

-- ---- its parts, its room, its counts

abbrev mutual
  pub key_parts : List Tree → List Part
  key_parts [] = []
  key_parts (t ∷ ts) = key (key_text t) ∷ value_parts ts

  pub value_parts : List Tree → List Part
  value_parts [] = []
  value_parts (t ∷ ts) = value t ∷ key_parts ts

abbrev pub list_head : ListKind → ℕ → Part
list_head lists.Array n = array_head n
list_head lists.Object n = object_head n

abbrev pub children_parts : ListKind → List Tree → List Part
children_parts lists.Array trees = map value trees
children_parts lists.Object trees = key_parts trees

abbrev pub list_parts : OpenList → List Part
list_parts list = list_head list.kind list.announced ∷ children_parts list.kind list.children

-- in reading order, so from the outermost
abbrev pub lists_parts : List OpenList → List Part
lists_parts [] = []
lists_parts (l ∷ ls) = lists_parts ls ++ list_parts l

abbrev pub parts_of : State → List Part
parts_of (complete t) = value t ∷ []
parts_of (in_lists ls) = lists_parts ls
parts_of (in_bytes ls kind n bs) = lists_parts ls ++ (bytes_head kind n ∷ some_bytes bs ∷ [])

-- 6 bytes and its room for each finished child, 5 for each open list
abbrev pub finished_room : List Tree → ℕ
finished_room [] = 0
finished_room (t ∷ ts) = 6 + room t + finished_room ts

abbrev pub lists_room : List OpenList → ℕ
lists_room [] = 0
lists_room (l ∷ ls) = 5 + finished_room l.children + lists_room ls

-- open bytes count with the length that is announced
abbrev pub state_room : State → ℕ
state_room (complete t) = room t
state_room (in_lists ls) = lists_room ls
state_room (in_bytes ls kind n bs) = lists_room ls + (5 + n)

-- how many finished children open lists have
abbrev pub children_of : List OpenList → ℕ
children_of [] = 0
children_of (l ∷ ls) = length l.children + children_of ls

abbrev pub lists_of : State → List OpenList
lists_of (complete t) = []
lists_of (in_lists ls) = ls
lists_of (in_bytes ls kind n bs) = ls

-- ---- for private clauses: the weight of what is written

abbrev pub trees_weight : List Tree → ℕ
trees_weight [] = 0
trees_weight (t ∷ ts) = tree_weight t + trees_weight ts

abbrev pub lists_written : List OpenList → ℕ
lists_written [] = 0
lists_written (l ∷ ls) = trees_weight l.children + lists_written ls

abbrev pub written : State → ℕ
written (complete t) = tree_weight t
written (in_lists ls) = lists_written ls
written (in_bytes ls kind n bs) = lists_written ls + (length (vnum n) + length bs)
