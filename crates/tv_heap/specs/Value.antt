-- What values that are borrowed from a heap are seen as.
use Rattle.std.specs.Prelude.{ℕ, List}
use Rattle.std.specs.Borrow.{Bor}
use Rattle.tv_format.specs.Tree.{Tree}
use Rattle.tv_heap.specs.declared.value.CompactDocArrayIter.{CompactDocArrayIter}
use Rattle.tv_heap.specs.declared.value.CompactDocObjectIter.{CompactDocObjectIter}
use Rattle.tv_heap.specs.declared.value.CompactDocValue.{CompactDocValue}
use Rattle.tv_value.specs.Children.{Child, children_left}
use Rattle.tv_value.specs.declared.children.Children.{Children}

-- the value's tree
abbrev pub tree_of : CompactDocValue → Tree
tree_of value = value.held.0

-- a list of which some children are left, and these
abbrev pub HeldList : Type 0
HeldList = Children CompactDocValue (Bor (List ℕ)) CompactDocArrayIter CompactDocObjectIter

abbrev pub held_children : HeldList → List Child
held_children = children_left (λ items. items.held.0) (λ members. members.held.0)
