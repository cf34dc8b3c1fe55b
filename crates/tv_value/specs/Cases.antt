-- What a value is: a leaf, an array or an object.
use Rattle.std.specs.Prelude.{Bool, false, Option, Some, None, option_and_then}
use Rattle.tv_format.specs.Leaves.{is_null}
use Rattle.tv_format.specs.Tree.{Leaf, Tree, leaf, array, object, Elements, Entries}

abbrev pub leaf_in : Tree → Option Leaf
leaf_in (leaf l) = Some l
leaf_in _ = None

abbrev pub elements_in : Tree → Option Elements
elements_in (array ts) = Some ts
elements_in _ = None

abbrev pub entries_in : Tree → Option Entries
entries_in (object es) = Some es
entries_in _ = None

-- whether it is the leaf that is no value
abbrev pub is_null_leaf : Tree → Bool
is_null_leaf (leaf l) = is_null l
is_null_leaf _ = false

-- what a leaf of some kind holds, where the tree is one
abbrev pub in_leaf : {A : Type 0} → (Leaf → Option A) → Tree → Option A
in_leaf held tree = option_and_then held (leaf_in tree)
