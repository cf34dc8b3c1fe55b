-- The children of lists, as they are written.
use Rattle.std.specs.Prelude.{ℕ, ◌<◌, ◌^◌, List, [], ◌∷◌, ◌++◌, map, Option, Some, None}
use Rattle.std.specs.List.{AllByRecursion}
use Rattle.tv_base.specs.Number.{vnum}
use Rattle.tv_format.specs.Short.{short, short_key, IsLeaf, IsText, IsValue}
use Rattle.tv_format.specs.Tree.{Tree, leaf, array, object, element_count, entry_count, entry_list}
use Rattle.tv_format.specs.Version.{Version, entry_total}
use Rattle.tv_value.specs.Children.{Child, with_key}

-- how many a value has
abbrev pub child_count : Tree → ℕ
child_count (leaf l) = 0
child_count (array ts) = element_count ts
child_count (object es) = entry_count es

-- a value without children
abbrev pub IsSingle : Tree → Type 0
IsSingle (leaf l) = Unit {0}
IsSingle (array ts) = ⊥
IsSingle (object es) = ⊥

-- of a list what stands before its children, and of another value all
abbrev pub short_head : Version → Tree → List ℕ
short_head version (leaf l) = short version (leaf l)
short_head version (array ts) = 12 ∷ vnum (element_count ts)
short_head version (object es) = 13 ∷ vnum (entry_total version (entry_count es))

-- each in its shortest encoding, after its key, if it has one
abbrev pub short_key_of : Version → Option (List ℕ) → List ℕ
short_key_of version None = []
short_key_of version (Some key) = short_key version key

abbrev pub short_children : Version → List Child → List ℕ
short_children version [] = []
short_children version (child ∷ children) = short_key_of version child.0
    ++ (short version child.1 ++ short_children version children)

-- each value has an encoding
abbrev pub AreValues : List Child → Type 0
AreValues = AllByRecursion (λ child. IsValue child.1)

-- and each key
abbrev pub IsKey : Option (List ℕ) → Type 0
IsKey None = Unit {0}
IsKey (Some key) = IsText key

abbrev pub AreKeys : List Child → Type 0
AreKeys = AllByRecursion (λ child. IsKey child.0)

-- a value has an encoding where the values in it have one
abbrev pub HasHead : Tree → Type 0
HasHead (leaf l) = IsLeaf l
HasHead (array ts) = element_count ts < 2 ^ 63
HasHead (object es) = (entry_count es < 2 ^ 63) × AreKeys (map with_key (entry_list es))
