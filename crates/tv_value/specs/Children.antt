-- The children of lists in one form: those of an object have keys.
use Rattle.std.specs.Prelude.{◌≡◌, ℕ, suc, ◌+◌, List, [], ◌∷◌, map, Option, Some, None, option_map}
use Rattle.std.specs.List.{AllByRecursion}
use Rattle.tv_format.specs.Size.{size}
use Rattle.tv_format.specs.Tree.{Tree, leaf, array, object, element_list, entry_list}
use Rattle.tv_value.specs.Nesting.{NestsWithin}
use Rattle.tv_value.specs.declared.children.Children.{Children}
use Rattle.tv_value.specs.declared.children.Children.TheVariants as list

abbrev pub Child : Type 0
Child = Option (List ℕ) × Tree

-- of an array, and of an object
abbrev pub without_key : Tree → Child
without_key tree = (None, tree)

abbrev pub with_key : List ℕ × Tree → Child
with_key entry = (Some entry.0, entry.1)

-- those that are left of a list
abbrev pub children_left : {N K A O : Type 0} → (A → List Tree) → (O → List (List ℕ × Tree))
    → Children N K A O → List Child
children_left items members (list.Array it) = map without_key (items it)
children_left items members (list.Object it) = map with_key (members it)

-- a child that is returned
abbrev pub child_seen : {K N : Type 0} → (K → List ℕ) → (N → Tree) → Option K × N → Child
child_seen key tree child = (option_map key child.0, tree child.1)

-- the tree is a list, and these are its children
abbrev pub IsListOf : List Child → Tree → Type 0
IsListOf children (leaf l) = ⊥
IsListOf children (array ts) = children ≡ map without_key (element_list ts)
IsListOf children (object es) = children ≡ map with_key (entry_list es)

-- how many leaves and lists they are and have in them, and one more for each
abbrev pub children_size : List Child → ℕ
children_size [] = 0
children_size (child ∷ children) = suc (size child.1 + children_size children)

-- each nests within this many lists
abbrev pub ChildrenNestWithin : ℕ → List Child → Type 0
ChildrenNestWithin n = AllByRecursion (λ child. NestsWithin n child.1)
