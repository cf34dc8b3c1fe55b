-- The children of lists in the order in which they are written, and what writing one of them leaves.
use Rattle.std.specs.Prelude.{◌≡◌, ℕ, List, [], ◌∷◌, ◌++◌, map, Option, Some, None}
use Rattle.tv_format.specs.Tree.{Tree, leaf, text, array, object}
use Rattle.tv_heap.specs.declared.value_type.Place.{Place}
use Rattle.tv_value.specs.Children.{Child, with_key}
use Rattle.tv_builder.specs.declared.errors.AddError.{AddError}
use Rattle.tv_builder.specs.declared.kinds.ListKind.{ListKind}
use Rattle.tv_builder.specs.declared.kinds.ListKind.TheVariants as lists
use Rattle.tv_builder.specs.Given.{place_bytes}
use Rattle.tv_builder.specs.Whole.{Put, PutNot}

-- a key, as a text, comes before its value
abbrev pub key_then : Option (List ℕ) → List Tree → List Tree
key_then None trees = trees
key_then (Some k) trees = leaf (text k) ∷ trees

abbrev pub flat : List Child → List Tree
flat [] = []
flat (child ∷ children) = key_then child.0 (child.1 ∷ flat children)

abbrev pub flat_entries : List (List ℕ × Tree) → List Tree
flat_entries es = flat (map with_key es)

-- the tree is a list of this kind
abbrev pub IsOfKind : ListKind → Tree → Type 0
IsOfKind lists.Array (array ts) = Unit {0}
IsOfKind lists.Object (object es) = Unit {0}
IsOfKind _ _ = ⊥

-- A child is written at the end of a heap, and its place after others.
abbrev pub ChildPut : ℕ → List ℕ → List ℕ → Tree → List ℕ → List ℕ → Type 0
ChildPut most old before tree new left = (p : Place) × Put most old tree new p
    × (left ≡ before ++ place_bytes p)

-- a key, if there is one
abbrev pub KeyPut : ℕ → List ℕ → List ℕ → Option (List ℕ) → List ℕ → List ℕ → Type 0
KeyPut most old before None new left = (new ≡ old) × (left ≡ before)
KeyPut most old before (Some k) new left = ChildPut most old before (leaf (text k)) new left

abbrev pub KeyNotPut : ℕ → List ℕ → Option (List ℕ) → List ℕ → AddError → Type 0
KeyNotPut most old None new error = ⊥
KeyNotPut most old (Some k) new error = PutNot most old (leaf (text k)) new error
