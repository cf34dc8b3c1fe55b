-- A test that two lists of children are one, those of objects with their keys.
use Rattle.std.specs.Prelude.{ℕ, List, [], ◌∷◌, Bool, true, false, ◌&&◌, Option, Some, None}
use Rattle.std.specs.Str.{bytes_eq}
use Rattle.tv_value.specs.Children.{Child}
use Rattle.tv_value.specs.Same.{tree_eq}

abbrev pub key_eq : Option (List ℕ) → Option (List ℕ) → Bool
key_eq None None = true
key_eq (Some key) (Some other) = bytes_eq key other
key_eq _ _ = false

abbrev pub child_eq : Child → Child → Bool
child_eq child other = key_eq child.0 other.0 && tree_eq child.1 other.1

abbrev pub children_eq : List Child → List Child → Bool
children_eq [] [] = true
children_eq (child ∷ children) (other ∷ others) = child_eq child other && children_eq children others
children_eq _ _ = false
