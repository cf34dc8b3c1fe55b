-- The room of children, those of an object with their keys, for private clauses.
use Rattle.std.specs.Prelude.{ℕ, ◌+◌, List, [], ◌∷◌, length, Option, Some, None}
use Rattle.tv_heap.specs.Room.{room}
use Rattle.tv_value.specs.Children.{Child}

abbrev pub key_room : Option (List ℕ) → ℕ
key_room None = 0
key_room (Some key) = 11 + length key

abbrev pub children_room : List Child → ℕ
children_room [] = 0
children_room (child ∷ children) = 6 + key_room child.0 + room child.1 + children_room children
