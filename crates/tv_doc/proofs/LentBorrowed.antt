-- What a borrowed JSON value is lent as, child by child.
use Rattle.std.proofs.Common.{◌≡◌, ℕ, List, [], ◌∷◌, map, Bor, Vec, Global, refl, sym, ap, ◌∙◌}
use Rattle.tv_json.specs.BorrowedData.{data_of, items_data, members_data}
use Rattle.tv_json.specs.declared.value.BorrowedJson as borrowed
use Rattle.tv_json.specs.declared.value.BorrowedJson.{BorrowedJson}
use Rattle.tv_json.proofs.Levels.{data_of-Array, data_of-Object}
use Rattle.tv_value.specs.JsonTree.{whole_tree, whole_elements, whole_entries}
use Rattle.tv_format.specs.Tree.{Tree, array, object, elements, element, entries, entry}

-- the tree of a JSON value
abbrev pub json_tree_of : BorrowedJson → Tree
json_tree_of v = whole_tree (data_of v)

-- the keys of an object, and the trees of their values
abbrev pub json_entries : List (Bor (List ℕ) × BorrowedJson) → List (List ℕ × Tree)
json_entries = map (λ m. (m.0.now, json_tree_of m.1))

elements_are : (items : List BorrowedJson) → elements (map json_tree_of items) ≡ whole_elements (items_data items)
elements_are [] = refl
elements_are (v ∷ vs) = ap (element (json_tree_of v)) (elements_are vs)

entries_are : (members : List (Bor (List ℕ) × BorrowedJson)) → entries (json_entries members) ≡ whole_entries (members_data members)
entries_are [] = refl
entries_are (m ∷ ms) = ap (entry m.0.now (json_tree_of m.1)) (entries_are ms)

pub lent_array : (items : Vec BorrowedJson Global) → array (elements (map json_tree_of items.items)) ≡ json_tree_of (borrowed.Array items)
lent_array items = ap array (elements_are items.items) ∙ ap whole_tree (sym (data_of-Array items))

pub lent_object : (members : Vec (Bor (List ℕ) × BorrowedJson) Global) → object (entries (json_entries members.items)) ≡ json_tree_of (borrowed.Object members)
lent_object members = ap object (entries_are members.items) ∙ ap whole_tree (sym (data_of-Object members))
