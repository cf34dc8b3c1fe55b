-- The room of a list by that of its children.
use Rattle.std.proofs.Common.{◌≡◌, ℕ, ◌+◌, List, ◌∷◌, map, refl, sym, ◌∙◌, ap, arith}
use Rattle.std.proofs.lemmas.List.Sums.{sum_by-cons}
use Rattle.tv_format.specs.Tree.{Document, Tree, leaf, array, object, Elements, no_elements, element, Entries, no_entries, entry, element_list, entry_list}
use Rattle.tv_heap.specs.ChildrenRoom.{children_room}
use Rattle.tv_heap.specs.Room.{room, elements_room, entries_room, document_room}
use Rattle.tv_value.specs.Children.{Child, IsListOf, without_key, with_key}

elements_rooms : (ts : Elements) → elements_room ts ≡ children_room (map without_key (element_list ts))
elements_rooms no_elements = refl
elements_rooms (element t ts) = omega (arith, elements_rooms ts)

entries_rooms : (es : Entries) → entries_room es ≡ children_room (map with_key (entry_list es))
entries_rooms no_entries = refl
entries_rooms (entry k t es) = omega (arith, entries_rooms es)

pub list_room : (cs : List Child) (t : Tree) → IsListOf cs t → room t ≡ 5 + children_room cs
list_room cs (leaf l) is = absurd is
list_room cs (array ts) is = ap (λ z. 5 + z) (elements_rooms ts ∙ ap children_room (sym is))
list_room cs (object es) is = ap (λ z. 5 + z) (entries_rooms es ∙ ap children_room (sym is))

pub document_room-cons : (pair : ℕ × Tree) (d : Document) → document_room (pair ∷ d) ≡ room pair.1 + document_room d
document_room-cons pair d = sum_by-cons (λ (p : ℕ × Tree). room p.1) pair d
