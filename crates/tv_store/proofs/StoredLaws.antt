-- What holds of the stored pairs where it holds of all.
use Rattle.std.proofs.Common.{ℕ, ◌+◌, ◌≤◌, Bool, true, false, cond, List, [], ◌∷◌, sym, ap, subst, arith}
use Rattle.std.specs.List.{AllByRecursion}
use Rattle.tv_heap.specs.Room.{room, document_room}
use Rattle.tv_heap.proofs.ListRooms.{document_room-cons}
use Rattle.tv_field.specs.Entry.{Entry}
use Rattle.tv_format.specs.Short.{IsLeaf, IsValue, IsPair, IsDocument}
use Rattle.tv_format.specs.Tree.{Leaf, tokenized, Tree, leaf, array, object, Document}
use Rattle.tv_store.specs.Stored.{stored, leaf_written, tree_written, is_stored_field}
use Rattle.tv_store.proofs.Stores.{stored-cons, stored_fewer}

leaf_valid : (l : Leaf) → IsLeaf l → IsLeaf (leaf_written l)
leaf_valid (tokenized t ts) h = h.0
leaf_valid _ h = h

tree_valid : (t : Tree) → IsValue t → IsValue (tree_written t)
tree_valid (leaf l) h = leaf_valid l h
tree_valid (array ts) h = h
tree_valid (object es) h = h

each_case : (b : Bool) (p : ℕ × Tree) (ps : Document) → IsPair p → AllByRecursion IsPair ps → AllByRecursion IsPair (cond b (p ∷ ps) ps)
each_case true p ps h k = (h, k)
each_case false p ps h k = k

each_valid : (schema : List Entry) (d : Document) → AllByRecursion IsPair d → AllByRecursion IsPair (stored schema d)
each_valid schema [] h = tt
each_valid schema (p ∷ d) h =
    subst (λ e. AllByRecursion IsPair e) (sym (stored-cons schema p d))
    (each_case (is_stored_field schema p.0) (p.0, tree_written p.1) (stored schema d) (record { field = h.0.field; value = tree_valid p.1 h.0.value }) (each_valid schema d h.1))

pub stored_valid : (schema : List Entry) (d : Document) → IsDocument d → IsDocument (stored schema d)
stored_valid schema d h = record { count = omega (arith, h.count, stored_fewer schema d); each = each_valid schema d h.each }

leaf_room_written : (l : Leaf) → room (leaf (leaf_written l)) ≤ room (leaf l)
leaf_room_written (tokenized t ts) = omega arith
leaf_room_written _ = omega arith

tree_room_written : (t : Tree) → room (tree_written t) ≤ room t
tree_room_written (leaf l) = leaf_room_written l
tree_room_written (array ts) = omega arith
tree_room_written (object es) = omega arith

room_case : (b : Bool) (p : ℕ × Tree) (ps : Document) → document_room (cond b (p ∷ ps) ps) ≤ room p.1 + document_room ps
room_case true p ps = omega (arith, document_room-cons p ps)
room_case false p ps = omega arith

pub stored_room : (schema : List Entry) (d : Document) → document_room (stored schema d) ≤ document_room d
stored_room schema [] = omega arith
stored_room schema (p ∷ d) =
    omega (arith, ap document_room (stored-cons schema p d), room_case (is_stored_field schema p.0) (p.0, tree_written p.1) (stored schema d), tree_room_written p.1, stored_room schema d, document_room-cons p d)
