-- What is written of a value at the end of a heap, and where it stands then: its children in order, and after
-- them a list's own
-- bytes, which are their types and addresses.
use Rattle.std.specs.Prelude.{ℕ, List, [], ◌∷◌, ◌++◌, length}
use Rattle.tv_base.specs.Number.{vnum}
use Rattle.tv_base.specs.Parts.{short_sized}
use Rattle.tv_format.specs.Tree.{Leaf, Tree, leaf, array, object, Elements, no_elements, element, Entries}
use Rattle.tv_format.specs.Tree.{no_entries, entry, Document}
use Rattle.tv_heap.specs.LeafBytes.{leaf_bytes, leaf_value_type, leaf_address}
use Rattle.tv_heap.specs.declared.value_type.ValueType.TheVariants as types
use Rattle.tv_heap.specs.declared.value_type.Place.{Place}
use Rattle.tv_builder.specs.Given.{place_bytes}
use Rattle.tv_builder.specs.Holds.{pair_at}
use Rattle.tv_builder.specs.declared.heap_pairs.HeapPair.{HeapPair}

-- where a leaf stands that is written at the end of a heap of this length
abbrev pub leaf_place : ℕ → Leaf → Place
leaf_place len the_leaf = record {
  value_type = leaf_value_type the_leaf;
  address = leaf_address len the_leaf;
}

abbrev mutual
  -- the heap after the value
  pub tree_heap : List ℕ → Tree → List ℕ
  tree_heap heap (leaf l) = heap ++ leaf_bytes l
  tree_heap heap (array ts) = elements_heap heap ts ++ short_sized (elements_places heap ts)
  tree_heap heap (object es) = entries_heap heap es ++ short_sized (entries_places heap es)

  -- its place
  pub tree_place : List ℕ → Tree → Place
  tree_place heap (leaf l) = leaf_place (length heap) l
  tree_place heap (array ts) = record { value_type = types.Array; address = length (elements_heap heap ts) }
  tree_place heap (object es) = record { value_type = types.Object; address = length (entries_heap heap es) }

  -- the heap after the children, and their places
  pub elements_heap : List ℕ → Elements → List ℕ
  elements_heap heap no_elements = heap
  elements_heap heap (element t ts) = elements_heap (tree_heap heap t) ts

  pub elements_places : List ℕ → Elements → List ℕ
  elements_places heap no_elements = []
  elements_places heap (element t ts) = place_bytes (tree_place heap t)
      ++ elements_places (tree_heap heap t) ts

  -- of an entry the key, and then the value
  pub entries_heap : List ℕ → Entries → List ℕ
  entries_heap heap no_entries = heap
  entries_heap heap (entry k t es) = entries_heap (tree_heap (heap ++ short_sized k) t) es

  pub entries_places : List ℕ → Entries → List ℕ
  entries_places heap no_entries = []
  entries_places heap (entry k t es) = (1 ∷ vnum (length heap))
      ++ (place_bytes (tree_place (heap ++ short_sized k) t)
      ++ entries_places (tree_heap (heap ++ short_sized k) t) es)

-- the heap after the trees of pairs, one after the other
abbrev pub document_heap : List ℕ → Document → List ℕ
document_heap heap [] = heap
document_heap heap (pair ∷ d) = document_heap (tree_heap heap pair.1) d

-- their fields and places
abbrev pub document_pairs : List ℕ → Document → List HeapPair
document_pairs heap [] = []
document_pairs heap (pair ∷ d) = pair_at pair.0 (tree_place heap pair.1)
    ∷ document_pairs (tree_heap heap pair.1) d
