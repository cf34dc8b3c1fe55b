-- How many bytes of heap a value may take, by what is written of it.
use Rattle.std.specs.Prelude.{ℕ, ◌+◌, length}
use Rattle.std.specs.List.{sum_by}
use Rattle.tv_base.specs.Parts.{short_sized}
use Rattle.tv_heap.specs.LeafBytes.{leaf_bytes}
use Rattle.tv_format.specs.Tree.{Tree, leaf, array, object, Elements, no_elements, element, Entries}
use Rattle.tv_format.specs.Tree.{no_entries, entry, Document}

-- A leaf and a key take the bytes that are written of them, a list 5 for its length and 6 for each child.
abbrev mutual
  pub tree_weight : Tree → ℕ
  tree_weight (leaf l) = length (leaf_bytes l)
  tree_weight (array ts) = 5 + elements_weight ts
  tree_weight (object es) = 5 + entries_weight es

  pub elements_weight : Elements → ℕ
  elements_weight no_elements = 0
  elements_weight (element t ts) = 6 + tree_weight t + elements_weight ts

  pub entries_weight : Entries → ℕ
  entries_weight no_entries = 0
  entries_weight (entry k t es) = 12 + length (short_sized k) + tree_weight t + entries_weight es

-- of all values of a document
abbrev pub document_weight : Document → ℕ
document_weight document = sum_by (λ pair. tree_weight pair.1) document
