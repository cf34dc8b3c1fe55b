-- Which pairs of a document are written.
use Rattle.std.specs.Prelude.{ℕ, Bool, false, List, map, filter, Option, Some, None, slice_get}
use Rattle.std.specs.List.{flat_map}
use Rattle.tv_format.specs.Version.{Version}
use Rattle.tv_format.specs.Short.{short_pair}
use Rattle.tv_field.specs.Entry.{Entry, is_stored_type}
use Rattle.tv_format.specs.Tree.{Tree, leaf, array, object, Leaf, text, tokenized, Document}

abbrev pub is_stored_entry : Option Entry → Bool
is_stored_entry None = false
is_stored_entry (Some entry) = is_stored_type entry.field_type

-- whether values of the field are kept in the document store
abbrev pub is_stored_field : List Entry → ℕ → Bool
is_stored_field schema field = is_stored_entry (slice_get schema field)

-- a pre-tokenised text is written as its text where it is a pair's value
abbrev pub leaf_written : Leaf → Leaf
leaf_written (tokenized content ts) = text content
leaf_written other = other

abbrev pub tree_written : Tree → Tree
tree_written (leaf held) = leaf (leaf_written held)
tree_written (array ts) = array ts
tree_written (object es) = object es

-- the pairs whose field is stored, in order
abbrev pub stored : List Entry → Document → Document
stored schema document = map (λ pair. (pair.0, tree_written pair.1))
    (filter (λ pair. is_stored_field schema pair.0) document)

-- the stored pairs, as they are written
abbrev pub written_pairs : Version → List Entry → Document → List ℕ
written_pairs version schema document = flat_map (short_pair version) (stored schema document)
