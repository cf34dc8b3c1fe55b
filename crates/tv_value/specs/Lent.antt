-- The trees of values that are lent, as a leaf or as an iterator over their children, and of those that are
-- owned.
use Rattle.std.specs.Prelude.{ℕ, List, map, string_bytes, String}
use Rattle.std.specs.Borrow.{Bor}
use Rattle.std.specs.Net.Addr.{ipv6_bits}
use Rattle.std.specs.declared.alloc.Global.{Global}
use Rattle.tv_value.specs.HeldTokens.{token_of}
use Rattle.tv_format.specs.Tree.{Leaf, null, text, unsigned, signed, boolean, date, facet, bytes, ip_address}
use Rattle.tv_format.specs.Tree.{tokenized, Tree, leaf, array, object, elements, entries}
use Rattle.tv_value.specs.PreTokenized.{tokenized_leaf}
use Rattle.tv_value.specs.declared.leaf.ReferenceValueLeaf.{ReferenceValueLeaf}
use Rattle.tv_value.specs.declared.leaf.ReferenceValueLeaf.TheVariants as lent
use Rattle.tv_value.specs.declared.value.ReferenceValue.{ReferenceValue}
use Rattle.tv_value.specs.declared.value.ReferenceValue.TheVariants as shown
use Rattle.tv_value.specs.declared.nested.NestedValue.{NestedValue}
use Rattle.tv_value.specs.declared.nested.NestedValue.TheVariants as nested
use Rattle.tv_value.specs.declared.owned_value.OwnedValue.TheOpen.{OwnedValue-F}

-- a key, and what stands beside it
abbrev pub key_and : {T : Type 0} → String Global × T → List ℕ × T
key_and e = (string_bytes e.0, e.1)

-- the leaf that is lent
abbrev pub leaf_of : ReferenceValueLeaf → Leaf
leaf_of lent.Null = null
leaf_of (lent.Str t) = text t.now
leaf_of (lent.U64 n) = unsigned n
leaf_of (lent.I64 z) = signed z
leaf_of (lent.Date d) = date d.nanoseconds
leaf_of (lent.Facet t) = facet t.now
leaf_of (lent.Bytes bs) = bytes bs.now
leaf_of (lent.IpAddr a) = ip_address (ipv6_bits a)
leaf_of (lent.Bool b) = boolean b
leaf_of (lent.PreTokStr t) = tokenized_leaf t

-- the tree that is owned, one level of it, with each value inside already seen as its tree
abbrev pub tree_step : OwnedValue-F Tree → Tree
tree_step OwnedValue-F.Null = leaf null
tree_step (OwnedValue-F.Str t) = leaf (text (string_bytes t))
tree_step (OwnedValue-F.PreTokStr t) = leaf (tokenized (string_bytes t.text) (map token_of t.tokens.items))
tree_step (OwnedValue-F.U64 n) = leaf (unsigned n)
tree_step (OwnedValue-F.I64 z) = leaf (signed z)
tree_step (OwnedValue-F.Bool b) = leaf (boolean b)
tree_step (OwnedValue-F.Date d) = leaf (date d.nanoseconds)
tree_step (OwnedValue-F.Facet f) = leaf (facet f)
tree_step (OwnedValue-F.Bytes v) = leaf (bytes v.items)
tree_step (OwnedValue-F.IpAddr a) = leaf (ip_address (ipv6_bits a))
tree_step (OwnedValue-F.Array v) = array (elements v.items)
tree_step (OwnedValue-F.Object v) = object (entries (map key_and v.items))

-- the tree of what is lent, from the children that its iterators have left
abbrev pub tree_of : {V A O : Type 0} → (A → List Tree) → (O → List (List ℕ × Tree)) → ReferenceValue V A O
    → Tree
tree_of items members (shown.Leaf l) = leaf (leaf_of l)
tree_of items members (shown.Array it) = array (elements (items it))
tree_of items members (shown.Object it) = object (entries (members it))

-- the same of a value that is lent without its lifetime
abbrev pub nested_tree : {N K A O : Type 0} → (A → List Tree) → (O → List (List ℕ × Tree))
    → NestedValue N K A O → Tree
nested_tree items members (nested.Leaf l) = leaf (leaf_of l)
nested_tree items members (nested.Array it) = array (elements (items it))
nested_tree items members (nested.Object it) = object (entries (members it))

-- a key that is lent, and the tree of the value beside it
abbrev pub entry_of : {V : Type 0} → (V → Tree) → Bor (List ℕ) × V → List ℕ × Tree
entry_of tree e = (e.0.now, tree e.1)

-- the same of any key with a text
abbrev pub nested_entry : {K N : Type 0} → (K → List ℕ) → (N → Tree) → K × N → List ℕ × Tree
nested_entry key tree e = (key e.0, tree e.1)
