-- Kinds of lists and of bytes, and the types that they have in a heap.
use Rattle.std.specs.Prelude.{ℕ, ◌*◌}
use Rattle.tv_builder.specs.declared.kinds.BytesKind.{BytesKind}
use Rattle.tv_builder.specs.declared.kinds.BytesKind.TheVariants as kinds
use Rattle.tv_builder.specs.declared.kinds.ListKind.{ListKind}
use Rattle.tv_builder.specs.declared.kinds.ListKind.TheVariants as lists
use Rattle.tv_heap.specs.declared.value_type.ValueType.{ValueType}
use Rattle.tv_heap.specs.declared.value_type.ValueType.TheVariants as types

abbrev pub list_type : ListKind → ValueType
list_type lists.Array = types.Array
list_type lists.Object = types.Object

-- a key is a text
abbrev pub bytes_type : BytesKind → ValueType
bytes_type kinds.Str = types.Str
bytes_type kinds.Facet = types.Facet
bytes_type kinds.Bytes = types.Bytes
bytes_type kinds.Key = types.Str

abbrev pub IsTextKind : BytesKind → Type 0
IsTextKind kinds.Str = Unit {0}
IsTextKind kinds.Facet = Unit {0}
IsTextKind kinds.Bytes = ⊥
IsTextKind kinds.Key = Unit {0}

-- how many children a list has, keys among them, of which this many elements or entries are announced
abbrev pub total : ListKind → ℕ → ℕ
total lists.Array n = n
total lists.Object n = 2 * n
