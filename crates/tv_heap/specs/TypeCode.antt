-- The types of values in a heap, and their bytes.
use Rattle.std.specs.Prelude.{ℕ, Option, Some, None}
use Rattle.tv_format.specs.declared.leaf_type.LeafType.{LeafType}
use Rattle.tv_format.specs.declared.leaf_type.LeafType.TheVariants as leaves
use Rattle.tv_heap.specs.declared.value_type.ValueType.{ValueType}
use Rattle.tv_heap.specs.declared.value_type.ValueType.TheVariants as types

abbrev pub type_code : ValueType → ℕ
type_code types.Null = 0
type_code types.Str = 1
type_code types.U64 = 2
type_code types.I64 = 3
type_code types.Date = 5
type_code types.Facet = 6
type_code types.Bytes = 7
type_code types.IpAddr = 8
type_code types.Bool = 9
type_code types.PreTokStr = 10
type_code types.Object = 11
type_code types.Array = 12

-- the type in a heap of the values without children of this type
abbrev pub leaf_heap_type : LeafType → ValueType
leaf_heap_type leaves.Null = types.Null
leaf_heap_type leaves.Str = types.Str
leaf_heap_type leaves.U64 = types.U64
leaf_heap_type leaves.I64 = types.I64
leaf_heap_type leaves.Date = types.Date
leaf_heap_type leaves.Facet = types.Facet
leaf_heap_type leaves.Bytes = types.Bytes
leaf_heap_type leaves.IpAddr = types.IpAddr
leaf_heap_type leaves.Bool = types.Bool
leaf_heap_type leaves.PreTokStr = types.PreTokStr

-- the type of values without children that has this type in a heap
abbrev pub leaf_type_of : ValueType → Option LeafType
leaf_type_of types.Null = Some leaves.Null
leaf_type_of types.Str = Some leaves.Str
leaf_type_of types.U64 = Some leaves.U64
leaf_type_of types.I64 = Some leaves.I64
leaf_type_of types.Date = Some leaves.Date
leaf_type_of types.Facet = Some leaves.Facet
leaf_type_of types.Bytes = Some leaves.Bytes
leaf_type_of types.IpAddr = Some leaves.IpAddr
leaf_type_of types.Bool = Some leaves.Bool
leaf_type_of types.PreTokStr = Some leaves.PreTokStr
leaf_type_of types.Object = None
leaf_type_of types.Array = None
