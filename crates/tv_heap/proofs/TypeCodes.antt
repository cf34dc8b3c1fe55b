-- The type bytes of values without children are those of their types.
use Rattle.std.proofs.Common.{◌≡◌, Some, refl, ap, sym, ◌∙◌}
use Rattle.tv_format.specs.Leaves.{heap_code}
use Rattle.tv_format.specs.declared.leaf_type.LeafType.{LeafType}
use Rattle.tv_format.specs.declared.leaf_type.LeafType.TheVariants as leaves
use Rattle.tv_heap.specs.TypeCode.{leaf_heap_type, leaf_type_of, type_code}
use Rattle.tv_heap.specs.declared.value_type.ValueType.{ValueType}
use Rattle.tv_heap.specs.declared.value_type.ValueType.TheVariants as types

pub leaf_code : (t : LeafType) → type_code (leaf_heap_type t) ≡ heap_code t
leaf_code leaves.Null = refl
leaf_code leaves.Str = refl
leaf_code leaves.U64 = refl
leaf_code leaves.I64 = refl
leaf_code leaves.Date = refl
leaf_code leaves.Facet = refl
leaf_code leaves.Bytes = refl
leaf_code leaves.IpAddr = refl
leaf_code leaves.Bool = refl
leaf_code leaves.PreTokStr = refl

leaf_of_code : (t : ValueType) (u : LeafType) → leaf_type_of t ≡ Some u → leaf_heap_type u ≡ t
leaf_of_code types.Null u is = let same : leaves.Null ≡ u = cc in ap leaf_heap_type (sym same)
leaf_of_code types.Str u is = let same : leaves.Str ≡ u = cc in ap leaf_heap_type (sym same)
leaf_of_code types.U64 u is = let same : leaves.U64 ≡ u = cc in ap leaf_heap_type (sym same)
leaf_of_code types.I64 u is = let same : leaves.I64 ≡ u = cc in ap leaf_heap_type (sym same)
leaf_of_code types.Date u is = let same : leaves.Date ≡ u = cc in ap leaf_heap_type (sym same)
leaf_of_code types.Facet u is = let same : leaves.Facet ≡ u = cc in ap leaf_heap_type (sym same)
leaf_of_code types.Bytes u is = let same : leaves.Bytes ≡ u = cc in ap leaf_heap_type (sym same)
leaf_of_code types.IpAddr u is = let same : leaves.IpAddr ≡ u = cc in ap leaf_heap_type (sym same)
leaf_of_code types.Bool u is = let same : leaves.Bool ≡ u = cc in ap leaf_heap_type (sym same)
leaf_of_code types.PreTokStr u is = let same : leaves.PreTokStr ≡ u = cc in ap leaf_heap_type (sym same)
leaf_of_code types.Object u is = absurd (cc)
leaf_of_code types.Array u is = absurd (cc)

-- what is a leaf's type in a heap has that leaf's type byte
pub leaf_type_code : (t : ValueType) (u : LeafType) → leaf_type_of t ≡ Some u → type_code t ≡ heap_code u
leaf_type_code t u is = ap type_code (sym (leaf_of_code t u is)) ∙ leaf_code u
