-- Bytes that are no type.
use Rattle.std.specs.Prelude.{◌≡◌, ◌≢◌, ℕ, List, ◌∷◌}
use Rattle.tv_base.specs.declared.cause.Cause.{Cause}
use Rattle.tv_base.specs.declared.cause.Cause.TheVariants.{UnknownTypeCode}
use Rattle.tv_base.specs.ErrorInPart.{ErrorInBytes}
use Rattle.tv_heap.specs.declared.value_type.ValueType.{ValueType}
use Rattle.tv_heap.specs.TypeCode.{type_code}

-- there is no byte, or it is the byte of no type
pub data ErrorInType (whole : List ℕ) : Cause → Type 0 where
  no_byte : {c : Cause} → ErrorInBytes 1 whole c → ErrorInType whole c
  no_type : (b : ℕ) (rest : List ℕ) → whole ≡ b ∷ rest → ((t : ValueType) → type_code t ≢ b)
      → ErrorInType whole (UnknownTypeCode b)
