-- What is decoded of a list of children.
use Rattle.std.specs.Prelude.{◌≡◌, ℕ, List, Option, Some, None}
use Rattle.std.specs.Borrow.{Bor}
use Rattle.tv_heap.specs.declared.value_type.ValueType.{ValueType}
use Rattle.tv_heap.specs.Reads.{Stands, ShortText}
use Rattle.tv_heap.specs.TypeCode.{type_code}

-- the type and the address of a child, and the list after it
abbrev pub GivesChild : Option (ValueType × ℕ × Bor (List ℕ)) → ℕ → ℕ → List ℕ → Type 0
GivesChild (Some r) code at rest = (type_code r.0 ≡ code) × (r.1 ≡ at) × (r.2.now ≡ rest)
GivesChild None code at rest = ⊥

-- some text stands at the address
abbrev pub HasText : List ℕ → ℕ → Type 0
HasText heap at = ∥ ((s : List ℕ) × Stands heap at (λ w. ShortText s w)) ∥₁
