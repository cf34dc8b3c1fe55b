-- Values as they stand in a heap, and what they hold.
use Rattle.std.specs.Prelude.{ℕ}
use Rattle.tv_format.specs.Tree.{array, object, elements, entries}
use Rattle.tv_heap.specs.declared.value.Encoded.{Encoded}
use Rattle.tv_heap.specs.declared.value.Encoded.TheVariants as held
use Rattle.tv_value.specs.Nesting.{NestsWithin}

-- a value without children
abbrev pub HoldsNoList : Encoded → Type 0
HoldsNoList (held.Array number items) = ⊥
HoldsNoList (held.Object number members) = ⊥
HoldsNoList _ = Unit {0}

-- how deep the children nest that a value holds
abbrev pub HeldNestsWithin : ℕ → Encoded → Type 0
HeldNestsWithin number (held.Array count items) = NestsWithin number (array (elements items.held.0))
HeldNestsWithin number (held.Object count members) = NestsWithin number (object (entries members.held.0))
HeldNestsWithin number _ = Unit {0}
