-- What is kept of the finished pairs, and of the heap in which they stand.
use Rattle.std.specs.Prelude.{◌⊎◌, ◌≡◌, ℕ, [], ◌∷◌, ◌++◌, length, take}
use Rattle.tv_base.specs.Sink.{IsPrefix}
use Rattle.tv_builder.specs.State.{in_lists}
use Rattle.tv_builder.specs.Builder.{built, state_of, heap_so_far}
use Rattle.tv_format.specs.Tree.{Tree}
use Rattle.tv_reading.specs.declared.reading.Reading.{Reading}

-- Where the finished pairs end in the heap: where they ended before, or at its end, where a pair more is
-- finished.
abbrev pub EndsPairs : Reading → Reading → Type 0
EndsPairs old new =
    ((built new.builder ≡ built old.builder) × (new.builder.kept ≡ old.builder.kept))
    ⊎ ((pair : ℕ × Tree) × (built new.builder ≡ built old.builder ++ pair ∷ [])
    × (new.builder.kept ≡ length (heap_so_far new.builder)))

-- the heap grows at its end
pub record Grows (old new : Reading) : Type 0 where
  pub heap : IsPrefix (heap_so_far old.builder) (heap_so_far new.builder)
  pub ends : EndsPairs old new

-- After a refusal what isn't finished was dropped, and the heap ends after the finished pairs.
pub record LetGo (old new : Reading) : Type 0 where
  pub document : built new.builder ≡ built old.builder
  pub kept : new.builder.kept ≡ old.builder.kept
  pub heap : heap_so_far new.builder ≡ take old.builder.kept (heap_so_far old.builder)
  pub state : state_of new.builder ≡ in_lists []

-- Or nothing has changed: the finished pairs stay in both cases.
abbrev pub KeepsPairs : Reading → Reading → Type 0
KeepsPairs old new = LetGo old new ⊎ (new ≡ old)
