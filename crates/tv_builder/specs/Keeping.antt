-- The last step of an addition: the pair of a field and a value that stands at the end of a heap is kept.
use Rattle.std.specs.Prelude.{◌≡◌, ℕ, List, [], ◌∷◌, ◌++◌, take, Result, Ok, Err}
use Rattle.tv_heap.specs.declared.value_type.Place.{Place}
use Rattle.tv_builder.specs.Holds.{pair_at}
use Rattle.tv_builder.specs.declared.errors.AddError.{AddError}
use Rattle.tv_builder.specs.declared.errors.AddError.TheVariants.{Memory}
use Rattle.tv_builder.specs.declared.heap_pairs.HeapPair.{HeapPair}

-- the new pair is after the old ones, and the heap is as it was
pub record PairKept (mid new : List ℕ) (ps qs : List HeapPair) (field : ℕ) (place : Place) : Type 0 where
  pub pairs : qs ≡ ps ++ pair_at field place ∷ []
  pub heap : new ≡ mid

-- memory was refused, and the heap is cut back
pub record PairCut (mid new : List ℕ) (ps qs : List HeapPair) (len : ℕ) (error : AddError) : Type 0 where
  pub memory : error ≡ Memory
  pub pairs : qs ≡ ps
  pub heap : new ≡ take len mid

abbrev pub KeepsPair : {T : Type 0} → List ℕ → List ℕ → List HeapPair → List HeapPair → ℕ → ℕ → Place
    → Result T AddError → Type 0
KeepsPair mid new ps qs len field place (Ok x) = PairKept mid new ps qs field place
KeepsPair mid new ps qs len field place (Err e) = PairCut mid new ps qs len e
