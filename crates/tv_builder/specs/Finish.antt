-- What is left of a value that comes part by part where it is dropped, or becomes that of a pair.
use Rattle.std.specs.Prelude.{◌≡◌, ℕ, ◌<◌, ◌^◌, List, [], ◌∷◌, ◌++◌, length, take, Some, None, Bool, true}
use Rattle.std.specs.Prelude.{Result, OnOk, OnErr}
use Rattle.tv_builder.specs.declared.errors.BuildError.{BuildError}
use Rattle.tv_builder.specs.declared.errors.BuildError.TheVariants.{OutOfPlace, Memory}
use Rattle.tv_builder.specs.declared.building.Building.{Building}
use Rattle.tv_heap.specs.declared.value_type.Place.{Place}
use Rattle.tv_builder.specs.declared.heap_pairs.HeapPair.{HeapPair}
use Rattle.tv_builder.specs.Holds.{Holds, Holds-prop, pair_at}

-- the finished pairs stand at the start of the heap that is kept
abbrev pub HoldsPrefix : List ℕ → ℕ → List HeapPair → Type 0
HoldsPrefix heap kept ps = Holds (take kept heap) ps

pub HoldsPrefix-prop : (heap : List ℕ) (kept : ℕ) (ps : List HeapPair) → IsProp (HoldsPrefix heap kept ps)
HoldsPrefix-prop heap kept ps = Holds-prop (take kept heap) ps

-- nothing stands after this heap
pub record Empty (heap : List ℕ) (building : Building) : Type 0 where
  pub heap_is : building.heap.items ≡ heap
  pub places : building.places.items ≡ []
  pub pending : building.pending ≡ 0
  pub frames : building.frames.items ≡ []
  pub complete : building.complete ≡ None
  pub closed : building.open ≡ None

-- After a refusal what isn't finished is dropped, and that is marked; else nothing changes.
pub record Settled (old new : Building) (kept : ℕ) (failed failed_new : Bool)
    (answer : Result (Unit {0}) BuildError) : Type 0 where
  pub ok : OnOk answer (new ≡ old)
  pub not_failed : OnOk answer (failed_new ≡ failed)
  pub err : OnErr answer (Empty (take kept old.heap.items) new)
  pub marked : OnErr answer (failed_new ≡ true)

-- the complete value became that of a pair
pub record Kept (old new : Building) (ps qs : List HeapPair) (kept field : ℕ) : Type 0 where
  pub at : Place
  pub is : old.complete ≡ Some at
  pub fits : field < 2 ^ 32
  pub pairs : qs ≡ ps ++ pair_at field at ∷ []
  pub kept_is : kept ≡ length old.heap.items
  pub rest : new ≡ record old { complete = None }

-- why there is no pair
abbrev pub WhyNoPair : Building → BuildError → Type 0
WhyNoPair old OutOfPlace = old.complete ≡ None
WhyNoPair old Memory = ¬ (old.complete ≡ None)
WhyNoPair old _ = ⊥

pub record KeptNot (old new : Building) (ps qs : List HeapPair) (kept kept_new : ℕ)
    (error : BuildError) : Type 0 where
  pub unchanged : new ≡ old
  pub pairs : qs ≡ ps
  pub kept_same : kept_new ≡ kept
  pub why : WhyNoPair old error
