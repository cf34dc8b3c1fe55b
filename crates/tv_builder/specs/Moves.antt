-- What a call on a building leaves.
use Rattle.std.specs.Prelude.{◌≡◌, ◌↔◌, IsTrue, Bool, false, ℕ, ◌+◌, ◌-◌, ◌<◌, ◌≤◌, List, length, drop}
use Rattle.std.specs.Prelude.{Option, Some, None, Result, Ok, Err}
use Rattle.tv_base.specs.Sink.{IsPrefix}
use Rattle.tv_builder.specs.declared.errors.BuildError.{BuildError}
use Rattle.tv_builder.specs.declared.errors.BuildError.TheVariants.{OutOfPlace, NotUtf8, HeapFull, Memory}
use Rattle.tv_builder.specs.declared.building.Building.{Building}
use Rattle.tv_heap.specs.declared.value_type.Place.{Place}
use Rattle.tv_builder.specs.Given.{Given, given, pending_in, AreCut}
use Rattle.tv_builder.specs.StateHeap.{full_length}
use Rattle.tv_builder.specs.Image.{ShowsBehind}
use Rattle.tv_builder.specs.Shows.{ShowsState, frames_of}
use Rattle.tv_builder.specs.State.{State, state_room}

-- ---- a finished value is handed to the lists

-- the heap, the places and the lists that a finished value leaves, whatever the heap's length
abbrev pub given_to : Building → Place → Given
given_to building place = given building.heap.items building.places.items (frames_of building) place

pub record CanGive (building : Building) : Type 0 where
  pub fits : length building.heap.items ≤ 4294967295
  pub counted : building.pending ≡ pending_in (frames_of building)
  pub cut : AreCut (frames_of building) building.places.items
  pub none : building.complete ≡ None

pub record GivesPlace (old : Building) (place : Place) (new : Building) : Type 0 where
  pub fits : length new.heap.items ≤ 4294967295
  pub heap : new.heap.items ≡ (given_to old place).heap
  pub places : new.places.items ≡ (given_to old place).places
  pub frames : frames_of new ≡ (given_to old place).frames
  pub complete : new.complete ≡ (given_to old place).complete
  pub same_bytes : new.open ≡ old.open
  pub counted : new.pending ≡ pending_in (frames_of new)

-- the heap would be too long, or memory was refused
abbrev pub WhyNot : List ℕ → BuildError → Type 0
WhyNot heap HeapFull = 4294967295 < length heap
WhyNot heap Memory = Unit {0}
WhyNot heap _ = ⊥

pub record GivesNot (old : Building) (place : Place) (new : Building) (error : BuildError) : Type 0 where
  pub prefix : IsPrefix old.heap.items new.heap.items
  pub why : WhyNot (given_to old place).heap error

-- ---- the calls

-- whether a value of this room, which is known where 32 bits hold it, ends at `most` at the latest after this
-- many bytes
abbrev pub FitsRoom : ℕ → Option ℕ → ℕ → Bool → Type 0
FitsRoom most None len b = b ≡ false
FitsRoom most (Some n) len b = IsTrue b ↔ (len + n ≤ most)

-- this holds of the state that is held
abbrev pub InState : Building → (State → Type 0) → Type 0
InState building P = (s : State) → ShowsState building s → P s

-- The state that was held becomes another.
pub record MovesState (old new : Building) (after : State → State) : Type 0 where
  pub grows : IsPrefix old.heap.items new.heap.items
  pub next : (base : List ℕ) (s : State) → ShowsBehind base old s → ShowsBehind base new (after s)

-- After this heap there is no room for a state: its bytes and those that it announces end above 4294967295,
-- and so does the room that it may
-- take.
pub record Over (base : List ℕ) (state : State) : Type 0 where
  pub bytes : 4294967295 < full_length base state
  pub room : 4294967295 < length base + state_room state

-- A call that belongs `here`, of bytes that end `well`. Memory is refused only where `fits` holds. After a
-- refusal what stood in the heap
-- still stands before it.
abbrev pub Does : Building → Building → Type 0 → Type 0 → Type 0 → (State → State)
    → Result (Unit {0}) BuildError → Type 0
Does old new here well fits after (Ok x) = here × well × MovesState old new after
Does old new here well fits after (Err OutOfPlace) = ¬ here × IsPrefix old.heap.items new.heap.items
Does old new here well fits after (Err NotUtf8) = here × ¬ well × IsPrefix old.heap.items new.heap.items
Does old new here well fits after (Err HeapFull) = here × well × IsPrefix old.heap.items new.heap.items
    × ((base : List ℕ) (s : State) → ShowsBehind base old s → Over base (after s))
Does old new here well fits after (Err Memory) = here × well × IsPrefix old.heap.items new.heap.items × fits
Does old new here well fits after (Err _) = ⊥

-- the last bytes of the heap
abbrev pub last_bytes : ℕ → List ℕ → List ℕ
last_bytes n heap = drop (length heap - n) heap
