-- What a finished value does to a heap, to the places of finished children and to the open lists, these from
-- the innermost.
use Rattle.std.specs.Prelude.{ℕ, suc, ◌+◌, ◌<◌, ◌≤◌, Bool, cond, nat_lt, List, [], ◌∷◌, ◌++◌, length, take}
use Rattle.std.specs.Prelude.{drop, Option, Some, None}
use Rattle.tv_base.specs.Number.{vnum}
use Rattle.tv_base.specs.Parts.{short_sized}
use Rattle.tv_heap.specs.TypeCode.{type_code}
use Rattle.tv_builder.specs.declared.building.Frame.{Frame}
use Rattle.tv_heap.specs.declared.value_type.Place.{Place}
use Rattle.tv_builder.specs.Kinds.{total, list_type}

-- how a place stands in its list's bytes
abbrev pub place_bytes : Place → List ℕ
place_bytes place = type_code place.value_type ∷ vnum place.address

abbrev pub lacks : Frame → Bool
lacks frame = nat_lt frame.finished (total frame.kind frame.announced)

-- with one child more it still lacks one
abbrev pub still_lacks : Frame → Bool
still_lacks frame = nat_lt (suc frame.finished) (total frame.kind frame.announced)

abbrev pub one_more : Frame → Frame
one_more frame = record {
  kind = frame.kind;
  announced = frame.announced;
  finished = frame.finished + 1;
  first = frame.first;
}

pub record Given : Type 0 where
  pub heap : List ℕ
  pub places : List ℕ
  pub frames : List Frame
  pub complete : Option Place

-- The value's place comes to those of the innermost list. A list that lacks nothing more is written at the
-- heap's end, and so is a
-- finished value itself.
abbrev pub given : List ℕ → List ℕ → List Frame → Place → Given
given heap places [] place = record { heap = heap; places = places; frames = []; complete = Some place }
given heap places (f ∷ fs) place =
    cond (still_lacks f)
    (record { heap = heap; places = places ++ place_bytes place; frames = one_more f ∷ fs; complete = None })
    (given (heap ++ short_sized (drop f.first (places ++ place_bytes place))) (take f.first places) fs
    (record { value_type = list_type f.kind; address = length heap }))

-- ---- what holds of open lists whatever they hold

-- The places of each list's children stand after those of the others, with a byte at least for each.
abbrev pub AreCut : List Frame → List ℕ → Type 0
AreCut [] places = Unit {0}
AreCut (f ∷ fs) places = (f.first ≤ length places) × (f.finished ≤ length (drop f.first places))
    × (f.finished < total f.kind f.announced) × AreCut fs (take f.first places)

-- how many finished children they have
abbrev pub pending_in : List Frame → ℕ
pending_in [] = 0
pending_in (f ∷ fs) = f.finished + pending_in fs
