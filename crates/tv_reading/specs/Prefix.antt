-- What has come so far of a document that is read, and the bytes that encode it.
use Rattle.std.specs.Prelude.{false, ◌≡◌, ℕ, ◌+◌, ◌<◌, ◌≤◌, List, [], ◌++◌, length, Option, Some, None}
use Rattle.tv_builder.specs.Behind.{document_parts, open_parts}
use Rattle.tv_builder.specs.Prefix.{Encoded}
use Rattle.tv_builder.specs.Parts.{Part}
use Rattle.tv_builder.specs.State.{State, complete, in_lists, in_bytes, IsState, awaited, state_room}
use Rattle.tv_builder.specs.declared.kinds.Awaits.TheVariants as awaits
use Rattle.tv_builder.specs.Builder.{built, state_of}
use Rattle.tv_heap.specs.Room.{document_room}
use Rattle.tv_reader.specs.Legacy.{Legacy, ErrorInLegacy}
use Rattle.tv_format.specs.InputError.{Refusal, ErrorInDocument}
use Rattle.tv_format.specs.Tree.{Document}
use Rattle.tv_format.specs.Version.{Version}
use Rattle.tv_reading.specs.declared.reading.Reading.{Reading}

-- nothing; or the number of the pairs and the finished ones; or also the field of the next one, and what has
-- come of its value
abbrev pub parts_at : Option ℕ → Document → Option ℕ → State → List Part
parts_at None finished number state = []
parts_at (Some announced) finished None state = document_parts announced finished
parts_at (Some announced) finished (Some number) state = open_parts announced finished number state

abbrev pub parts_read : Reading → List Part
parts_read reading = parts_at reading.announced (built reading.builder) reading.field
    (state_of reading.builder)

-- ---- which states there are

-- between two parts: no value is complete, and open bytes lack some
abbrev pub IsBetweenParts : State → Type 0
IsBetweenParts (complete tree) = ⊥
IsBetweenParts (in_lists ls) = Unit {0}
IsBetweenParts (in_bytes ls kind announced bs) = length bs < announced

-- The number comes before all else, and a field only where a pair is awaited. Nothing of a value has come
-- without a field.
abbrev pub IsPlace : Option ℕ → Document → Option ℕ → State → Type 0
IsPlace None finished None state = (finished ≡ []) × (state ≡ in_lists [])
IsPlace None finished (Some number) state = ⊥
IsPlace (Some announced) finished None state = (length finished ≤ announced) × (state ≡ in_lists [])
IsPlace (Some announced) finished (Some number) state = (length finished < announced) × IsBetweenParts state

pub record IsSound (reading : Reading) : Type 0 where
  pub not_failed : reading.builder.failed ≡ false
  pub counted : reading.finished ≡ length (built reading.builder)
  pub place : IsPlace reading.announced (built reading.builder) reading.field (state_of reading.builder)

-- all announced pairs are finished
abbrev pub AllFinished : Option ℕ → ℕ → Type 0
AllFinished None finished = ⊥
AllFinished (Some announced) finished = finished ≡ announced

abbrev pub IsDone : Reading → Type 0
IsDone reading = AllFinished reading.announced reading.finished

-- one is awaited
abbrev pub LacksPair : Option ℕ → ℕ → Type 0
LacksPair None finished = ⊥
LacksPair (Some announced) finished = finished < announced

-- ---- why there is no more

-- After the bytes of which this has come, these ones are malformed.
abbrev pub IsMalformedNext : Version → Reading → List ℕ → Refusal → Type 0
IsMalformedNext version reading rest refusal = (bytes : List ℕ)
    → Encoded Legacy version bytes (parts_read reading)
    → ErrorInDocument Legacy ErrorInLegacy version (bytes ++ rest) refusal

-- A prefix of the bytes encodes what has come of a document, and what is announced and finished in it has no
-- room in a heap.
pub record HasNoRoom (version : Version) (whole : List ℕ) : Type 0 where
  pub announced : ℕ
  pub finished : Document
  pub field : ℕ
  pub state : State
  pub prefix : List ℕ
  pub rest : List ℕ
  pub joined : whole ≡ prefix ++ rest
  pub less : length finished < announced
  pub is : IsState state
  pub encoded : Encoded Legacy version prefix (open_parts announced finished field state)
  pub no_room : 4294967295 < document_room finished + state_room state

-- the same after the bytes of which this has come
abbrev pub NoRoomBehind : Version → Reading → List ℕ → Type 0
NoRoomBehind version reading rest = (bytes : List ℕ) → Encoded Legacy version bytes (parts_read reading)
    → HasNoRoom version (bytes ++ rest)

-- ---- what is awaited

abbrev pub HasField : Option ℕ → Type 0
HasField None = ⊥
HasField (Some number) = Unit {0}

abbrev pub ValueNext : Reading → Type 0
ValueNext reading = HasField reading.field × (awaited (state_of reading.builder) ≡ awaits.Value)
