-- What a part that has come does to what is read.
use Rattle.std.specs.Prelude.{false, ◌≡◌, ℕ, ◌+◌, ◌<◌, List, [], ◌∷◌, ◌++◌, length, Option, Some, Result, Ok}
use Rattle.std.specs.Prelude.{Err, IsUtf8}
use Rattle.tv_base.specs.declared.cause.Cause.{Cause}
use Rattle.tv_base.specs.declared.cause.Cause.TheVariants as causes
use Rattle.tv_builder.specs.Behind.{open_parts}
use Rattle.tv_builder.specs.Kinds.{IsTextKind}
use Rattle.tv_builder.specs.Parts.{Part, Trades, value, array_head, object_head, bytes_head}
use Rattle.tv_builder.specs.State.{State, complete, in_lists, in_bytes, IsState, awaited, state_room}
use Rattle.tv_builder.specs.declared.kinds.Awaits.{Awaits}
use Rattle.tv_builder.specs.declared.kinds.BytesKind.{BytesKind}
use Rattle.tv_builder.specs.declared.kinds.BytesKind.TheVariants as kinds
use Rattle.tv_builder.specs.Builder.{built, state_of, HasAllBytes, HasContent}
use Rattle.tv_heap.specs.Room.{document_room}
use Rattle.tv_reader.specs.Heads.{HeadPart, leaf_head, length_head, array_head as array_number}
use Rattle.tv_reader.specs.Heads.{object_head as object_number, tokenized_head, legacy_head}
use Rattle.tv_reader.specs.declared.error.DeserializeError.{DeserializeError}
use Rattle.tv_reader.specs.declared.error.DeserializeError.TheVariants as errors
use Rattle.tv_format.specs.Tree.{Document, leaf}
use Rattle.tv_format.specs.declared.leaf_type.LeafType.{LeafType}
use Rattle.tv_format.specs.declared.leaf_type.LeafType.TheVariants as leaves
use Rattle.tv_reading.specs.Kept.{Grows}
use Rattle.tv_reading.specs.Prefix.{parts_read, IsSound, HasField}
use Rattle.tv_reading.specs.declared.reading.Reading.{Reading}

-- ---- before what is finished is closed

abbrev pub MayStand : State → Type 0
MayStand (complete tree) = Unit {0}
MayStand (in_lists ls) = Unit {0}
MayStand (in_bytes ls kind number bs) = length bs < number

abbrev pub IsWithinPair : Option ℕ → Document → Option ℕ → State → Type 0
IsWithinPair (Some announced) finished (Some number) state = (length finished < announced) × MayStand state
IsWithinPair _ finished number state = ⊥

-- within a pair
pub record IsOpen (reading : Reading) : Type 0 where
  pub not_failed : reading.builder.failed ≡ false
  pub counted : reading.finished ≡ length (built reading.builder)
  pub within : IsWithinPair reading.announced (built reading.builder) reading.field (state_of reading.builder)

abbrev pub IsEnding : Option ℕ → Document → Option ℕ → State → Type 0
IsEnding (Some announced) finished (Some number) state = (length finished < announced) × HasAllBytes state
IsEnding _ finished number state = ⊥

-- within a pair, and all open bytes have come
pub record AtEnd (reading : Reading) : Type 0 where
  pub not_failed : reading.builder.failed ≡ false
  pub counted : reading.finished ≡ length (built reading.builder)
  pub ending : IsEnding reading.announced (built reading.builder) reading.field (state_of reading.builder)

-- within a pair this comes next
pub record Awaiting (reading : Reading) (what : Awaits) : Type 0 where
  pub sound : IsSound reading
  pub field : HasField reading.field
  pub next : awaited (state_of reading.builder) ≡ what

-- ---- what a call leaves

-- Whatever encodes what had come, with the part after it, encodes what has come now.
pub record PartsPut (old new : Reading) (ps : List Part) : Type 0 where
  pub sound : IsSound new
  pub grows : Grows old new
  pub trades : Trades (parts_read old ++ ps) (parts_read new)

-- it encodes what has no room
pub record LacksRoom (old : Reading) (ps : List Part) : Type 0 where
  pub announced : ℕ
  pub finished : Document
  pub field : ℕ
  pub state : State
  pub less : length finished < announced
  pub is : IsState state
  pub trades : Trades (parts_read old ++ ps) (open_parts announced finished field state)
  pub no_room : 4294967295 < document_room finished + state_room state

abbrev pub PutsParts : Reading → Reading → List Part → Result (Unit {0}) DeserializeError → Type 0
PutsParts old new ps (Ok done) = PartsPut old new ps
PutsParts old new ps (Err errors.HeapFull) = LacksRoom old ps
PutsParts old new ps (Err errors.Memory) = Unit {0}
PutsParts old new ps (Err _) = ⊥

-- they are no text
abbrev pub NoContent : Cause → State → Type 0
NoContent causes.NotUtf8 state = ¬ HasContent state
NoContent _ state = ⊥

-- the same where open bytes end
abbrev pub PutsEnd : Reading → Reading → Result (Unit {0}) DeserializeError → Type 0
PutsEnd old new (Ok done) = PartsPut old new []
PutsEnd old new (Err errors.HeapFull) = LacksRoom old []
PutsEnd old new (Err errors.Memory) = Unit {0}
PutsEnd old new (Err (errors.CorruptedValue cause)) = NoContent cause (state_of old.builder)
PutsEnd old new (Err _) = ⊥

-- open bytes have all come with these, and are no text
abbrev pub EndNoText : State → List ℕ → Type 0
EndNoText (in_bytes ls kind number bs) more = IsTextKind kind × (length bs + length more ≡ number)
    × ¬ IsUtf8 (bs ++ more)
EndNoText _ more = ⊥

abbrev pub NoText : Cause → State → List ℕ → Type 0
NoText causes.NotUtf8 state more = EndNoText state more
NoText _ state more = ⊥

-- the same of bytes, which may be no text
abbrev pub PutsBytes : Reading → Reading → List ℕ → List Part → Result (Unit {0}) DeserializeError → Type 0
PutsBytes old new more ps (Ok done) = PartsPut old new ps
PutsBytes old new more ps (Err errors.HeapFull) = LacksRoom old ps
PutsBytes old new more ps (Err errors.Memory) = Unit {0}
PutsBytes old new more ps (Err (errors.CorruptedValue cause)) = NoText cause (state_of old.builder) more
PutsBytes old new more ps (Err _) = ⊥

-- all but codes alone
abbrev pub IsParts : HeadPart → Type 0
IsParts tokenized_head = ⊥
IsParts legacy_head = ⊥
IsParts _ = Unit {0}

-- what a text, a facet or bytes are while they are read
abbrev pub bytes_kind : LeafType → BytesKind
bytes_kind leaves.Facet = kinds.Facet
bytes_kind leaves.Bytes = kinds.Bytes
bytes_kind _ = kinds.Str

-- what is taken of a value at once, as parts
abbrev pub head_parts : HeadPart → List Part
head_parts (leaf_head content) = value (leaf content) ∷ []
head_parts (length_head kind announced) = bytes_head (bytes_kind kind) announced ∷ []
head_parts (array_number announced) = array_head announced ∷ []
head_parts (object_number announced) = object_head announced ∷ []
head_parts tokenized_head = []
head_parts legacy_head = []
