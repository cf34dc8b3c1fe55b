-- The pairs of chosen fields, among those of a document.
use Rattle.std.specs.Prelude.{◌≡◌, ◌==◌, ℕ, ◌+◌, ◌<◌, Bool, true, List, ◌++◌, length, filter}
use Rattle.std.specs.Prelude.{Result, IsErrOf}
use Rattle.std.specs.List.{list_any}
use Rattle.tv_base.specs.declared.source.ByteSource.{Ghosts}
use Rattle.tv_builder.specs.Behind.{open_parts}
use Rattle.tv_builder.specs.Prefix.{Encoded}
use Rattle.tv_builder.specs.State.{State, IsState, state_room}
use Rattle.tv_builder.specs.HeldPairs.{document_of}
use Rattle.tv_builder.specs.declared.heap_pairs.HeapPairs.{HeapPairs}
use Rattle.tv_heap.specs.Room.{document_room}
use Rattle.tv_reader.specs.Finds.{Finds}
use Rattle.tv_reader.specs.Legacy.{Legacy}
use Rattle.tv_reader.specs.Version.{version_of}
use Rattle.tv_reader.specs.declared.error.DeserializeError.{DeserializeError}
use Rattle.tv_reader.specs.declared.error.DeserializeError.TheVariants.{HeapFull}
use Rattle.tv_reader.specs.declared.version.DocStoreVersion.{DocStoreVersion}
use Rattle.tv_reading.specs.Documents.{NoDocument}
use Rattle.tv_format.specs.Encoding.{EncodesDocument}
use Rattle.tv_format.specs.Tree.{Document}
use Rattle.tv_format.specs.Version.{Version}
use Rattle.tv_value.specs.declared.field.Field.{Field}

abbrev pub is_among : List Field → ℕ → Bool
is_among fields number = list_any (λ one. one.id == number) fields

-- the pairs whose field is among these, in order
abbrev pub chosen : List Field → Document → Document
chosen fields document = filter (λ pair. is_among fields pair.0) document

-- the bytes encode a document, of which the chosen pairs are these
abbrev pub EncodesChosen : Version → List Field → List ℕ → HeapPairs → Type 0
EncodesChosen version fields bytes pairs = (document : Document)
    × EncodesDocument Legacy version bytes document
    × (document_of pairs ≡ chosen fields document)

-- A prefix of the bytes encodes what has come of a document, up to the value of a chosen field, and that
-- value and the chosen ones among the
-- finished pairs have no room in a heap.
pub record HasNoRoomChosen (version : Version) (fields : List Field) (whole : List ℕ) : Type 0 where
  pub announced : ℕ
  pub finished : Document
  pub number : ℕ
  pub state : State
  pub prefix : List ℕ
  pub rest : List ℕ
  pub joined : whole ≡ prefix ++ rest
  pub less : length finished < announced
  pub is : IsState state
  pub encoded : Encoded Legacy version prefix (open_parts announced finished number state)
  pub among : is_among fields number ≡ true
  pub no_room : 4294967295 < document_room (chosen fields finished) + state_room state

-- ---- what a call promises

-- The bytes that were taken encode a document of this version, of which the chosen pairs are kept, or show
-- why there is none. They are counted.
abbrev pub FindsChosen : DocStoreVersion → List Field → {S : Type 0} (source : Ghosts S) (old : S)
    (old_count : ℕ) (new : S) (new_count : ℕ) (result : Result HeapPairs DeserializeError) → Type 0
FindsChosen version fields source old old_count new new_count result =
    Finds source old old_count new new_count result (EncodesChosen (version_of version) fields)
    (NoDocument (version_of version))

-- There is said to be no room only where what the bytes announce of chosen pairs has none.
abbrev pub ChosenHaveNoRoom : DocStoreVersion → List Field → {S : Type 0} (source : Ghosts S) (old : S)
    (result : Result HeapPairs DeserializeError) → Type 0
ChosenHaveNoRoom version fields source old result = source.is_known old → IsErrOf result HeapFull
    → HasNoRoomChosen (version_of version) fields (source.left old)
