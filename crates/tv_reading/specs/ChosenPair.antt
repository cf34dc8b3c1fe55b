-- One pair of a document, which stands among the chosen ones or is passed over.
use Rattle.std.specs.Prelude.{◌≡◌, ℕ, ◌+◌, ◌<◌, Bool, true, false, List, [], ◌∷◌, ◌++◌}
use Rattle.tv_base.specs.Number.{Fixed}
use Rattle.tv_base.specs.Parts.{Begins}
use Rattle.tv_builder.specs.Prefix.{Encoded}
use Rattle.tv_builder.specs.Parts.{field}
use Rattle.tv_builder.specs.State.{State, IsState, parts_of, state_room}
use Rattle.tv_builder.specs.HeldPairs.{document_of}
use Rattle.tv_builder.specs.declared.heap_pairs.HeapPairs.{HeapPairs}
use Rattle.tv_heap.specs.Room.{document_room}
use Rattle.tv_reader.specs.Legacy.{Legacy, ErrorInLegacy}
use Rattle.tv_format.specs.Encoding.{EncodesPair}
use Rattle.tv_format.specs.InputError.{Refusal, ErrorInPair}
use Rattle.tv_format.specs.Tree.{Tree, Document}
use Rattle.tv_format.specs.Version.{Version}
use Rattle.tv_value.specs.declared.field.Field.{Field}
use Rattle.tv_reading.specs.PairValue.{CanStand}
use Rattle.tv_reading.specs.ChosenFields.{is_among, chosen}

-- the bytes begin with this field
abbrev pub BeginsAsPair : List ℕ → ℕ → Type 0
BeginsAsPair bytes number = (rest : List ℕ) × Begins (λ prefix. Fixed 4 prefix number) bytes rest

-- The bytes encode a pair, which stands after the old ones if its field is among these.
pub record AddsChosen (version : Version) (fields : List Field) (old : Document) (taken : List ℕ)
    (new : HeapPairs) : Type 0 where
  pub pair : ℕ × Tree
  pub encoded : EncodesPair Legacy version taken pair
  pub document : document_of new ≡ old ++ chosen fields (pair ∷ [])

-- or none was taken
abbrev pub AddsIf : Version → List Field → HeapPairs → HeapPairs → List ℕ → Bool → Type 0
AddsIf version fields old new taken true = AddsChosen version fields (document_of old) taken new
AddsIf version fields old new taken false = (taken ≡ []) × (document_of new ≡ document_of old)

-- what is found after pairs that can stand there
abbrev pub FindsPair : Version → List Field → Document → List ℕ → HeapPairs → Type 0
FindsPair version fields old taken new = CanStand version old → AddsChosen version fields old taken new

abbrev pub FindsNoPair : Version → Document → List ℕ → Refusal → Type 0
FindsNoPair version old bytes refusal = CanStand version old
    → ErrorInPair Legacy ErrorInLegacy version bytes refusal

-- A prefix of the bytes encodes a chosen field and what has come of its value, and that has no room in a heap
-- after the pairs.
pub record PairHasNoRoom (version : Version) (fields : List Field) (old : Document)
    (whole : List ℕ) : Type 0 where
  pub number : ℕ
  pub state : State
  pub prefix : List ℕ
  pub rest : List ℕ
  pub joined : whole ≡ prefix ++ rest
  pub is : IsState state
  pub encoded : Encoded Legacy version prefix (field number ∷ parts_of state)
  pub among : is_among fields number ≡ true
  pub no_room : 4294967295 < document_room old + state_room state
