-- The value of one pair more, after pairs that were read before it.
use Rattle.std.specs.Prelude.{◌≡◌, ℕ, ◌+◌, ◌<◌, List, [], ◌∷◌, ◌++◌, Result, IsErrOf}
use Rattle.tv_base.specs.declared.source.ByteSource.{Ghosts}
use Rattle.tv_base.specs.Parts.{Each}
use Rattle.tv_builder.specs.Prefix.{Encoded}
use Rattle.tv_builder.specs.State.{State, IsState, parts_of, state_room}
use Rattle.tv_builder.specs.HeldPairs.{document_of}
use Rattle.tv_builder.specs.declared.heap_pairs.HeapPairs.{HeapPairs}
use Rattle.tv_heap.specs.Room.{document_room}
use Rattle.tv_reader.specs.Finds.{Finds}
use Rattle.tv_reader.specs.Legacy.{Legacy}
use Rattle.tv_reader.specs.Trees.{NoValue}
use Rattle.tv_reader.specs.Version.{version_of}
use Rattle.tv_reader.specs.declared.error.DeserializeError.{DeserializeError}
use Rattle.tv_reader.specs.declared.error.DeserializeError.TheVariants.{HeapFull}
use Rattle.tv_reader.specs.declared.version.DocStoreVersion.{DocStoreVersion}
use Rattle.tv_format.specs.Encoding.{Encodes, EncodesPair}
use Rattle.tv_format.specs.InputError.{Refusal}
use Rattle.tv_format.specs.Tree.{Tree, Document}
use Rattle.tv_format.specs.Version.{Version}

-- some bytes encode the pairs, one after the other
abbrev pub CanStand : Version → Document → Type 0
CanStand version document = (bytes : List ℕ) × Each (EncodesPair Legacy version) bytes document

-- The bytes encode a value, which stands in a pair of this field after those that were there.
pub record AddsValue (version : Version) (old : Document) (field : ℕ) (taken : List ℕ)
    (new : HeapPairs) : Type 0 where
  pub tree : Tree
  pub encoded : Encodes Legacy version taken tree
  pub document : document_of new ≡ old ++ (field, tree) ∷ []

-- what is found after pairs that can stand there
abbrev pub FindsValue : Version → Document → ℕ → List ℕ → HeapPairs → Type 0
FindsValue version old field taken new = CanStand version old → AddsValue version old field taken new

abbrev pub FindsNoValue : Version → Document → List ℕ → Refusal → Type 0
FindsNoValue version old bytes refusal = CanStand version old → NoValue version bytes refusal

-- A prefix of the bytes encodes what has come of a value, and that has no room in a heap after the pairs.
pub record ValueHasNoRoom (version : Version) (old : Document) (whole : List ℕ) : Type 0 where
  pub state : State
  pub prefix : List ℕ
  pub rest : List ℕ
  pub joined : whole ≡ prefix ++ rest
  pub is : IsState state
  pub encoded : Encoded Legacy version prefix (parts_of state)
  pub no_room : 4294967295 < document_room old + state_room state

-- ---- what a call promises

-- The bytes that were taken encode a value, whose pair is added, or show why there is none. They are counted.
abbrev pub FindsPairValue : DocStoreVersion → HeapPairs → ℕ → {S : Type 0} (source : Ghosts S) (old : S)
    (old_count : ℕ) (new : S) (new_count : ℕ) (result : Result HeapPairs DeserializeError) → Type 0
FindsPairValue version pairs field source old old_count new new_count result =
    Finds source old old_count new new_count result
    (FindsValue (version_of version) (document_of pairs) field)
    (FindsNoValue (version_of version) (document_of pairs))

-- There is said to be no room only where what the bytes announce of the value has none after the pairs.
abbrev pub PairValueHasNoRoom : DocStoreVersion → HeapPairs → {S : Type 0} (source : Ghosts S) (old : S)
    (result : Result HeapPairs DeserializeError) → Type 0
PairValueHasNoRoom version pairs source old result = source.is_known old → IsErrOf result HeapFull
    → CanStand (version_of version) (document_of pairs)
    → ValueHasNoRoom (version_of version) (document_of pairs) (source.left old)
