-- Whole pairs, of which those of chosen fields are added.
use Rattle.std.specs.Prelude.{◌≡◌, ℕ, List, [], ◌∷◌, ◌++◌, length}
use Rattle.tv_base.specs.Parts.{Begins, Each}
use Rattle.tv_builder.specs.EncodedPairs.{IsStart}
use Rattle.tv_builder.specs.HeldPairs.{document_of}
use Rattle.tv_builder.specs.declared.heap_pairs.HeapPairs.{HeapPairs}
use Rattle.tv_format.specs.Encoding.{EncodesPair}
use Rattle.tv_format.specs.Tree.{Tree, Document}
use Rattle.tv_format.specs.Version.{Version}
use Rattle.tv_reader.specs.Legacy.{Legacy}
use Rattle.tv_reading.specs.ChosenFields.{chosen}
use Rattle.tv_value.specs.declared.field.Field.{Field}

-- the bytes begin with a pair, which is added if it is chosen
pub record AddsChosenPair (version : Version) (fields : List Field) (old new : HeapPairs)
    (whole rest : List ℕ) : Type 0 where
  pub pair : ℕ × Tree
  pub encoded : Begins (λ bytes. EncodesPair Legacy version bytes pair) whole rest
  pub document : document_of new ≡ document_of old ++ chosen fields (pair ∷ [])
  pub start : IsStart old new

-- or with this many
pub record AddsChosenPairs (version : Version) (fields : List Field) (old new : HeapPairs)
    (whole rest : List ℕ)
    (count : ℕ) : Type 0 where
  pub pairs : Document
  pub counted : length pairs ≡ count
  pub encoded : Begins (λ bytes. Each (EncodesPair Legacy version) bytes pairs) whole rest
  pub document : document_of new ≡ document_of old ++ chosen fields pairs
  pub start : IsStart old new

-- what was taken encodes this many pairs, and the chosen ones are added
pub record AddsBufferedChosen (version : Version) (fields : List Field) (old new : HeapPairs) (taken : List ℕ)
    (count : ℕ) : Type 0 where
  pub pairs : Document
  pub counted : length pairs ≡ count
  pub encoded : Each (EncodesPair Legacy version) taken pairs
  pub document : document_of new ≡ document_of old ++ chosen fields pairs
