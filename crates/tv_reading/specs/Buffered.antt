-- Whole pairs that are taken of a source at once.
use Rattle.std.specs.Prelude.{◌≡◌, ℕ, List, ◌++◌, length}
use Rattle.tv_base.specs.Parts.{Each}
use Rattle.tv_builder.specs.declared.heap_pairs.HeapPairs.{HeapPairs}
use Rattle.tv_builder.specs.HeldPairs.{document_of}
use Rattle.tv_format.specs.Encoding.{EncodesPair, NoLegacy}
use Rattle.tv_format.specs.Tree.{Document}
use Rattle.tv_format.specs.Version.{Version}

-- what was taken encodes this many pairs, and these are added
pub record AddsBufferedPairs (version : Version) (old new : HeapPairs) (taken : List ℕ)
    (count : ℕ) : Type 0 where
  pub pairs : Document
  pub counted : length pairs ≡ count
  pub encoded : Each (EncodesPair NoLegacy version) taken pairs
  pub document : document_of new ≡ document_of old ++ pairs
