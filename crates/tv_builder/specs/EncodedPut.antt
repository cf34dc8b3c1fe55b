-- A value that is encoded at the start of bytes, and is written after a heap.
use Rattle.std.specs.Prelude.{ℕ, List}
use Rattle.tv_base.specs.Parts.{Begins}
use Rattle.tv_format.specs.Encoding.{Encodes, NoLegacy}
use Rattle.tv_format.specs.Tree.{Tree}
use Rattle.tv_format.specs.Version.{Version}
use Rattle.tv_builder.specs.Whole.{Put}
use Rattle.tv_heap.specs.declared.value_type.Place.{Place}

pub record EncodedPut (version : Version) (whole rest old new : List ℕ) (place : Place) : Type 0 where
  pub tree : Tree
  pub encoded : Begins (λ b. Encodes NoLegacy version b tree) whole rest
  pub put : Put 4294967295 old tree new place
