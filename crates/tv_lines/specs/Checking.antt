-- Whether bytes are a block of documents, and nothing else.
use Rattle.std.specs.Prelude.{◌≡◌, ℕ, List, [], ◌++◌, Result, Ok, Err, length}
use Rattle.tv_format.specs.Tree.{Document}
use Rattle.tv_format.specs.Version.{Version}
use Rattle.tv_store.specs.Projections.{EncodesBlockWithin, IsRefusedAt}
use Rattle.tv_store.specs.declared.block.RefusedDocument.{RefusedDocument}
use Rattle.tv_store.specs.declared.limits.ReadLimits.{ReadLimits}
use Rattle.tv_store.specs.declared.projection.Projection.TheVariants.{All}

-- the bytes encode documents within the limits, one after the other, and this is their number
abbrev pub IsBlock : Version → ReadLimits → List ℕ → ℕ → Type 0
IsBlock version limits block number = (documents : List Document)
    × EncodesBlockWithin version limits block documents
    × (number ≡ length documents)

-- The block begins with documents of this number, and the document with which the rest begins is refused.
pub record RefusesBlock (version : Version) (limits : ReadLimits) (block left : List ℕ)
    (error : RefusedDocument) : Type 0 where
  pub before : List ℕ
  pub behind : List ℕ
  pub joined : block ≡ before ++ behind
  pub documents : IsBlock version limits before error.document
  pub refused : IsRefusedAt version (All limits) behind left (length before) error

-- The bytes were tested: they are a block and nothing is left, or this is why they aren't.
abbrev pub TestsBlock : Version → ReadLimits → List ℕ → List ℕ → Result ℕ RefusedDocument → Type 0
TestsBlock version limits block left (Ok number) = IsBlock version limits block number × (left ≡ [])
TestsBlock version limits block left (Err error) = RefusesBlock version limits block left error
