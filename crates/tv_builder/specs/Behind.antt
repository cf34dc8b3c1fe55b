-- What has come of a document, and what is malformed after that.
use Rattle.std.specs.Prelude.{ℕ, List, [], ◌∷◌, ◌++◌}
use Rattle.tv_base.specs.declared.cause.Cause.{Cause}
use Rattle.tv_format.specs.InputError.{Refusal, ErrorInDocument}
use Rattle.tv_format.specs.Tree.{Entries, Document}
use Rattle.tv_format.specs.Version.{Version}
use Rattle.tv_builder.specs.Prefix.{Encoded}
use Rattle.tv_builder.specs.Parts.{Part, number, pair, field}
use Rattle.tv_builder.specs.State.{State, parts_of}

abbrev pub pairs_parts : Document → List Part
pairs_parts [] = []
pairs_parts (p ∷ d) = pair p.0 p.1 ∷ pairs_parts d

-- the number of the pairs, and the finished ones
abbrev pub document_parts : ℕ → Document → List Part
document_parts n document = number n ∷ pairs_parts document

-- and of the next one its field, and what has come of its value
abbrev pub open_parts : ℕ → Document → ℕ → State → List Part
open_parts n document f state = document_parts n document ++ (field f ∷ parts_of state)

-- Whatever bytes encode these parts, where the rest follows them no prefix encodes a document, for this
-- reason. `Legacy` and `L` say what encodes a legacy object, and what is wrong with bytes that encode none.
abbrev pub ErrorsBehind : (Legacy : List ℕ → Entries → Type 0) (L : List ℕ → Cause → Type 0) → Version
    → List Part → List ℕ → Refusal → Type 0
ErrorsBehind Legacy L version parts rest refusal = (bytes : List ℕ) → Encoded Legacy version bytes parts
    → ErrorInDocument Legacy L version (bytes ++ rest) refusal
