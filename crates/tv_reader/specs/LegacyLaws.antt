-- What holds of any bytes: after the code of a legacy object, where a value is read, and where a document is.
use Rattle.std.specs.Prelude.{ℕ, List}
use Rattle.tv_base.specs.Parts.{Begins}
use Rattle.tv_base.specs.declared.cause.Cause.{Cause}
use Rattle.tv_reader.specs.Legacy.{Legacy, ErrorInLegacy}
use Rattle.tv_format.specs.InputError.{Refusal, ErrorInValue, ErrorInDocument}
use Rattle.tv_format.specs.Encoding.{Encodes, Derives}
use Rattle.tv_format.specs.Tree.{Tree, Entries, Document}
use Rattle.tv_format.specs.Version.{Version}

-- a prefix of the bytes is a legacy object
abbrev pub BeginsLegacy : List ℕ → Type 0
BeginsLegacy bytes = (rest : List ℕ) × (entries : Entries)
    × Begins (λ prefix. Legacy prefix entries) bytes rest

abbrev pub IsMalformed : List ℕ → Type 0
IsMalformed bytes = (c : Cause) × ErrorInLegacy bytes c

-- a prefix of the bytes encodes a value
abbrev pub BeginsValue : Version → List ℕ → Type 0
BeginsValue v bytes = (rest : List ℕ) × (t : Tree) × Begins (λ prefix. Encodes Legacy v prefix t) bytes rest

abbrev pub HasErrorInValue : Version → List ℕ → Type 0
HasErrorInValue v bytes = (r : Refusal) × ErrorInValue Legacy ErrorInLegacy v bytes r

-- a prefix of the bytes encodes a document
abbrev pub DerivesDocument : Version → List ℕ → Type 0
DerivesDocument v bytes = (d : Document) × Derives Legacy v bytes d

abbrev pub HasErrorInDocument : Version → List ℕ → Type 0
HasErrorInDocument v bytes = (r : Refusal) × ErrorInDocument Legacy ErrorInLegacy v bytes r
