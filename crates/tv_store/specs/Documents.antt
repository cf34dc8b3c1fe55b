-- What reading a document returns.
use Rattle.std.specs.Prelude.{◌≡◌, ◌≤◌, ℕ, List, Result}
use Rattle.tv_base.specs.Parts.{Begins}
use Rattle.tv_base.specs.ReadsAs.{IsReadUnless}
use Rattle.tv_doc.specs.declared.document.CompactDoc.{CompactDoc}
use Rattle.tv_doc.specs.Document.{document_of}
use Rattle.tv_reader.specs.Legacy.{Legacy}
use Rattle.tv_reader.specs.declared.error.DeserializeError.{DeserializeError}
use Rattle.tv_reader.specs.declared.error.DeserializeError.TheVariants as errors
use Rattle.tv_reader.specs.declared.value_type.ValueType.TheVariants.{String}
use Rattle.tv_format.specs.Encoding.{EncodesDocument}
use Rattle.tv_format.specs.Tree.{Document}
use Rattle.tv_format.specs.Version.{Version}
use Rattle.tv_heap.specs.Room.{document_room}
pub use Rattle.tv_reading.specs.Documents.{NoDocument}
pub use Rattle.tv_reading.specs.Prefix.{HasNoRoom}
pub use Rattle.tv_doc.specs.InPlace.{in_place}

-- a prefix of the bytes encodes the document, and the rest is left
abbrev pub BeginsWithDocument : Version → List ℕ → List ℕ → Document → Type 0
BeginsWithDocument version bytes rest document =
    Begins (λ prefix. EncodesDocument Legacy version prefix document) bytes rest

-- the same of a document that has room
abbrev pub BeginsWithRoom : Version → List ℕ → Document → Type 0
BeginsWithRoom version bytes document = (rest : List ℕ)
    × (BeginsWithDocument version bytes rest document × (document_room document ≤ 4294967295))

-- these bytes encode the document
abbrev pub EncodesReadPairs : Version → List ℕ → CompactDoc → Type 0
EncodesReadPairs version bytes document = EncodesDocument Legacy version bytes (document_of document)

-- an error that says nothing of the bytes: the source failed, or memory was refused
abbrev pub SaysNothing : DeserializeError → Type 0
SaysNothing (errors.Io kind) = Unit {0}
SaysNothing errors.Memory = Unit {0}
SaysNothing _ = ⊥

-- this document is returned and this rest left, unless the source failed or memory was refused
abbrev pub ReturnsDocument : Result CompactDoc DeserializeError → Document → List ℕ → List ℕ → Type 0
ReturnsDocument result document rest left = IsReadUnless SaysNothing document_of result document rest left

-- the errors that reading a document has
abbrev pub IsReadingError : DeserializeError → Type 0
IsReadingError (errors.CorruptedValue cause) = Unit {0}
IsReadingError (errors.TypeMismatch expected actual) = expected ≡ String
IsReadingError errors.HeapFull = Unit {0}
IsReadingError (errors.Io kind) = Unit {0}
IsReadingError errors.Memory = Unit {0}
IsReadingError _ = ⊥
