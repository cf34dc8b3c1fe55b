-- Whole documents, by the bytes that encode them.
use Rattle.std.specs.Prelude.{ℕ, List, ◌++◌, Result, IsErrOf}
use Rattle.tv_base.specs.declared.source.ByteSource.{Ghosts}
use Rattle.tv_builder.specs.Prefix.{Encoded}
use Rattle.tv_builder.specs.declared.heap_pairs.HeapPairs.{HeapPairs}
use Rattle.tv_builder.specs.HeldPairs.{document_of}
use Rattle.tv_reader.specs.Finds.{Finds}
use Rattle.tv_reader.specs.Legacy.{Legacy, ErrorInLegacy}
use Rattle.tv_reader.specs.Version.{version_of}
use Rattle.tv_reader.specs.declared.error.DeserializeError.{DeserializeError}
use Rattle.tv_reader.specs.declared.error.DeserializeError.TheVariants.{HeapFull}
use Rattle.tv_reader.specs.declared.version.DocStoreVersion.{DocStoreVersion}
use Rattle.tv_format.specs.InputError.{Refusal, ErrorInDocument}
use Rattle.tv_format.specs.Encoding.{EncodesDocument}
use Rattle.tv_format.specs.Version.{Version}
use Rattle.tv_reading.specs.Prefix.{HasNoRoom, parts_read}
use Rattle.tv_reading.specs.declared.reading.Reading.{Reading}

abbrev pub EncodesRead : Version → List ℕ → HeapPairs → Type 0
EncodesRead version bytes document = EncodesDocument Legacy version bytes (document_of document)

-- no prefix of the bytes encodes a document, for this reason
abbrev pub NoDocument : Version → List ℕ → Refusal → Type 0
NoDocument version bytes refusal = ErrorInDocument Legacy ErrorInLegacy version bytes refusal

-- after any bytes of which this has come, these encode what is left of the document
abbrev pub EncodesRest : Version → Reading → List ℕ → HeapPairs → Type 0
EncodesRest version reading rest document = (bytes : List ℕ)
    → Encoded Legacy version bytes (parts_read reading)
    → EncodesRead version (bytes ++ rest) document

-- ---- what calls promise

-- The bytes that were taken encode a document of this version, or show why there is none. They are counted.
abbrev pub FindsDocument : DocStoreVersion → {S : Type 0} (source : Ghosts S) (old : S) (old_count : ℕ)
    (new : S) (new_count : ℕ) (result : Result HeapPairs DeserializeError) → Type 0
FindsDocument version source old old_count new new_count result =
    Finds source old old_count new new_count result (EncodesRead (version_of version))
    (NoDocument (version_of version))

-- There is said to be no room only where what the bytes announce has none.
abbrev pub DocumentHasNoRoom : DocStoreVersion → {S : Type 0} (source : Ghosts S) (old : S)
    (result : Result HeapPairs DeserializeError) → Type 0
DocumentHasNoRoom version source old result = source.is_known old → IsErrOf result HeapFull
    → HasNoRoom (version_of version) (source.left old)
