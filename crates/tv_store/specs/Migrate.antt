-- What comes of a document that is read in one version and written in another.
--
-- A call that makes this promise reads a document as `read_document` does, and returns its error if there is
-- none; then nothing is written. A document that was read is written in the other version, in the shortest
-- encoding. After an error of writing the sink holds a beginning of that, and the source
-- stands after the document.
use Rattle.std.specs.Prelude.{◌≡◌, Result, Ok, Err, IfErr}
use Rattle.std.specs.declared.io.ErrorKind.TheVariants.{OutOfMemory}
use Rattle.tv_base.specs.declared.sink.ByteSink.{Ghosts as Sink}
use Rattle.tv_base.specs.declared.source.ByteSource.{Ghosts as Source}
use Rattle.tv_base.specs.Sink.{WritesBy}
use Rattle.tv_base.specs.Stop.{Stop}
use Rattle.tv_base.specs.Stop.Stop.{Never}
use Rattle.tv_doc.specs.Document.{document_of}
use Rattle.tv_doc.specs.declared.document.CompactDoc.{CompactDoc}
use Rattle.tv_format.specs.Short.{short_document, IsDocument}
use Rattle.tv_format.specs.Version.{Version}
use Rattle.tv_reader.specs.declared.error.DeserializeError.{DeserializeError}
use Rattle.tv_reader.specs.declared.error.DeserializeError.TheVariants as errors
use Rattle.tv_store.specs.Reading.{ReadsDocument}
use Rattle.tv_store.specs.declared.migration.MigrateError.{MigrateError}
use Rattle.tv_store.specs.declared.migration.MigrateError.TheVariants.{Read, Write}
use Rattle.tv_writer.specs.Error.{Unwritten, write_stop, IsIoOrMemory}
use Rattle.tv_writer.specs.declared.serializers.SerializeError.TheVariants as writes

-- why writing stopped
abbrev pub sink_stop : MigrateError → Stop Unwritten
sink_stop (Read error) = Never
sink_stop (Write error) = write_stop error

-- the sink failed, or memory was refused in writing
abbrev pub IsWriteError : MigrateError → Type 0
IsWriteError (Read error) = ⊥
IsWriteError (Write error) = IsIoOrMemory error

-- what is written of what was read
abbrev pub Rewrites : {K : Type 0} → Version → Sink K → K → K → Result CompactDoc DeserializeError
    → Result (Unit {0}) MigrateError → Type 0
Rewrites to sink old new (Ok document) result = IsDocument (document_of document)
    × WritesBy sink_stop sink.is_known sink.held sink.failures old new result
    (Ok (short_document to (document_of document))) × IfErr result IsWriteError
Rewrites to sink old new (Err error) result = (result ≡ Err (Read error)) × (new ≡ old)

pub record Migrates {S K : Type 0} (from to : Version) (source : Source S) (source_old source_new : S)
    (sink : Sink K) (sink_old sink_new : K) (result : Result (Unit {0}) MigrateError) : Type 0 where
  pub read : Result CompactDoc DeserializeError
  pub reads : ReadsDocument from source source_old source_new document_of read
  pub rewrites : Rewrites to sink sink_old sink_new read result

-- memory was refused, in reading or in writing: a sink that keeps its bytes in memory
-- fails then, and tells so
abbrev pub IsMemory : MigrateError → Type 0
IsMemory (Read errors.Memory) = Unit {0}
IsMemory (Write (writes.Io kind)) = kind ≡ OutOfMemory
IsMemory (Write writes.Memory) = Unit {0}
IsMemory _ = ⊥
