-- What comes of a block, whose documents stand one after the other, when these are carried over to
-- another version of the store.
--
-- A call that makes this promise carries over the documents that a source has left from the first on, each as
-- `migrate` does. Where it succeeds, these are all that the source has left, and it tells their number. After
-- an error it tells the number of the first document that wasn't carried over, the byte at which it begins,
-- and why. After what the sink held stand the shortest encodings of those that were, and then a beginning of
-- the encoding of that document, but nothing of it where it couldn't be read.
use Rattle.std.specs.Prelude.{◌≡◌, ◌+◌, ◌-◌, ◌^◌, ◌<◌, ℕ, List, [], ◌++◌, length, Result, IfErr, IfOk, OnOk}
use Rattle.std.specs.List.{flat_map}
use Rattle.tv_base.specs.declared.sink.ByteSink.{Ghosts as Sink}
use Rattle.tv_base.specs.declared.source.ByteSource.{Ghosts as Source}
use Rattle.tv_base.specs.Parts.{Each}
use Rattle.tv_base.specs.Sink.{AppendsPrefix}
use Rattle.tv_base.specs.Stop.{Counts, Stop}
use Rattle.tv_base.specs.Stop.Stop.{Short}
use Rattle.tv_format.specs.Encoding.{EncodesDocument}
use Rattle.tv_format.specs.InputError.{Refusal}
use Rattle.tv_format.specs.Short.{short_document, IsDocument}
use Rattle.tv_format.specs.Tree.{Document}
use Rattle.tv_format.specs.Version.{Version}
use Rattle.tv_reader.specs.Legacy.{Legacy}
use Rattle.tv_store.specs.Documents.{BeginsWithDocument}
use Rattle.tv_store.specs.Projections.{IsRefusedAt, no_limits, refused_stop}
use Rattle.tv_store.specs.declared.block_migration.MigrateBlockError.{MigrateBlockError}
use Rattle.tv_store.specs.declared.block_migration.MigrateBlockError.TheVariants.{Read, Write, TooMany}
use Rattle.tv_store.specs.declared.projection.Projection.TheVariants.{All}
use Rattle.tv_writer.specs.Error.{Unwritten, write_stop, IsIoOrMemory}
use Rattle.tv_writer.specs.declared.serializers.SerializeError.{SerializeError}

-- these documents are encoded, one after the other
abbrev pub EncodesBlock : Version → List ℕ → List Document → Type 0
EncodesBlock version block documents = Each (EncodesDocument Legacy version) block documents

-- The block encodes documents in the one version, and these are their shortest encodings in the other.
pub record IsMigrated (from to : Version) (block content : List ℕ) : Type 0 where
  pub documents : List Document
  pub encoded : EncodesBlock from block documents
  pub written : content ≡ flat_map (short_document to) documents

-- A prefix of the bytes encodes a document in the one version, and the rest is left. The document has an
-- encoding in the other, and this text is its shortest.
pub record Transcribes (from to : Version) (bytes rest text : List ℕ) : Type 0 where
  pub document : Document
  pub read : BeginsWithDocument from bytes rest document
  pub valid : IsDocument document
  pub written : text ≡ short_document to document

-- Of the document with which the bytes begin this text was to be written, which couldn't be. `left` follows
-- it. Before it come this many documents, in this number of bytes.
pub record IsUnwritten (from to : Version) (bytes left : List ℕ) (number before : ℕ) (text : List ℕ)
    (document start : ℕ) (error : SerializeError) : Type 0 where
  pub transcribed : Transcribes from to bytes left text
  pub counted : document ≡ number
  pub begins : before + length bytes < 2 ^ 64 - 1 → start ≡ before
  pub reason : IsIoOrMemory error

-- Why the document with which these bytes begin isn't carried over, and the text that was to be written of
-- it: none where it couldn't be read, else its shortest encoding. Before it come this many documents, in this
-- number of bytes. `left` is what is left of the bytes.
abbrev pub IsUnmigrated : Version → Version → List ℕ → List ℕ → ℕ → ℕ → List ℕ → MigrateBlockError → Type 0
IsUnmigrated from to bytes left number before text (Read refused) = (text ≡ []) × (refused.document ≡ number)
    × IsRefusedAt from (All no_limits) bytes left before refused
IsUnmigrated from to bytes left number before text (Write document start refused) =
    IsUnwritten from to bytes left number before text document start refused
IsUnmigrated from to bytes left number before text TooMany = (text ≡ []) × (left ≡ bytes)
    × (number ≡ 2 ^ 64 - 1)

-- All documents of the block, of this number, were carried over, and `text` is what they
-- are in the other version.
pub record MigratesAll {K : Type 0} (from to : Version) (block : List ℕ) (sink : Sink K) (old new : K)
    (number : ℕ) : Type 0 where
  pub text : List ℕ
  pub migrated : IsMigrated from to block text
  pub counted : number ≡ length migrated.documents
  pub held : sink.is_known old → sink.held new ≡ sink.held old ++ text

-- The documents before the one that is reported were carried over, and `text` is what they are in the other
-- version. The document with which the rest of the block begins wasn't, for the reason that is reported:
-- `next` was to be written of it. `left` is what is left of the block.
pub record MigratesBefore {K : Type 0} (from to : Version) (block left : List ℕ) (sink : Sink K) (old new : K)
    (error : MigrateBlockError) : Type 0 where
  pub before : List ℕ
  pub behind : List ℕ
  pub joined : block ≡ before ++ behind
  pub text : List ℕ
  pub migrated : IsMigrated from to before text
  pub next : List ℕ
  pub unmigrated : IsUnmigrated from to behind left (length migrated.documents) (length before) next error
  pub held : sink.is_known old → AppendsPrefix (sink.held old ++ text) (sink.held new) next

-- ---- why it stopped

-- as its source sees it
abbrev pub migration_source_stop : MigrateBlockError → Stop Refusal
migration_source_stop (Read refused) = refused_stop refused
migration_source_stop (Write document start refused) = Short
migration_source_stop TooMany = Short

-- and as its sink does
abbrev pub migration_sink_stop : MigrateBlockError → Stop Unwritten
migration_sink_stop (Read error) = Short
migration_sink_stop (Write document start error) = write_stop error
migration_sink_stop TooMany = Short

-- ---- the promise

-- A call that makes this promise does the following.
--   all              Where it succeeds, what was left encodes this many documents, and their shortest
--                    encodings are appended.
--   ended            Nothing is left then.
--   before           After an error the documents before the one that is reported are carried over, and that
--                    one isn't, for the reason that is reported.
--   source_failures  It says that the source failed exactly where it did, and so it does of the sink.
--   source_is_known  What is known of the source stays known, and so does what is known of the sink.
pub record MigratesBlock {S K : Type 0} (from to : Version) (source : Source S) (source_old source_new : S)
    (sink : Sink K) (sink_old sink_new : K) (result : Result ℕ MigrateBlockError) : Type 0 where
  pub all : source.is_known source_old
      → IfOk result (MigratesAll from to (source.left source_old) sink sink_old sink_new)
  pub ended : source.is_known source_old → OnOk result (source.left source_new ≡ [])
  pub before : source.is_known source_old → IfErr result
      (MigratesBefore from to (source.left source_old) (source.left source_new) sink sink_old sink_new)
  pub source_failures : Counts migration_source_stop result (source.failures source_old)
      (source.failures source_new)
  pub sink_failures : Counts migration_sink_stop result (sink.failures sink_old) (sink.failures sink_new)
  pub source_is_known : source.is_known source_old → source.is_known source_new
  pub sink_is_known : sink.is_known sink_old → sink.is_known sink_new
