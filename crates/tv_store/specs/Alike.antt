-- What two calls return and leave that read the same bytes.
use Rattle.std.specs.Prelude.{◌≡◌, ◌≢◌, ◌⊎◌, Bool, true, false, List, ℕ, Some, Result, Ok, Err}
use Rattle.tv_base.specs.declared.cause.Cause.TheVariants.{UnexpectedEnd}
use Rattle.tv_base.specs.declared.sink.ByteSink.{Ghosts as Sink}
use Rattle.tv_base.specs.declared.source.ByteSource.{Ghosts}
use Rattle.tv_base.specs.ReadsAs.{Grammar, Known, Reads}
use Rattle.tv_doc.specs.Document.{document_of}
use Rattle.tv_doc.specs.declared.document.CompactDoc.{CompactDoc}
use Rattle.tv_format.specs.InputError.{Refusal}
use Rattle.tv_format.specs.Tree.{Document}
use Rattle.tv_format.specs.Version.{Version}
use Rattle.tv_reader.specs.Version.{version_of}
use Rattle.tv_reader.specs.declared.error.DeserializeError.{DeserializeError}
use Rattle.tv_reader.specs.declared.error.DeserializeError.TheVariants.{AlreadyFailed, CorruptedValue}
use Rattle.tv_reader.specs.declared.error.DeserializeError.TheVariants.{HeapFull}
use Rattle.tv_store.specs.BlockMigration.{MigratesBlock}
use Rattle.tv_store.specs.Blocks.{SaysNothingWithin, as_read}
use Rattle.tv_store.specs.BlockSteps.{StepsBlock, refusal_of}
use Rattle.tv_store.specs.Documents.{SaysNothing}
use Rattle.tv_store.specs.Limits.{ReadsNextWithin, ReadsWithin, StopsNextWithin, StopsWithin}
use Rattle.tv_store.specs.Migrate.{Migrates}
use Rattle.tv_store.specs.Projections.{ReadsProjected, error_of, kept, limits_of}
use Rattle.tv_store.specs.Reading.{reading, resumed}
use Rattle.tv_store.specs.declared.block.BlockReader.{BlockReader}
use Rattle.tv_store.specs.declared.block.RefusedDocument.{RefusedDocument}
use Rattle.tv_store.specs.declared.block_migration.MigrateBlockError.{MigrateBlockError}
use Rattle.tv_store.specs.declared.block_migration.MigrateBlockError.TheVariants as block
use Rattle.tv_store.specs.declared.limits.LimitedReadError.{LimitedReadError}
use Rattle.tv_store.specs.declared.limits.LimitedReadError.TheVariants as limited
use Rattle.tv_store.specs.declared.limits.ReadLimit.TheVariants as limit
use Rattle.tv_store.specs.declared.limits.ReadLimits.{ReadLimits}
use Rattle.tv_store.specs.declared.migration.MigrateError.{MigrateError}
use Rattle.tv_store.specs.declared.migration.MigrateError.TheVariants as migration
use Rattle.tv_store.specs.declared.projection.Projection.{Projection}

-- ---- documents and values

-- an error that the bytes decide: the source didn't fail, memory wasn't refused, and there was room
abbrev pub IsDecidedError : DeserializeError → Type 0
IsDecidedError error = (¬ SaysNothing error) × (error ≢ HeapFull)

-- the bytes decide what was returned
abbrev pub IsDecided : {X : Type 0} → Result X DeserializeError → Type 0
IsDecided (Ok value) = Unit {0}
IsDecided (Err error) = IsDecidedError error

-- the same is seen of both, or both are the same error; and the same bytes are left
abbrev pub AreAlike : {X Y : Type 0} → (X → Y) → (left other : List ℕ)
    → (result twin : Result X DeserializeError) → Type 0
AreAlike view left other (Ok value) (Ok second) = (view value ≡ view second) × (left ≡ other)
AreAlike view left other (Err error) (Err second) = (error ≡ second) × (left ≡ other)
AreAlike view left other result twin = ⊥

-- two calls that read by this grammar return and leave alike what the bytes decide
abbrev pub Decides : {S X Y : Type 0} → Grammar Refusal Y → Ghosts S → (X → Y) → Type 0
Decides {S} {X} grammar source view =
    (old new other : S) (result twin : Result X DeserializeError) → Known source old → IsDecided result
    → IsDecided twin
    → Reads reading grammar source old new view result → Reads reading grammar source old other view twin
    → AreAlike view (source.left new) (source.left other) result twin

-- ---- the next document of a block

-- A reader of blocks that hasn't failed reads the next document, or passes over it, by what the bytes decide.
-- `kept` is what it keeps of it.
pub record ReadsDecided {S D Y : Type 0} (grammar : Version → Grammar Refusal Y) (source : Ghosts S)
    (view : D → Y) (source_old source_new : S) (old new : BlockReader)
    (result : Result Bool DeserializeError) (kept : D) : Type 0 where
  pub known : Known source source_old
  pub not_failed : old.failed ≡ false
  pub decided : IsDecided result
  pub steps : StepsBlock SaysNothing AlreadyFailed source source_old source_new old new result
  pub reads : Reads (resumed old.failed AlreadyFailed reading) (grammar (version_of old.version)) source
      source_old source_new view (as_read result kept)

-- two readers of blocks have counted the same, and have failed both or neither
pub record AreCountedAlike (reader twin : BlockReader) : Type 0 where
  pub documents : reader.documents ≡ twin.documents
  pub start : reader.start ≡ twin.start
  pub taken : reader.taken ≡ twin.taken
  pub failed : reader.failed ≡ twin.failed

-- the same is returned, of a document the same is kept, and the same bytes are left and counted
pub record AreNextAlike {D Y E : Type 0} (view : D → Y) (left other : List ℕ) (reader twin : BlockReader)
    (result answer : Result Bool E) (kept second : D) : Type 0 where
  pub same : result ≡ answer
  pub document : result ≡ Ok true → view kept ≡ view second
  pub rest : left ≡ other
  pub counts : AreCountedAlike reader twin

-- two calls of a reader of blocks that read by this grammar return and leave alike what the bytes decide
abbrev pub DecidesNext : {S D Y : Type 0} → (Version → Grammar Refusal Y) → Ghosts S → (D → Y) → Type 0
DecidesNext {S} {D} grammar source view =
    (begun ended other : S) (old reader twin : BlockReader) (result answer : Result Bool DeserializeError)
    (kept second : D) → ReadsDecided grammar source view begun ended old reader result kept
    → ReadsDecided grammar source view begun other old twin answer second
    → AreNextAlike view (source.left ended) (source.left other) reader twin result answer kept second

-- ---- within limits

-- an error that says that more bytes are needed than there are, or than may be taken
abbrev pub NeedsMore : LimitedReadError → Type 0
NeedsMore (limited.Read error) = error ≡ CorruptedValue UnexpectedEnd
NeedsMore (limited.Limit limit.Bytes) = Unit {0}
NeedsMore (limited.Limit passed) = ⊥

-- The bytes decide what was returned. The limits of the heap and of the open lists are tested after each
-- part, and where a part ends isn't decided.
abbrev pub IsDecidedWithin : {X : Type 0} → Result X LimitedReadError → Type 0
IsDecidedWithin (Ok value) = Unit {0}
IsDecidedWithin (Err (limited.Read error)) = IsDecidedError error
IsDecidedWithin (Err (limited.Limit limit.Bytes)) = Unit {0}
IsDecidedWithin (Err (limited.Limit passed)) = ⊥

-- The same is seen of both, or both are the same error, and the same bytes are left. Where the bytes end just
-- where no more may be taken, one may say that they end and the other that the limit is passed.
abbrev pub AreAlikeWithin : {X Y : Type 0} → (X → Y) → (left other : List ℕ)
    → (result twin : Result X LimitedReadError) → Type 0
AreAlikeWithin view left other (Ok value) (Ok second) = (view value ≡ view second) × (left ≡ other)
AreAlikeWithin view left other (Err error) (Err second) =
    ((error ≡ second) ⊎ (NeedsMore error × NeedsMore second)) × (left ≡ other)
AreAlikeWithin view left other result twin = ⊥

-- two calls of `read_document_within` return and leave alike what the bytes decide
abbrev pub DecidesWithin : {S : Type 0} → Version → ReadLimits → Ghosts S → Type 0
DecidesWithin {S} version limits source =
    (old new other : S) (result twin : Result CompactDoc LimitedReadError) → Known source old
    → IsDecidedWithin result → IsDecidedWithin twin
    → ReadsWithin version limits source old new result → StopsWithin version limits source old new result
    → ReadsWithin version limits source old other twin → StopsWithin version limits source old other twin
    → AreAlikeWithin document_of (source.left new) (source.left other) result twin

-- both are errors that say that more bytes are needed
abbrev pub BothNeedMore : (result answer : Result Bool LimitedReadError) → Type 0
BothNeedMore (Err error) (Err second) = NeedsMore error × NeedsMore second
BothNeedMore result answer = ⊥

-- A reader of blocks that hasn't failed reads the next document within limits, by what the bytes decide.
pub record ReadsDecidedWithin {S : Type 0} (limits : ReadLimits) (source : Ghosts S)
    (source_old source_new : S) (old new : BlockReader) (result : Result Bool LimitedReadError) : Type 0 where
  pub known : Known source source_old
  pub not_failed : old.failed ≡ false
  pub decided : IsDecidedWithin result
  pub steps : StepsBlock SaysNothingWithin (limited.Read AlreadyFailed) source source_old source_new old new
      result
  pub reads : ReadsNextWithin limits source source_old source_new old new result
  pub stops : StopsNextWithin (version_of old.version) limits source source_old source_new result

-- The same is returned, or both say that more bytes are needed. A document is the same, and the same bytes
-- are left and counted.
pub record AreNextAlikeWithin (left other : List ℕ) (reader twin : BlockReader)
    (result answer : Result Bool LimitedReadError) : Type 0 where
  pub same : (result ≡ answer) ⊎ BothNeedMore result answer
  pub document : result ≡ Ok true → document_of reader.document ≡ document_of twin.document
  pub rest : left ≡ other
  pub counts : AreCountedAlike reader twin

-- two calls of `advance_within` that may take a byte at least return and leave alike what the bytes decide
abbrev pub DecidesNextWithin : {S : Type 0} → ReadLimits → Ghosts S → Type 0
DecidesNextWithin {S} limits source =
    (begun ended other : S) (old reader twin : BlockReader) (result answer : Result Bool LimitedReadError)
    → limits.bytes ≢ Some 0
    → ReadsDecidedWithin limits source begun ended old reader result
    → ReadsDecidedWithin limits source begun other old twin answer
    → AreNextAlikeWithin (source.left ended) (source.left other) reader twin result answer

-- ---- by what is kept of the next document

-- A reader of blocks that hasn't failed reads the next document by a projection, by what the bytes decide.
-- `IsKept` holds of the documents of which it keeps what it has then.
pub record ReadsDecidedBy {S : Type 0} (projection : Projection) (IsKept : Document → Type 0)
    (source : Ghosts S) (source_old source_new : S) (old new : BlockReader)
    (result : Result Bool RefusedDocument) : Type 0 where
  pub known : Known source source_old
  pub not_failed : old.failed ≡ false
  pub decided : IsDecidedWithin (error_of result)
  pub steps : StepsBlock (λ e. SaysNothingWithin e.error) (refusal_of old (limited.Read AlreadyFailed)) source
      source_old source_new old new result
  pub reads : ReadsProjected projection IsKept source source_old source_new old new result

-- The same is returned, or both are refusals that say that more bytes are needed. The same bytes are left and
-- counted.
pub record ArePlacedAlike (left other : List ℕ) (reader twin : BlockReader)
    (result answer : Result Bool RefusedDocument) : Type 0 where
  pub same : (result ≡ answer) ⊎ BothNeedMore (error_of result) (error_of answer)
  pub rest : left ≡ other
  pub counts : AreCountedAlike reader twin

-- two calls of `advance_by` that may take a byte at least return, keep and leave alike what the bytes decide
abbrev pub DecidesKept : {S : Type 0} → Projection → Ghosts S → Type 0
DecidesKept {S} projection source =
    (begun ended other : S) (old reader twin : BlockReader) (result answer : Result Bool RefusedDocument)
    → (limits_of projection).bytes ≢ Some 0
    → ReadsDecidedBy projection (λ d. document_of reader.document ≡ kept projection d) source begun ended old
    reader result
    → ReadsDecidedBy projection (λ d. document_of twin.document ≡ kept projection d) source begun other old
    twin answer
    → ArePlacedAlike (source.left ended) (source.left other) reader twin result answer
    × (result ≡ Ok true → document_of reader.document ≡ document_of twin.document)

-- and so do two of `pass_by`, of which it isn't said what they keep
abbrev pub DecidesPassed : {S : Type 0} → Projection → Ghosts S → Type 0
DecidesPassed {S} projection source =
    (begun ended other : S) (old reader twin : BlockReader) (result answer : Result Bool RefusedDocument)
    → (limits_of projection).bytes ≢ Some 0
    → ReadsDecidedBy projection (λ d. Unit {0}) source begun ended old reader result
    → ReadsDecidedBy projection (λ d. Unit {0}) source begun other old twin answer
    → ArePlacedAlike (source.left ended) (source.left other) reader twin result answer

-- ---- what is migrated

-- the bytes decide what migrating a document returned: it was read, or refused as they decide
abbrev pub IsMigrationDecided : Result (Unit {0}) MigrateError → Type 0
IsMigrationDecided (Ok done) = Unit {0}
IsMigrationDecided (Err (migration.Read error)) = IsDecidedError error
IsMigrationDecided (Err (migration.Write error)) = ⊥

-- the same of a document of a block
abbrev pub IsReasonDecided : LimitedReadError → Type 0
IsReasonDecided (limited.Read error) = IsDecidedError error
IsReasonDecided (limited.Limit passed) = Unit {0}

-- the same of a block
abbrev pub IsBlockDecided : Result ℕ MigrateBlockError → Type 0
IsBlockDecided (Ok number) = Unit {0}
IsBlockDecided (Err (block.Read refused)) = IsReasonDecided refused.error
IsBlockDecided (Err (block.Write document start error)) = ⊥
IsBlockDecided (Err block.TooMany) = Unit {0}

-- the same is returned, the same bytes are left, and the sinks hold the same
pub record AreMigratedAlike {X E : Type 0} (left other held second : List ℕ)
    (result twin : Result X E) : Type 0 where
  pub same : result ≡ twin
  pub rest : left ≡ other
  pub written : held ≡ second

-- two calls of `migrate` return, write and leave alike what the bytes decide
abbrev pub DecidesMigrations : {S K : Type 0} → Version → Version → Ghosts S → Sink K → Type 0
DecidesMigrations {S} {K} from to source sink =
    (begun ended other : S) (old new also : K) (result twin : Result (Unit {0}) MigrateError)
    → Known source begun → sink.is_known old → IsMigrationDecided result → IsMigrationDecided twin
    → Migrates from to source begun ended sink old new result
    → Migrates from to source begun other sink old also twin
    → AreMigratedAlike (source.left ended) (source.left other) (sink.held new) (sink.held also) result twin

-- and so do two of `migrate_block`
abbrev pub DecidesBlocks : {S K : Type 0} → Version → Version → Ghosts S → Sink K → Type 0
DecidesBlocks {S} {K} from to source sink =
    (begun ended other : S) (old new also : K) (result twin : Result ℕ MigrateBlockError)
    → Known source begun → sink.is_known old → IsBlockDecided result → IsBlockDecided twin
    → MigratesBlock from to source begun ended sink old new result
    → MigratesBlock from to source begun other sink old also twin
    → AreMigratedAlike (source.left ended) (source.left other) (sink.held new) (sink.held also) result twin
