-- What is read of the next document of a block, by what is kept of it.
--
-- A call that reads the next document promises the following by the record
-- `ReadsProjected`, beside `StepsBlock`.
--   one          The bytes that it took encode a document within the limits, of which is kept what is wanted;
--                or none was left; or they are
--                refused, for a reason that is true of them.
--   placed       An error says how many documents come before the one that is refused, where it begins, and
--                where reading stopped.
--   most         No more bytes were taken than may be. Where none may be, one may, which shows that there is a
--                document.
--   failures     It says that the source failed exactly where the source did, with the kind that the source
--                returned.
--   stays_known  What is known of the source stays known.
use Rattle.std.specs.Prelude.{◌≡◌, ◌+◌, ◌-◌, ◌^◌, ◌<◌, ℕ, Bool, true, false, List, [], length, None, Result}
use Rattle.std.specs.Prelude.{Ok, Err, IfErr}
use Rattle.tv_base.specs.Parts.{Begins, Each}
use Rattle.tv_base.specs.ReadsAs.{Shows}
use Rattle.tv_base.specs.Stop.{Counts, Stop}
use Rattle.tv_base.specs.declared.cause.Cause.TheVariants.{UnexpectedEnd}
use Rattle.tv_base.specs.declared.source.ByteSource.{Ghosts}
use Rattle.tv_builder.specs.TreeBytes.{document_heap}
use Rattle.tv_format.specs.Encoding.{EncodesDocument}
use Rattle.tv_format.specs.InputError.{Refusal, corrupted, no_text_key}
use Rattle.tv_format.specs.Tree.{Document}
use Rattle.tv_format.specs.Version.{Version}
use Rattle.tv_reader.specs.Error.{IsRefusal}
use Rattle.tv_reader.specs.Legacy.{Legacy}
use Rattle.tv_reader.specs.ValueType.{value_type_code}
use Rattle.tv_reader.specs.Version.{version_of}
use Rattle.tv_reader.specs.declared.error.DeserializeError.{DeserializeError}
use Rattle.tv_reader.specs.declared.error.DeserializeError.TheVariants as errors
use Rattle.tv_reader.specs.declared.value_type.ValueType.TheVariants.{String}
use Rattle.tv_reading.specs.ChosenFields.{HasNoRoomChosen, chosen}
use Rattle.tv_store.specs.BlockSteps.{refusal_of}
use Rattle.tv_store.specs.Blocks.{SaysNothingWithin}
use Rattle.tv_store.specs.Documents.{HasNoRoom, NoDocument}
use Rattle.tv_store.specs.Limits.{AllNestWithinLimit, IsLarge, IsPast, PassesBytesLimit, PassesDepth}
use Rattle.tv_store.specs.Limits.{at_least_one, limited_stop}
use Rattle.tv_store.specs.declared.block.BlockReader.{BlockReader}
use Rattle.tv_store.specs.declared.block.RefusedDocument.{RefusedDocument}
use Rattle.tv_store.specs.declared.limits.LimitedReadError.{LimitedReadError}
use Rattle.tv_store.specs.declared.limits.LimitedReadError.TheVariants as limited
use Rattle.tv_store.specs.declared.limits.ReadLimit.{ReadLimit}
use Rattle.tv_store.specs.declared.limits.ReadLimit.TheVariants as limit
use Rattle.tv_store.specs.declared.limits.ReadLimits.{ReadLimits}
use Rattle.tv_store.specs.declared.projection.Projection.{Projection}
use Rattle.tv_store.specs.declared.projection.Projection.TheVariants.{All, Fields}

-- ---- what is kept

abbrev pub no_limits : ReadLimits
no_limits = record { bytes = None; heap_bytes = None; depth = None }

abbrev pub limits_of : Projection → ReadLimits
limits_of (All limits) = limits
limits_of (Fields fields) = no_limits

-- what is kept of a document: all of it, or the pairs of chosen fields
abbrev pub kept : Projection → Document → Document
kept (All limits) document = document
kept (Fields fields) document = chosen fields.items document

-- the bytes announce what is to be kept of a document and has no room in a heap
abbrev pub NoRoomFor : Version → Projection → List ℕ → Type 0
NoRoomFor version (All limits) bytes = HasNoRoom version bytes
NoRoomFor version (Fields fields) bytes = HasNoRoomChosen version fields.items bytes

-- ---- documents within limits

-- The bytes encode the document. They are within the limits, and so are its heap and the lists in
-- which its values nest.
pub record EncodesWithinLimits (version : Version) (limits : ReadLimits) (bytes : List ℕ)
    (document : Document) : Type 0 where
  pub encoded : EncodesDocument Legacy version bytes document
  pub small : ¬ IsPast limits.bytes (length bytes)
  pub light : ¬ IsPast limits.heap_bytes (length (document_heap [] document))
  pub shallow : AllNestWithinLimit limits.depth document

-- the bytes encode these documents, one after the other, each within the limits
abbrev pub EncodesBlockWithin : Version → ReadLimits → List ℕ → List Document → Type 0
EncodesBlockWithin version limits block documents = Each (EncodesWithinLimits version limits) block documents

-- the document with which the bytes begin passes this limit, as those of them show that were
-- taken: `left` follows them
abbrev pub PassesLimit : Version → ReadLimits → List ℕ → List ℕ → ReadLimit → Type 0
PassesLimit version limits bytes left limit.Bytes = PassesBytesLimit version limits.bytes bytes left
PassesLimit version limits bytes left limit.HeapBytes = Begins (IsLarge version limits.heap_bytes) bytes left
PassesLimit version limits bytes left limit.Depth = Begins (PassesDepth version limits.depth) bytes left

-- ---- why a document is refused

-- the bytes begin with no document, or with one that has no room, unless a read failed or memory was refused
abbrev pub IsRefusedBy : (List ℕ → Type 0) → Version → List ℕ → DeserializeError → Type 0
IsRefusedBy NoRoom version bytes (errors.CorruptedValue cause) = NoDocument version bytes (corrupted cause)
IsRefusedBy NoRoom version bytes (errors.TypeMismatch String actual) =
    NoDocument version bytes (no_text_key (value_type_code actual))
IsRefusedBy NoRoom version bytes errors.HeapFull = NoRoom bytes
IsRefusedBy NoRoom version bytes (errors.Io kind) = Unit {0}
IsRefusedBy NoRoom version bytes errors.Memory = Unit {0}
IsRefusedBy NoRoom version bytes _ = ⊥

-- the error is true of the bytes
abbrev pub IsTrueOf : Version → Projection → List ℕ → List ℕ → LimitedReadError → Type 0
IsTrueOf version projection bytes left (limited.Read error) = length bytes < 2 ^ 64 - 1
    → IsRefusedBy (NoRoomFor version projection) version bytes error
IsTrueOf version projection bytes left (limited.Limit passed) =
    PassesLimit version (limits_of projection) bytes left passed

-- Reading stopped at the byte that shows a refusal: of what was taken without that byte only the end is
-- missing.
abbrev pub StopsWhereShown : Version → List ℕ → List ℕ → LimitedReadError → Type 0
StopsWhereShown version bytes left (limited.Read error) = length bytes < 2 ^ 64 - 1 → (refusal : Refusal)
    → IsRefusal error refusal → Shows (corrupted UnexpectedEnd) (NoDocument version) bytes left refusal
StopsWhereShown version bytes left (limited.Limit passed) = Unit {0}

-- Why the next document can't be read. The end of the bytes is no reason.
pub record IsReason (version : Version) (projection : Projection) (bytes left : List ℕ)
    (error : LimitedReadError) : Type 0 where
  pub true_of : IsTrueOf version projection bytes left error
  pub at_end : bytes ≡ [] → SaysNothingWithin error
  pub shown : StopsWhereShown version bytes left error

-- The document with which the bytes begin is refused, after this number of bytes: the reason is true of it,
-- and the places are right. `left` is what was left of the bytes.
pub record IsRefusedAt (version : Version) (projection : Projection) (bytes left : List ℕ) (start : ℕ)
    (refused : RefusedDocument) : Type 0 where
  pub reason : IsReason version projection bytes left refused.error
  pub begins : start + length bytes < 2 ^ 64 - 1 → refused.start ≡ start
  pub placed : start + length bytes < 2 ^ 64 - 1 → refused.place + length left ≡ start + length bytes

-- ---- the next document

-- a document was read, of which this is kept; or there was none; or there is a reason why not
abbrev pub ReadsOne : Version → Projection → (Document → Type 0) → List ℕ → List ℕ
    → Result Bool LimitedReadError → Type 0
ReadsOne version projection IsKept bytes left (Ok true) = (document : Document)
    × Begins (λ prefix. EncodesWithinLimits version (limits_of projection) prefix document) bytes left
    × IsKept document
ReadsOne version projection IsKept bytes left (Ok false) = (bytes ≡ []) × (left ≡ [])
ReadsOne version projection IsKept bytes left (Err error) = IsReason version projection bytes left error

-- no more bytes were taken than may be, or one
abbrev pub TakesNoMore : ReadLimits → List ℕ → List ℕ → Type 0
TakesNoMore limits bytes left = Begins (λ prefix. ¬ IsPast (at_least_one limits.bytes) (length prefix)) bytes
    left

-- the error without its number and its places
abbrev pub error_of : Result Bool RefusedDocument → Result Bool LimitedReadError
error_of (Ok more) = Ok more
error_of (Err refused) = Err refused.error

abbrev pub refused_stop : RefusedDocument → Stop Refusal
refused_stop refused = limited_stop refused.error

pub record ReadsProjected {S : Type 0} (projection : Projection) (IsKept : Document → Type 0)
    (source : Ghosts S) (source_old source_new : S) (old new : BlockReader)
    (result : Result Bool RefusedDocument) : Type 0 where
  pub one : source.is_known source_old
      → ReadsOne (version_of old.version) projection IsKept (source.left source_old) (source.left source_new)
      (error_of result)
  pub placed : IfErr result (λ refused. refused ≡ refusal_of new refused.error)
  pub most : source.is_known source_old
      → TakesNoMore (limits_of projection) (source.left source_old) (source.left source_new)
  pub failures : Counts refused_stop result (source.failures source_old) (source.failures source_new)
  pub stays_known : source.is_known source_old → source.is_known source_new

-- ---- for private clauses

-- the same, with each error said in another way
abbrev pub with_error : {E F : Type 0} → (E → F) → Result Bool E → Result Bool F
with_error told (Ok more) = Ok more
with_error told (Err error) = Err (told error)

-- what was read of the next document, without its number and its places
pub record ReadsNextOf {S : Type 0} (projection : Projection) (IsKept : Document → Type 0) (source : Ghosts S)
    (source_old source_new : S) (old : BlockReader) (result : Result Bool LimitedReadError) : Type 0 where
  pub one : source.is_known source_old
      → ReadsOne (version_of old.version) projection IsKept (source.left source_old)
      (source.left source_new) result
  pub most : source.is_known source_old
      → TakesNoMore (limits_of projection) (source.left source_old) (source.left source_new)
  pub failures : Counts limited_stop result (source.failures source_old) (source.failures source_new)
  pub stays_known : source.is_known source_old → source.is_known source_new
