-- The promise of a step: what a step of a decoder does to the decoder and to its source,
-- whatever its errors are.
--
-- A call that makes this promise does the following.
--   refused     After a refusal it returns one error, and nothing happens.
--   finished    Once all announced pairs are finished it says so, and nothing happens.
--   finds       Else the bytes that it took encode the next part, which has come then; or they show why none
--               has. It counts what it took.
--   no_room     It says that there is no room only where what has come and the next part have none.
--   done        It says that it was the last exactly where all announced pairs are finished then.
--   not_failed  After it succeeded, the decoder isn't refused.
--   marked      After an error it is.
--   version     The version stays.
use Rattle.std.specs.Prelude.{◌≡◌, ◌↔◌, ℕ, zero, suc, ◌+◌, ◌-◌, List, [], length, true, false, Result, Ok}
use Rattle.std.specs.Prelude.{Err, IfOk, IsErrOf, OnOk, OnErr}
use Rattle.tv_base.specs.declared.source.ByteSource.{Ghosts}
use Rattle.tv_base.specs.ReadsAs.{Errors}
use Rattle.tv_builder.specs.Prefix.{Encoded}
use Rattle.tv_reading.specs.Paid.{PaidBy}
use Rattle.tv_reading.specs.Prefix.{parts_read, IsDone, IsMalformedNext, NoRoomBehind}
use Rattle.tv_reading.specs.Steps.{IsFew, Sees, Stepped}
use Rattle.tv_format.specs.Encoding.{NoLegacy}
use Rattle.tv_format.specs.InputError.{Refusal}
use Rattle.tv_reader.specs.Error.{StoreMayStop}
use Rattle.tv_reader.specs.Finds.{FindsBy}
use Rattle.tv_reader.specs.Version.{version_of}
use Rattle.tv_reader.specs.declared.error.DeserializeError.{DeserializeError}
use Rattle.tv_reader.specs.declared.version.DocStoreVersion.{DocStoreVersion}
use Rattle.tv_reader.specs.declared.error.DeserializeError.TheVariants.{AlreadyFailed}
use Rattle.tv_store.specs.Reading.{reading}
use Rattle.tv_store.specs.declared.direct_decoder.DirectDecoder.{DirectDecoder}
use Rattle.tv_store.specs.declared.direct_decoder.Step.{Step}
use Rattle.tv_store.specs.declared.direct_decoder.Step.TheVariants.{More, Done}

abbrev pub SaysDone : Step → Type 0
SaysDone More = ⊥
SaysDone Done = Unit {0}

-- nothing is read, and nothing has changed
pub record Rests {D S T E : Type 0} (old new : D) (source_old source_new : S)
    (result answer : Result T E) : Type 0 where
  pub answers : result ≡ answer
  pub unchanged : new ≡ old
  pub unread : source_new ≡ source_old

pub record Steps {E S : Type 0} (kind : Errors Refusal E) (MayStop : E → ℕ → Type 0) (again : E)
    (source : Ghosts S) (source_old source_new : S) (old new : DirectDecoder)
    (result : Result Step E) : Type 0 where
  pub refused : old.failed ≡ true → Rests old new source_old source_new result (Err again)
  pub finished : old.failed ≡ false → IsDone old.reading
      → Rests old new source_old source_new result (Ok Done)
  pub finds : old.failed ≡ false → ¬ IsDone old.reading
      → FindsBy kind.stop MayStop kind.end source.is_known source.left source.failures source_old old.count
      source_new new.count result
      (λ bytes _. Stepped (version_of old.version) new.legacy_seen old.reading new.reading bytes)
      (IsMalformedNext (version_of old.version) old.reading)
  pub no_room : source.is_known source_old → (error : E) → IsErrOf result error → kind.IsFull error
      → NoRoomBehind (version_of old.version) old.reading (source.left source_old)
  pub done : IfOk result (λ step. SaysDone step ↔ IsDone new.reading)
  pub not_failed : OnOk result (new.failed ≡ false)
  pub marked : OnErr result (new.failed ≡ true)
  pub version : new.version ≡ old.version

-- a step without limits
abbrev pub ReadsStep : {S : Type 0} (source : Ghosts S) (source_old source_new : S) (old new : DirectDecoder)
    (result : Result Step DeserializeError) → Type 0
ReadsStep source source_old source_new old new result =
    Steps reading StoreMayStop AlreadyFailed source source_old source_new old new result

-- at most 4096 bytes were taken, also where they are refused, unless a value is taken whole
abbrev pub TakesFew : {S : Type 0} (source : Ghosts S) (begun : S) (old new : DirectDecoder) → Type 0
TakesFew source begun old new = source.is_known begun
    → IsFew old.reading (source.left begun) old.count new.count

-- whether an object as older stores hold it was met
abbrev pub MeetsLegacy : {S : Type 0} (source : Ghosts S) (begun : S) (old new : DirectDecoder) → Type 0
MeetsLegacy source begun old new =
    source.is_known begun → Sees old.reading (source.left begun) old.legacy_seen new.legacy_seen

-- What has come is paid for by any bytes that encode what had come, with those that were taken then, unless
-- an object as older stores hold it was met.
abbrev pub StaysPaid : DirectDecoder → DirectDecoder → Type 0
StaysPaid old new =
    old.failed ≡ false → (bytes : List ℕ)
    → Encoded NoLegacy (version_of old.version) bytes (parts_read old.reading) → new.legacy_seen ≡ false
    → PaidBy new.reading.builder (length bytes + (new.count - old.count))

-- What has come is paid for by the bytes that were read. As long as no step was
-- refused, as many bytes encode it.
pub record IsPaidFor (decoder : DirectDecoder) : Type 0 where
  pub paid : PaidBy decoder.reading.builder decoder.count
  pub encoded : decoder.failed ≡ false → (bytes : List ℕ)
      × Encoded NoLegacy (version_of decoder.version) bytes (parts_read decoder.reading)
      × (decoder.count ≡ length bytes)

-- The decoder and its source come to this by that many steps, whatever each of them returned.
abbrev pub StepsTo : {S : Type 0} (source : Ghosts S) → ℕ → S → DirectDecoder → S → DirectDecoder → Type 0
StepsTo source zero source_old old source_new new = (source_new ≡ source_old) × (new ≡ old)
StepsTo {S} source (suc steps) source_old old source_new new =
    (source_mid : S) × (mid : DirectDecoder) × (result : Result Step DeserializeError)
    × StepsTo source steps source_old old source_mid mid
    × ReadsStep source source_mid source_new mid new result

-- a decoder of this version that had read nothing, after that many steps
pub record IsStepped {S : Type 0} (source : Ghosts S) (version : DocStoreVersion) (steps : ℕ)
    (source_old source_new : S) (decoder : DirectDecoder) : Type 0 where
  pub start : DirectDecoder
  pub nothing : parts_read start.reading ≡ []
  pub uncounted : start.count ≡ 0
  pub not_failed : start.failed ≡ false
  pub same_version : start.version ≡ version
  pub stepped : StepsTo source steps source_old start source_new decoder
