-- The promise of a call that reads or passes over the next document of a block, whatever it keeps of it and
-- whatever its errors are.
--
-- A call that makes this promise does the following.
--   refused     After an error it returns that the reader has failed, and nothing happens.
--   not_failed  After a document, and at the end, the reader hasn't failed.
--   marked      After an error it has.
--   taken       It says how many bytes it took.
--   fewer       A document has a byte at least.
--   end         It says that there is no further document only where nothing is left.
--   ended       Where nothing is left it says nothing else, unless an error comes that says nothing of
--               the bytes.
--   counted     A document is counted, and the next one begins after the bytes that were taken. Else the
--               numbers of documents and bytes stay.
--   version     The version stays.
-- Documents and bytes are counted up to 2 ^ 64 - 1, where the number stays.
use Rattle.std.specs.Prelude.{◌≡◌, ◌≢◌, ◌+◌, ◌-◌, ◌^◌, ◌<◌, min, cond, ℕ, Bool, true, false, [], length}
use Rattle.std.specs.Prelude.{Result, Ok, Err, OnOk, OnErr}
use Rattle.tv_base.specs.Stop.{Taken}
use Rattle.tv_base.specs.declared.source.ByteSource.{Ghosts}
use Rattle.tv_doc.specs.Document.{document_of}
use Rattle.tv_reader.specs.declared.version.DocStoreVersion.{DocStoreVersion}
use Rattle.tv_store.specs.Blocks.{NextOf, SaysEndBut, next_if}
use Rattle.tv_store.specs.Decoder.{Rests}
use Rattle.tv_store.specs.declared.block.BlockReader.{BlockReader}
use Rattle.tv_store.specs.declared.block.RefusedDocument.{RefusedDocument}
use Rattle.tv_store.specs.declared.limits.LimitedReadError.{LimitedReadError}

-- ---- what is counted

-- the reader begins after this number of documents, which take this number of bytes, and has read nothing
pub record StartsAt (store_version : DocStoreVersion) (number bytes : ℕ) (reader : BlockReader) : Type 0 where
  pub document : document_of reader.document ≡ []
  pub version : reader.version ≡ store_version
  pub documents : reader.documents ≡ number
  pub start : reader.start ≡ bytes
  pub unread : reader.taken ≡ 0
  pub not_failed : reader.failed ≡ false

-- how many bytes of the block were taken: after an error also those of the document that is refused
abbrev pub place_of : BlockReader → ℕ
place_of reader = cond reader.failed (min (reader.start + reader.taken) (2 ^ 64 - 1)) reader.start

-- the next document, refused for this reason
abbrev pub refusal_of : BlockReader → LimitedReadError → RefusedDocument
refusal_of reader reason =
    record { document = reader.documents; start = reader.start; place = place_of reader; error = reason }

-- both numbers stay
pub record KeepsCounts (old new : BlockReader) : Type 0 where
  pub documents : new.documents ≡ old.documents
  pub start : new.start ≡ old.start

-- a document more, and its bytes
pub record CountsDocument (old new : BlockReader) : Type 0 where
  pub documents : new.documents ≡ min (old.documents + 1) (2 ^ 64 - 1)
  pub start : new.start ≡ min (old.start + new.taken) (2 ^ 64 - 1)

abbrev pub CountsNext : {E : Type 0} → BlockReader → BlockReader → Result Bool E → Type 0
CountsNext old new (Ok true) = CountsDocument old new
CountsNext old new (Ok false) = KeepsCounts old new
CountsNext old new (Err error) = KeepsCounts old new

-- ---- the promise

-- `SaysNothing e` holds of the errors that say nothing of the bytes, and `again` is that of a
-- reader that has failed.
pub record StepsBlock {E S : Type 0} (SaysNothing : E → Type 0) (again : E) (source : Ghosts S)
    (source_old source_new : S) (old new : BlockReader) (result : Result Bool E) : Type 0 where
  pub refused : old.failed ≡ true → Rests old new source_old source_new result (Err again)
  pub not_failed : OnOk result (new.failed ≡ false)
  pub marked : OnErr result (new.failed ≡ true)
  pub taken : old.failed ≡ false → source.is_known source_old
      → Taken (source.left source_old) (source.left source_new) 0 new.taken
  pub fewer : source.is_known source_old → result ≡ Ok true
      → length (source.left source_new) < length (source.left source_old)
  pub end : old.failed ≡ false → source.is_known source_old → result ≡ Ok false → source.left source_old ≡ []
  pub ended : old.failed ≡ false → source.is_known source_old → source.left source_old ≡ []
      → SaysEndBut SaysNothing result
  pub counted : CountsNext old new result
  pub version : new.version ≡ old.version

-- there is no document after the end, nor after an error of this call
abbrev pub LeavesNone : {E : Type 0} → BlockReader → BlockReader → Result Bool E → Type 0
LeavesNone old new result = old.failed ≡ false → result ≢ Ok true → document_of new.document ≡ []

-- ---- for private clauses

-- What is counted, by what reading a document returned and how many bytes that took, and that there was one.
pub record FinishesBlock {E : Type 0} (end : E) (old new : BlockReader) (read : Result (Unit {0}) E)
    (count : ℕ) (result : Result Bool E) : Type 0 where
  pub next : NextOf end read count (next_if result)
  pub taken : new.taken ≡ count
  pub not_failed : OnOk result (new.failed ≡ old.failed)
  pub marked : OnErr result (new.failed ≡ true)
  pub counted : CountsNext old new result
  pub document : new.document ≡ old.document
  pub version : new.version ≡ old.version
