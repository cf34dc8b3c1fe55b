-- What is read of a store: documents, chosen pairs of them, and what is passed over. Each call that reads
-- promises it by the record `Reads`.
use Rattle.std.specs.Prelude.{◌≡◌, ◌≤◌, ◌⊎◌, ℕ, List, Bool, true, Result}
use Rattle.tv_base.specs.declared.cause.Cause.TheVariants.{UnexpectedEnd}
use Rattle.tv_base.specs.declared.source.ByteSource.{Ghosts}
use Rattle.tv_base.specs.ReadsAs.{Grammar, Errors, Reads}
use Rattle.tv_base.specs.Stop.{CountsStop}
use Rattle.tv_reading.specs.ChosenFields.{chosen, HasNoRoomChosen}
use Rattle.tv_reading.specs.Prefix.{HasNoRoom}
use Rattle.tv_doc.specs.Document.{document_of}
use Rattle.tv_format.specs.Encoding.{EncodesDocument}
use Rattle.tv_format.specs.InputError.{Refusal, corrupted}
use Rattle.tv_format.specs.Tree.{Document}
use Rattle.tv_format.specs.Version.{Version}
use Rattle.tv_heap.specs.Room.{document_room}
use Rattle.tv_reader.specs.Legacy.{Legacy}
use Rattle.tv_reader.specs.Error.{store_stop}
use Rattle.tv_reader.specs.Trees.{NoValue}
use Rattle.tv_reader.specs.Version.{version_of}
use Rattle.tv_reader.specs.declared.error.DeserializeError.{DeserializeError}
use Rattle.tv_reader.specs.declared.error.DeserializeError.TheVariants.{HeapFull, AlreadyFailed}
use Rattle.tv_reading.specs.Skip.{IsDocumentEncoding, IsValueEncoding}
use Rattle.tv_store.specs.Blocks.{as_read, as_passed}
use Rattle.tv_store.specs.Documents.{IsReadingError, NoDocument, SaysNothing}
use Rattle.tv_store.specs.declared.block.BlockReader.{BlockReader}
use Rattle.tv_value.specs.declared.field.Field.{Field}

-- the errors of reading without limits
abbrev pub reading : Errors Refusal DeserializeError
reading = record {
  end = corrupted UnexpectedEnd;
  stop = store_stop;
  IsFull = λ error. error ≡ HeapFull;
  MayCome = IsReadingError;
  MayComeStill = λ prefix. SaysNothing;
  IsCounted = λ error. CountsStop (store_stop error);
}

-- The errors of a reader that may have failed before. Then it returns this one error and
-- leaves the source as it is.
abbrev pub resumed : {R E : Type 0} → Bool → E → Errors R E → Errors R E
resumed failed again kind = record {
  end = kind.end;
  stop = kind.stop;
  IsFull = kind.IsFull;
  MayCome = λ error. kind.MayCome error ⊎ ((failed ≡ true) × (error ≡ again));
  MayComeStill = λ prefix error. kind.MayComeStill prefix error ⊎ ((failed ≡ true) × (error ≡ again));
  IsCounted = λ error old new. kind.IsCounted error old new
      ⊎ ((failed ≡ true) × ((error ≡ again) × (new ≡ old)));
}

-- ---- documents

abbrev pub documents : Version → Grammar Refusal Document
documents version =
    record {
      Encodes = EncodesDocument Legacy version;
      HasError = NoDocument version;
      HasRoom = λ document. document_room document ≤ 4294967295;
      NoRoom = HasNoRoom version;
    }

abbrev pub ReadsDocument : Version
    → {S X : Type 0} (source : Ghosts S) (old new : S) (view : X → Document)
    (result : Result X DeserializeError) → Type 0
ReadsDocument version source old new view result =
    Reads reading (documents version) source old new view result

-- ---- the chosen pairs of documents

-- the bytes encode a document, of which the chosen pairs are these
abbrev pub EncodesChosenPairs : Version → List Field → List ℕ → Document → Type 0
EncodesChosenPairs version fields bytes pairs = (document : Document)
    × EncodesDocument Legacy version bytes document
    × (pairs ≡ chosen fields document)

abbrev pub chosen_pairs : Version → List Field → Grammar Refusal Document
chosen_pairs version fields =
    record {
      Encodes = EncodesChosenPairs version fields;
      HasError = NoDocument version;
      HasRoom = λ document. document_room document ≤ 4294967295;
      NoRoom = HasNoRoomChosen version fields;
    }

abbrev pub ReadsFields : Version → List Field
    → {S X : Type 0} (source : Ghosts S) (old new : S) (view : X → Document)
    (result : Result X DeserializeError) → Type 0
ReadsFields version fields source old new view result =
    Reads reading (chosen_pairs version fields) source old new view result

-- ---- what is passed over: nothing is kept, so there is always room

abbrev pub passed : (List ℕ → Type 0) → (List ℕ → Refusal → Type 0) → Grammar Refusal (Unit {0})
passed IsOne HasError =
    record { Encodes = λ bytes _. IsOne bytes; HasError = HasError; HasRoom = λ _. Unit {0}; NoRoom = λ _. ⊥ }

abbrev pub PassesDocument : Version
    → {S : Type 0} (source : Ghosts S) (old new : S) (result : Result (Unit {0}) DeserializeError) → Type 0
PassesDocument version source old new result =
    Reads reading (passed (IsDocumentEncoding version) (NoDocument version)) source old new
    (λ value. value) result

abbrev pub PassesValue : Version
    → {S : Type 0} (source : Ghosts S) (old new : S) (result : Result (Unit {0}) DeserializeError) → Type 0
PassesValue version source old new result =
    Reads reading (passed (IsValueEncoding version) (NoValue version)) source old new (λ value. value) result

-- ---- the documents of a block, where the end of the block is read as a document that is cut off

-- a reader of blocks read the next document
abbrev pub ReadsNext : {S : Type 0} (source : Ghosts S) (source_old source_new : S) (old new : BlockReader)
    (result : Result Bool DeserializeError) → Type 0
ReadsNext source source_old source_new old new result =
    Reads (resumed old.failed AlreadyFailed reading)
    (documents (version_of old.version)) source source_old source_new document_of
    (as_read result new.document)

-- it read the chosen pairs of the next document
abbrev pub ReadsNextFields : List Field
    → {S : Type 0} (source : Ghosts S) (source_old source_new : S) (old new : BlockReader)
    (result : Result Bool DeserializeError) → Type 0
ReadsNextFields fields source source_old source_new old new result =
    Reads (resumed old.failed AlreadyFailed reading)
    (chosen_pairs (version_of old.version) fields) source source_old source_new document_of
    (as_read result new.document)

-- it passed over the next document
abbrev pub PassesNext : {S : Type 0} (source : Ghosts S) (source_old source_new : S) (old : BlockReader)
    (result : Result Bool DeserializeError) → Type 0
PassesNext source source_old source_new old result =
    Reads (resumed old.failed AlreadyFailed reading)
    (passed (IsDocumentEncoding (version_of old.version)) (NoDocument (version_of old.version))) source
    source_old source_new (λ value. value) (as_passed result)
