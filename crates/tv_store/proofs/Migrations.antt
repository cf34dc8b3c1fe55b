-- What comes of a document that is read in one version and written in another.
use Rattle.std.proofs.Common.{◌≡◌, ℕ, ◌≤◌, List, ◌++◌, Result, Ok, Err, Some, None, refl, sym, ◌∙◌, ap, subst}
use Rattle.std.specs.Option.{ForSome}
use Rattle.std.specs.Prelude.{IsErrOf}
use Rattle.std.specs.declared.io.ErrorKind.TheVariants.{OutOfMemory}
use Rattle.tv_base.specs.declared.sink.ByteSink.{Ghosts as Sink}
use Rattle.tv_base.specs.declared.source.ByteSource.{Ghosts as Source}
use Rattle.tv_base.specs.ReadsAs.{Known, IsReadUnless}
use Rattle.tv_base.specs.Sink.{WritesBy}
use Rattle.tv_base.specs.Source.{Failures}
use Rattle.tv_base.specs.Stop.{CountsStop}
use Rattle.tv_doc.specs.Document.{document_of}
use Rattle.tv_doc.specs.declared.document.CompactDoc.{CompactDoc}
use Rattle.tv_format.specs.Encoding.{EncodesDocument}
use Rattle.tv_format.specs.Short.{short_document}
use Rattle.tv_format.specs.Tree.{Document}
use Rattle.tv_format.specs.Version.{Version, IsWritten}
use Rattle.tv_format.specs.WriteVersion.{written_version}
use Rattle.tv_format.specs.declared.leaf_type.WriteVersion.{WriteVersion}
use Rattle.tv_format.specs.declared.leaf_type.WriteVersion.TheVariants as versions
use Rattle.tv_heap.specs.Room.{document_room}
use Rattle.tv_reader.specs.Legacy.{Legacy}
use Rattle.tv_reader.specs.Error.{store_stop}
use Rattle.tv_reader.specs.declared.error.DeserializeError.{DeserializeError}
use Rattle.tv_reader.specs.declared.error.DeserializeError.TheVariants as errors
use Rattle.tv_store.specs.BlockMigration.{Transcribes}
use Rattle.tv_store.specs.Documents.{SaysNothing}
use Rattle.tv_store.specs.Migrate.{IsMemory, Migrates, Rewrites, sink_stop}
use Rattle.tv_store.specs.Reading.{ReadsDocument}
use Rattle.tv_store.specs.declared.migration.MigrateError.{MigrateError}
use Rattle.tv_store.specs.declared.migration.MigrateError.TheVariants.{Read, Write}
use Rattle.tv_store.specs.declared.round_trip.RoundTripError.{RoundTripError}
use Rattle.tv_store.specs.declared.round_trip.RoundTripError.TheVariants as trips
use Rattle.tv_writer.specs.Error.{write_stop, IsIoOrMemory}
use Rattle.tv_writer.specs.declared.serializers.SerializeError.{SerializeError}
use Rattle.tv_writer.specs.declared.serializers.SerializeError.TheVariants as writes

-- ---- writing, in the errors of migrating

pub rewritten : {K : Type 0} {sink : Sink K} {old new : K} {x y : Unit {0}} {text : List ℕ} → WritesBy write_stop sink.is_known sink.held sink.failures old new (Ok x) (Ok text) → WritesBy sink_stop sink.is_known sink.held sink.failures old new (Ok y) (Ok text)
rewritten h = record { appends = h.appends; stays_known = h.stays_known; counts = h.counts }

pub unwritten : {K : Type 0} {sink : Sink K} {old new : K} {e : SerializeError} {text : List ℕ} → WritesBy {T = Unit {0}} write_stop sink.is_known sink.held sink.failures old new (Err e) (Ok text) → WritesBy {T = Unit {0}} sink_stop sink.is_known sink.held sink.failures old new (Err (Write e)) (Ok text)
unwritten h = record { appends = h.appends; stays_known = h.stays_known; counts = h.counts }

-- ---- what the promise of migrating gives

read_is : {T : Type 0} (e f : DeserializeError) → IsErrOf {T = T} (Err (Read e)) (Read f) → e ≡ f
read_is e f is = cc

module _ {S K : Type 0} (from to : Version) (source : Source S) (old new : S) (sink : Sink K) (begun ended : K) where
  transcribed_at : (read : Result CompactDoc DeserializeError) (x : Unit {0}) → ReadsDocument from source old new document_of read → Rewrites to sink begun ended read (Ok x) → source.is_known old → sink.is_known begun
      → (text : List ℕ) × (sink.held ended ≡ sink.held begun ++ text) × Transcribes from to (source.left old) (source.left new) text
  transcribed_at (Ok d) x reads w known told = (short_document to (document_of d), w.1.appends told, record { document = document_of d; read = reads.found known; valid = w.0; written = refl })
  transcribed_at (Err e) x reads w known told = absurd (cc)

  unread_at : (read : Result CompactDoc DeserializeError) (result : Result (Unit {0}) MigrateError) (e : DeserializeError) → ReadsDocument from source old new document_of read → Rewrites to sink begun ended read result → IsErrOf result (Read e) → ReadsDocument from source old new document_of (Err e) × (ended ≡ begun)
  unread_at (Err f) result e reads w is = (subst (λ z. ReadsDocument from source old new document_of (Err z)) (read_is f e (sym w.0 ∙ is)) reads, w.1)
  unread_at (Ok d) (Ok x) e reads w is = absurd (cc)
  unread_at (Ok d) (Err (Read f)) e reads w is = absurd w.2
  unread_at (Ok d) (Err (Write f)) e reads w is = absurd (cc)

  all_at : (read : Result CompactDoc DeserializeError) (x : Unit {0}) (d : Document) (rest left : List ℕ) → sink.is_known begun → IsReadUnless SaysNothing document_of read d rest left → Rewrites to sink begun ended read (Ok x) → (left ≡ rest) × (sink.held ended ≡ sink.held begun ++ short_document to d)
  all_at (Ok d) x e rest left told a w = (a.1, w.1.appends told ∙ ap (λ z. sink.held begun ++ short_document to z) a.0)
  all_at (Err f) x e rest left told a w = absurd (cc)

  written_at : (read : Result CompactDoc DeserializeError) (e : SerializeError) → Rewrites to sink begun ended read (Err (Write e)) → IsIoOrMemory e × CountsStop (write_stop e) (sink.failures begun) (sink.failures ended)
  written_at (Ok d) e w = (w.2, w.1.counts)
  written_at (Err f) e w = absurd (cc)

module _ {S K : Type 0} {from to : Version} {source : Source S} {old new : S} {sink : Sink K} {begun ended : K} {result : Result (Unit {0}) MigrateError} (m : Migrates from to source old new sink begun ended result) where
  -- what was migrated
  pub transcribed : {x : Unit {0}} → result ≡ Ok x → source.is_known old → sink.is_known begun → (text : List ℕ) × (sink.held ended ≡ sink.held begun ++ text) × Transcribes from to (source.left old) (source.left new) text
  transcribed {x = x} is known told = transcribed_at from to source old new sink begun ended m.read x m.reads (subst (λ z. Rewrites to sink begun ended m.read z) is m.rewrites) known told

  -- what couldn't be read
  pub unread : (e : DeserializeError) → IsErrOf result (Read e) → ReadsDocument from source old new document_of (Err e) × (ended ≡ begun)
  unread e is = unread_at from to source old new sink begun ended m.read result e m.reads m.rewrites is

  -- what a prefix encodes that has room is appended
  pub all_migrated : {x : Unit {0}} → result ≡ Ok x → Known source old → sink.is_known begun → (d : Document) (prefix rest : List ℕ) → source.left old ≡ prefix ++ rest → EncodesDocument Legacy from prefix d → document_room d ≤ 4294967295 → (source.left new ≡ rest) × (sink.held ended ≡ sink.held begun ++ short_document to d)
  all_migrated {x = x} is known told d prefix rest joined encoded small =
      all_at from to source old new sink begun ended m.read x d rest (source.left new) told (m.reads.only known d prefix rest joined encoded small) (subst (λ z. Rewrites to sink begun ended m.read z) is m.rewrites)

  -- where no read fails and what is encoded has room, only memory is left
  pub only_memory : (e : MigrateError) → result ≡ Err e → Known source old → (d : Document) (prefix rest : List ℕ) → source.left old ≡ prefix ++ rest → EncodesDocument Legacy from prefix d → document_room d ≤ 4294967295 → (source.failures new).last ≡ None
      → ForSome (sink.failures ended).last (λ kind. kind ≡ OutOfMemory) → IsMemory e
  only_memory (Write e) is known d prefix rest joined encoded small last kinds = written e (written_at from to source old new sink begun ended m.read e (subst (λ z. Rewrites to sink begun ended m.read z) is m.rewrites))
    where
      written : (e : SerializeError) → IsIoOrMemory e × CountsStop (write_stop e) (sink.failures begun) (sink.failures ended) → IsMemory (Write e)
      written (writes.Io k) may = kinds k may.1.kept
      written writes.Memory may = tt
      written _ may = absurd may.0
  only_memory (Read e) is known d prefix rest joined encoded small last kinds = let r = (unread e is).0 in left e (source.failures old) (source.failures new) (r.only known d prefix rest joined encoded small) last r.failures
    where
      none_is : {A : Type 0} {x : A} → None ≡ Some x → ⊥
      none_is e = cc

      left : (e : DeserializeError) (f g : Failures) → SaysNothing e → g.last ≡ None → CountsStop (store_stop e) f g → IsMemory (Read e)
      left (errors.Io k) f g may last counts = absurd (none_is (sym last ∙ counts.kept))
      left errors.Memory f g may last counts = tt
      left _ f g may last counts = absurd may

pub is_written : (to : WriteVersion) → IsWritten (written_version to)
is_written versions.V2 = tt
is_written versions.V3 = tt

-- another error than HeapFull
pub not_full : (e : RoundTripError) → (e ≡ trips.HeapFull → ⊥) → e ≡ trips.Memory
not_full trips.HeapFull none = absurd (none refl)
not_full trips.Memory none = refl
