-- Documents of a block that are carried over to another version, one after the other.
use Rattle.std.proofs.Common.{◌≡◌, ℕ, ◌+◌, ◌-◌, ◌^◌, ◌<◌, true, false, List, [], ◌∷◌, ◌++◌, length, Ok, Err, refl, sym, ap, subst, ◌∙◌, arith, append_assoc, append-nil, length-append}
use Rattle.std.specs.List.{flat_map}
use Rattle.tv_base.specs.declared.sink.ByteSink.{Ghosts as Sink}
use Rattle.tv_base.specs.declared.source.ByteSource.{Ghosts as Source}
use Rattle.tv_base.specs.Parts.{Each}
use Rattle.tv_base.specs.Sink.{AppendsPrefix, Halts}
use Rattle.tv_base.specs.Source.{Failures}
use Rattle.tv_base.specs.Stop.{CountsStop}
use Rattle.tv_doc.specs.Document.{document_of}
use Rattle.tv_doc.specs.declared.document.CompactDoc.{CompactDoc}
use Rattle.tv_format.specs.Short.{short_document, IsDocument}
use Rattle.tv_format.specs.Tree.{Document}
use Rattle.tv_format.specs.Version.{Version}
use Rattle.tv_reader.specs.Error.{store_stop}
use Rattle.tv_reader.specs.Version.{version_of}
use Rattle.tv_reader.specs.declared.error.DeserializeError.{DeserializeError}
use Rattle.tv_reader.specs.declared.error.DeserializeError.TheVariants as errors
use Rattle.tv_store.specs.BlockMigration.{EncodesBlock, IsUnmigrated, MigratesAll, MigratesBefore}
use Rattle.tv_store.specs.BlockSteps.{StepsBlock, refusal_of}
use Rattle.tv_store.specs.Documents.{BeginsWithDocument, SaysNothing}
use Rattle.tv_store.specs.Limits.{limited_stop}
use Rattle.tv_store.specs.Projections.{EncodesWithinLimits, IsReason, no_limits, refused_stop}
use Rattle.tv_store.specs.Reading.{ReadsNext, reading}
use Rattle.tv_store.specs.declared.block.BlockReader.{BlockReader}
use Rattle.tv_store.specs.declared.block.RefusedDocument.{RefusedDocument}
use Rattle.tv_store.specs.declared.block_migration.MigrateBlockError.{MigrateBlockError}
use Rattle.tv_store.specs.declared.block_migration.MigrateBlockError.TheVariants.{Read, Write}
use Rattle.tv_store.specs.declared.limits.LimitedReadError.{LimitedReadError}
use Rattle.tv_store.specs.declared.limits.LimitedReadError.TheVariants as limited
use Rattle.tv_store.specs.declared.projection.Projection.TheVariants.{All}
use Rattle.tv_store.proofs.BlocksSoFar.{ReadSoFar, begins_at, read_more, read_none, refused_at, whole_before}
use Rattle.tv_store.proofs.Projections.{one_whole, start_after, within_none}
use Rattle.tv_store.proofs.Resuming.{reads_live}
use Rattle.tv_writer.specs.Error.{IsIoOrMemory, Unwritten, write_stop}
use Rattle.tv_writer.specs.declared.serializers.SerializeError.{SerializeError}
use Rattle.tv_writer.specs.declared.serializers.SerializeError.TheVariants as writes

flat-snoc : {A : Type 0} (f : A → List ℕ) (xs : List A) (x : A) → flat_map f (xs ++ x ∷ []) ≡ flat_map f xs ++ f x
flat-snoc f [] x = append-nil (f x)
flat-snoc f (y ∷ ys) x = ap (λ (l : List ℕ). f y ++ l) (flat-snoc f ys x) ∙ sym (append_assoc (f y) (flat_map f ys) (f x))

-- what is left of a slice is no longer than it
pub no_more_left : (block before rest : List ℕ) → block ≡ before ++ rest → length block < 2 ^ 63 → length rest < 2 ^ 64 - 1
no_more_left block before rest joined few = let sum = ap length joined ∙ length-append before rest in omega (arith, sum, few)

pub without_limits : (v : Version) (block : List ℕ) (documents : List Document) → Each (EncodesWithinLimits v no_limits) block documents → EncodesBlock v block documents
without_limits v block [] none = none
without_limits v block (d ∷ ds) each = record { prefix = each.prefix; rest = each.rest; joined = each.joined; first = each.first.encoded; second = without_limits v each.rest ds each.second }

-- nothing is written
pub writes_nothing : (held : List ℕ) → AppendsPrefix held held []
writes_nothing held = ([], ([], refl), sym (append-nil held))

-- ---- the documents so far

-- so far the documents before the rest of the block, of this number, were carried over
pub record MigratedSoFar {K : Type 0} (from to : Version) (block rest : List ℕ) (number start : ℕ) (sink : Sink K) (begun now : K) : Type 0 where
  pub read : ReadSoFar from no_limits block rest number start
  pub text : List ℕ
  pub written : text ≡ flat_map (short_document to) read.documents
  pub held : sink.is_known begun → sink.held now ≡ sink.held begun ++ text

pub none_so_far : {K : Type 0} (from to : Version) (block : List ℕ) (start : ℕ) (sink : Sink K) (begun : K) → start ≡ 0 → MigratedSoFar from to block block 0 start sink begun begun
none_so_far from to block start sink begun is = record { read = read_none from no_limits block start is; text = []; written = refl; held = λ told. sym (append-nil (sink.held begun)) }

module _ {K : Type 0} {from to : Version} {block rest : List ℕ} {number start : ℕ} {sink : Sink K} {begun now : K} (m : MigratedSoFar from to block rest number start sink begun now) where
  pub migrated_more : {left : List ℕ} {after : K} {next : ℕ} (d : Document) → BeginsWithDocument from rest left d → length left < length rest → (start + length rest < 2 ^ 64 → next + length left ≡ start + length rest) → (sink.is_known begun → sink.is_known now)
      → (sink.is_known now → sink.held after ≡ sink.held now ++ short_document to d) → MigratedSoFar from to block left (number + 1) next sink begun after
  migrated_more d begins fewer placed known appended = record {
    read = read_more m.read d (record { prefix = begins.prefix; joined = begins.joined; encoded = within_none begins.encoded }) fewer placed;
    text = m.text ++ short_document to d;
    written = ap (λ (l : List ℕ). l ++ short_document to d) m.written ∙ sym (flat-snoc (short_document to) m.read.documents d);
    held = λ told. appended (known told) ∙ ap (λ (l : List ℕ). l ++ short_document to d) (m.held told) ∙ append_assoc (sink.held begun) m.text (short_document to d);
  }

  pub all_so_far : rest ≡ [] → MigratesAll from to block sink begun now number
  all_so_far none = record {
    text = m.text;
    migrated = record { documents = m.read.documents; encoded = subst (λ (l : List ℕ). EncodesBlock from l m.read.documents) (sym (whole_before m.read none)) (without_limits from m.read.before m.read.documents m.read.encoded); written = m.written };
    counted = m.read.counted;
    held = m.held;
  }

  -- it stops before the next document, of which this text was to be written
  pub stopped : {left : List ℕ} {after : K} (error : MigrateBlockError) (next : List ℕ) → (sink.is_known begun → sink.is_known now) → IsUnmigrated from to rest left (length m.read.documents) (length m.read.before) next error
      → (sink.is_known now → AppendsPrefix (sink.held now) (sink.held after) next) → MigratesBefore from to block left sink begun after error
  stopped {after = after} error next known unmigrated begins = record {
    before = m.read.before;
    behind = rest;
    joined = m.read.joined;
    text = m.text;
    migrated = record { documents = m.read.documents; encoded = without_limits from m.read.before m.read.documents m.read.encoded; written = m.written };
    next = next;
    unmigrated = unmigrated;
    held = λ told. subst (λ (l : List ℕ). AppendsPrefix l (sink.held after) next) (m.held told) (begins (known told));
  }

-- a beginning of the text was written
pub begun_of : (held now text : List ℕ) (e : SerializeError) → IsIoOrMemory e → Halts {R = Unwritten} (write_stop e) held now (Ok text) → AppendsPrefix held now text
begun_of held now text (writes.Io kind) may h = h
begun_of held now text writes.Memory may h = h
begun_of held now text _ may h = absurd may

-- ---- the next document

module _ {S K : Type 0} {source : Source S} {source_old source_new : S} {old new : BlockReader} {from to : Version} {block : List ℕ} {number : ℕ} {sink : Sink K} {begun now : K} (m : MigratedSoFar from to block (source.left source_old) number old.start sink begun now) (live : old.failed ≡ false) (same : version_of old.version ≡ from) (known : source.is_known source_old) where
  -- it was read
  next_begins : StepsBlock SaysNothing errors.AlreadyFailed source source_old source_new old new (Ok true) → ReadsNext source source_old source_new old new (Ok true) → BeginsWithDocument from (source.left source_old) (source.left source_new) (document_of new.document)
  next_begins steps reads = subst (λ (v : Version). BeginsWithDocument v (source.left source_old) (source.left source_new) (document_of new.document)) same ((reads_live reading errors.AlreadyFailed live reads).found known)

  -- it was carried over
  pub next_migrated : {after : K} {shown : CompactDoc} → StepsBlock SaysNothing errors.AlreadyFailed source source_old source_new old new (Ok true) → ReadsNext source source_old source_new old new (Ok true) → shown ≡ new.document → (sink.is_known begun → sink.is_known now)
      → (sink.is_known now → sink.held after ≡ sink.held now ++ short_document to (document_of shown)) → MigratedSoFar from to block (source.left source_new) (number + 1) new.start sink begun after
  next_migrated steps reads is told appended =
      migrated_more m (document_of new.document) (next_begins steps reads) (steps.fewer known refl) (start_after steps live known) told (λ k. appended k ∙ ap (λ (d : CompactDoc). sink.held now ++ short_document to (document_of d)) is)

  -- it can't be read, and nothing was written
  pub next_unread : {error : DeserializeError} {e : RefusedDocument} → e ≡ refusal_of new (limited.Read error) → old.documents ≡ number → StepsBlock SaysNothing errors.AlreadyFailed source source_old source_new old new (Err error) → ReadsNext source source_old source_new old new (Err error)
      → (sink.is_known begun → sink.is_known now) → MigratesBefore from to block (source.left source_new) sink begun now (Read e)
  next_unread {error} {e} is counted steps reads told =
      let reason = one_whole source (version_of old.version) (Err error) new.document (reads_live reading errors.AlreadyFailed live reads) (steps.end live) (steps.ended live) known in
      stopped m (Read e) [] told (
        refl,
        ap (λ (z : RefusedDocument). z.document) is ∙ steps.counted.documents ∙ counted ∙ m.read.counted,
        refused_at m.read live known (limited.Read error) e is steps (subst (λ (v : Version). IsReason v (All no_limits) (source.left source_old) (source.left source_new) (limited.Read error)) same reason),
      )
      (λ k. writes_nothing (sink.held now))

  -- it was read, and can't be written
  pub next_unwritten : {after : K} {shown : CompactDoc} {start : ℕ} {error : SerializeError} → StepsBlock SaysNothing errors.AlreadyFailed source source_old source_new old new (Ok true) → ReadsNext source source_old source_new old new (Ok true) → shown ≡ new.document → start ≡ old.start → IsDocument (document_of shown) → IsIoOrMemory error → (sink.is_known begun → sink.is_known now)
      → (sink.is_known now → AppendsPrefix (sink.held now) (sink.held after) (short_document to (document_of shown))) → MigratesBefore from to block (source.left source_new) sink begun after (Write number start error)
  next_unwritten {after} {shown} {start} {error} steps reads is at valid reason told written =
      let begins = subst (λ (d : CompactDoc). BeginsWithDocument from (source.left source_old) (source.left source_new) (document_of d)) (sym is) (next_begins steps reads) in
      stopped m (Write number start error) (short_document to (document_of shown)) told
      (record { transcribed = record { document = document_of shown; read = begins; valid = valid; written = refl }; counted = m.read.counted; begins = λ few. at ∙ begins_at m.read few; reason = reason }) written

-- ---- failures

-- what was before the step is what was at the beginning
pub counts_unread : (e : DeserializeError) (refused : RefusedDocument) {begun old : Failures} (new : Failures) → refused.error ≡ limited.Read e → old ≡ begun → CountsStop (store_stop e) old new → CountsStop (refused_stop refused) begun new
counts_unread e refused {begun = begun} new is same counts =
    subst (λ (z : LimitedReadError). CountsStop (limited_stop z) begun new) (sym is) (subst (λ (f : Failures). CountsStop (store_stop e) f new) same counts)

pub counts_unwritten : (e : SerializeError) {begun old : Failures} (new : Failures) → old ≡ begun → CountsStop (write_stop e) old new → CountsStop (write_stop e) begun new
counts_unwritten e new same counts = subst (λ (f : Failures). CountsStop (write_stop e) f new) same counts
