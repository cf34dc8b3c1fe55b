-- Documents of a block, one after the other.
use Rattle.std.proofs.Common.{◌≡◌, ℕ, ◌-◌, ◌^◌, ◌<◌, List, [], ◌∷◌, ◌++◌, length, map, refl, sym, subst, ap, ◌∙◌, arith, length-append}
use Rattle.tv_blocks.specs.Blocks.{IsPrintedBlock, IsRefusedBlock}
use Rattle.tv_lines.specs.Exporting.{BreaksOff, ExportsAll}
use Rattle.tv_lines.specs.Printing.{ArePrinted}
use Rattle.tv_lines.specs.declared.export.JsonLayout.TheVariants.{Compact}
use Rattle.tv_lines.specs.declared.errors.WorkError.{WorkError}
use Rattle.tv_lines.specs.declared.errors.WorkError.TheVariants as work
use Rattle.tv_blocks.specs.Refusals.{document_refusal, export_refusal, migration_refusal, refusal_within}
use Rattle.tv_field.specs.Entry.{Entry}
use Rattle.tv_format.specs.InputError.{Refusal, corrupted, no_text_key}
use Rattle.tv_format.specs.Tree.{Document}
use Rattle.tv_format.specs.Version.{Version}
use Rattle.tv_reader.specs.Error.{IsRefusal}
use Rattle.tv_reader.specs.Error.IsRefusal.{is_corrupted, is_no_text}
use Rattle.tv_reader.specs.ValueType.{value_type_code}
use Rattle.tv_reader.specs.declared.error.DeserializeError.{DeserializeError}
use Rattle.tv_reader.specs.declared.error.DeserializeError.TheVariants as errors
use Rattle.tv_reader.specs.declared.value_type.ValueType.{ValueType}
use Rattle.tv_reader.specs.declared.value_type.ValueType.TheVariants as types
use Rattle.tv_store.specs.BlockMigration.{EncodesBlock, IsUnmigrated}
use Rattle.tv_store.specs.Documents.{NoDocument, HasNoRoom, IsReadingError, SaysNothing}
use Rattle.tv_store.proofs.BlockMigration.{without_limits}
use Rattle.tv_store.specs.Projections.{IsReason, IsRefusedAt, kept, no_limits}
use Rattle.tv_store.specs.declared.block.RefusedDocument.{RefusedDocument}
use Rattle.tv_store.specs.declared.block_migration.MigrateBlockError.{MigrateBlockError}
use Rattle.tv_store.specs.declared.block_migration.MigrateBlockError.TheVariants.{Read, Write, TooMany}
use Rattle.tv_store.specs.declared.limits.LimitedReadError.{LimitedReadError}
use Rattle.tv_store.specs.declared.limits.LimitedReadError.TheVariants as limited
use Rattle.tv_store.specs.declared.projection.Projection.TheVariants.{All}

-- ---- refusals

pub breaks : (v : Version) (block before behind : List ℕ) (documents : List Document) (start : ℕ) (e : DeserializeError) → block ≡ before ++ behind → start ≡ length before → (behind ≡ [] → SaysNothing e)
    → EncodesBlock v before documents → ((r : Refusal) → IsRefusal e r → NoDocument v behind r) → (e ≡ errors.HeapFull → HasNoRoom v behind) → IsReadingError e
    → IsRefusedBlock v block (document_refusal start e)
breaks v block before behind documents start (errors.CorruptedValue c) joined at some encoded refused full may =
    record { before = before; behind = behind; joined = joined; measured = at; some = some; documents = documents; encoded = encoded; refused = refused (corrupted c) is_corrupted }
breaks v block before behind documents start errors.HeapFull joined at some encoded refused full may =
    record { before = before; behind = behind; joined = joined; measured = at; some = some; documents = documents; encoded = encoded; refused = full refl }
breaks v block before behind documents start (errors.TypeMismatch other actual) joined at some encoded refused full may =
    let is : IsRefusal (errors.TypeMismatch other actual) (no_text_key (value_type_code actual)) = subst (λ (t : ValueType). IsRefusal (errors.TypeMismatch t actual) (no_text_key (value_type_code actual))) (sym may) is_no_text in
    record { before = before; behind = behind; joined = joined; measured = at; some = some; documents = documents; encoded = encoded; refused = (value_type_code actual, refused (no_text_key (value_type_code actual)) is) }
breaks v block before behind documents start e joined at some encoded refused full may = tt

-- of a document that isn't migrated
unread_breaks : (v : Version) (block before behind left : List ℕ) (documents : List Document) (start : ℕ) (e : DeserializeError) → block ≡ before ++ behind → start ≡ length before → EncodesBlock v before documents → length behind < 2 ^ 64 - 1
    → IsReason v (All no_limits) behind left (limited.Read e) → IsRefusedBlock v block (document_refusal start e)
unread_breaks v block before behind left documents start (errors.CorruptedValue c) joined at encoded few reason =
    record { before = before; behind = behind; joined = joined; measured = at; some = reason.at_end; documents = documents; encoded = encoded; refused = reason.true_of few }
unread_breaks v block before behind left documents start (errors.TypeMismatch types.String actual) joined at encoded few reason =
    record { before = before; behind = behind; joined = joined; measured = at; some = reason.at_end; documents = documents; encoded = encoded; refused = (value_type_code actual, reason.true_of few) }
unread_breaks v block before behind left documents start (errors.TypeMismatch other actual) joined at encoded few reason = absurd (reason.true_of few)
unread_breaks v block before behind left documents start errors.HeapFull joined at encoded few reason =
    record { before = before; behind = behind; joined = joined; measured = at; some = reason.at_end; documents = documents; encoded = encoded; refused = reason.true_of few }
unread_breaks v block before behind left documents start e joined at encoded few reason = tt

-- a document that is refused without limits
refused_breaks : (v : Version) (block before behind left : List ℕ) (documents : List Document) (e : RefusedDocument) → block ≡ before ++ behind → length block < 2 ^ 63 → EncodesBlock v before documents
    → IsRefusedAt v (All no_limits) behind left (length before) e → IsRefusedBlock v block (refusal_within e.start e.error)
refused_breaks v block before behind left documents e joined small encoded refused =
    let sum = ap length joined ∙ length-append before behind in
    by_error e.error refused.reason (refused.begins (omega (arith, small, sum)))
  where
    by_error : (why : LimitedReadError) → IsReason v (All no_limits) behind left why → e.start ≡ length before → IsRefusedBlock v block (refusal_within e.start why)
    by_error (limited.Read why) reason at = unread_breaks v block before behind left documents e.start why joined at encoded (omega (arith, small, ap length joined, length-append before behind)) reason
    by_error (limited.Limit l) reason at = tt

pub migration_breaks : (from to : Version) (block before behind left next : List ℕ) (documents : List Document) (error : MigrateBlockError) → block ≡ before ++ behind → length block < 2 ^ 63 → EncodesBlock from before documents
    → IsUnmigrated from to behind left (length documents) (length before) next error → IsRefusedBlock from block (migration_refusal error)
migration_breaks from to block before behind left next documents (Read e) joined small encoded unmigrated = refused_breaks from block before behind left documents e joined small encoded unmigrated.2
migration_breaks from to block before behind left next documents (Write document start e) joined small encoded unmigrated = tt
migration_breaks from to block before behind left next documents TooMany joined small encoded unmigrated = tt

-- ---- printing

-- all of each document is kept
all_kept : (documents : List Document) → map (kept (All no_limits)) documents ≡ documents
all_kept [] = refl
all_kept (d ∷ ds) = ap (λ (l : List Document). d ∷ l) (all_kept ds)

pub prints_all : {entries : List Entry} {v : Version} {block lines : List ℕ} {number : ℕ} → ExportsAll entries Compact v (All no_limits) block [] lines number → IsPrintedBlock entries v block lines
prints_all {entries} {v} {block} {lines} (documents, exported, number) = (
  documents,
  without_limits v block documents exported.encoded,
  subst (λ (ds : List Document). ArePrinted entries Compact ds lines) (all_kept documents) (subst (ArePrinted entries Compact (map (kept (All no_limits)) documents)) (sym exported.held) exported.printed),
)

pub export_breaks : {entries : List Entry} {v : Version} {block left lines : List ℕ} (error : WorkError) → length block < 2 ^ 63 → BreaksOff entries Compact v (All no_limits) block left [] lines error → IsRefusedBlock v block (export_refusal error)
export_breaks {v = v} {block} {left} (work.Read e) small m = refused_breaks v block m.before m.behind left m.documents e m.joined small (without_limits v m.before m.documents m.exported.encoded) m.next.2
export_breaks (work.Write e) small m = tt
export_breaks work.Memory small m = tt
export_breaks work.TooMany small m = tt
