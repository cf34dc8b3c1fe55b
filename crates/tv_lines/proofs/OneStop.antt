-- The bytes of a block decide what testing and printing it say.
use Rattle.std.proofs.Common.{◌≡◌, ◌∙◌, ◌∷◌, ◌++◌, ◌+◌, ◌-◌, ◌^◌, ◌<◌, ℕ, List, [], Result, Ok, Err, map, refl, sym, ap, subst, arith, length, length-append, append-nil}
use Rattle.tv_base.specs.Parts.{Begins}
use Rattle.tv_base.specs.ReadsAs.{Shows}
use Rattle.tv_base.specs.declared.cause.Cause.TheVariants.{UnexpectedEnd}
use Rattle.tv_field.specs.Entry.{Entry}
use Rattle.tv_format.specs.Encoding.{EncodesDocument}
use Rattle.tv_format.specs.InputError.{Refusal, corrupted, no_text_key}
use Rattle.tv_format.specs.Tree.{Document}
use Rattle.tv_format.specs.Version.{Version}
use Rattle.tv_lines.proofs.OnePrint.{OneText, printed_one}
use Rattle.tv_lines.specs.Alike.{ArePrintedAlike, IsDecided, IsTestDecided, IsWorkDecided}
use Rattle.tv_lines.specs.Checking.{RefusesBlock, TestsBlock}
use Rattle.tv_lines.specs.Exporting.{BreaksOff, Exported, PrintsBlock}
use Rattle.tv_lines.specs.Printing.{ArePrinted}
use Rattle.tv_lines.specs.declared.errors.WorkError.{WorkError}
use Rattle.tv_lines.specs.declared.errors.WorkError.TheVariants as work
use Rattle.tv_lines.specs.declared.export.JsonLayout.{JsonLayout}
use Rattle.tv_reader.specs.Error.{IsRefusal}
use Rattle.tv_reader.specs.Error.IsRefusal.{is_corrupted, is_no_text}
use Rattle.tv_reader.specs.Legacy.{Legacy}
use Rattle.tv_reader.specs.ValueType.{value_type_code}
use Rattle.tv_reader.specs.declared.error.DeserializeError.{DeserializeError}
use Rattle.tv_reader.specs.declared.error.DeserializeError.TheVariants as errors
use Rattle.tv_reader.specs.declared.value_type.ValueType.TheVariants as types
use Rattle.tv_store.proofs.Alike.{one_refusal, same_error}
use Rattle.tv_store.proofs.MigratedAlike.{Compared, compared, one_block}
use Rattle.tv_store.proofs.MigratedAlike.Compared.{same_documents, first_ends, second_ends}
use Rattle.tv_store.proofs.Promises.{excluded}
use Rattle.tv_store.proofs.Standing.{left_alike, stands_document}
use Rattle.tv_store.specs.BlockMigration.{EncodesBlock}
use Rattle.tv_store.specs.Documents.{NoDocument}
use Rattle.tv_store.specs.Projections.{EncodesBlockWithin, IsReason, IsRefusedAt, kept, limits_of}
use Rattle.tv_store.specs.declared.block.RefusedDocument.{RefusedDocument}
use Rattle.tv_store.specs.declared.limits.LimitedReadError.{LimitedReadError}
use Rattle.tv_store.specs.declared.limits.LimitedReadError.TheVariants as limited
use Rattle.tv_store.specs.declared.limits.ReadLimits.{ReadLimits}
use Rattle.tv_store.specs.declared.projection.Projection.{Projection}
use Rattle.tv_store.specs.declared.projection.Projection.TheVariants.{All}

-- what is within limits is a block
block_of : (v : Version) (limits : ReadLimits) (block : List ℕ) (ds : List Document) → EncodesBlockWithin v limits block ds → EncodesBlock v block ds
block_of v limits block [] none = none
block_of v limits block (d ∷ ds) each = record { prefix = each.prefix; rest = each.rest; joined = each.joined; first = each.first.encoded; second = block_of v limits each.rest ds each.second }

-- ---- reasons

-- the refusal that a reason tells
record Told (v : Version) (bytes left : List ℕ) (e : LimitedReadError) : Type 0 where
  error : DeserializeError
  is : e ≡ limited.Read error
  refusal : Refusal
  tells : IsRefusal error refusal
  stands : NoDocument v bytes refusal
  shows : Shows (corrupted UnexpectedEnd) (NoDocument v) bytes left refusal

module _ (v : Version) (p : Projection) where
  told : (bytes left : List ℕ) (e : LimitedReadError) → length bytes < 2 ^ 64 - 1 → IsDecided e → IsReason v p bytes left e → Told v bytes left e
  told bytes left (limited.Read (errors.CorruptedValue c)) few decided reason =
      record { error = errors.CorruptedValue c; is = refl; refusal = corrupted c; tells = is_corrupted; stands = reason.true_of few; shows = reason.shown few (corrupted c) is_corrupted }
  told bytes left (limited.Read (errors.TypeMismatch types.String actual)) few decided reason =
      let r = no_text_key (value_type_code actual) in
      record { error = errors.TypeMismatch types.String actual; is = refl; refusal = r; tells = is_no_text; stands = reason.true_of few; shows = reason.shown few r is_no_text }
  told bytes left (limited.Read (errors.TypeMismatch _ actual)) few decided reason = absurd (reason.true_of few)
  told bytes left (limited.Read errors.HeapFull) few decided reason = absurd (decided.1 refl)
  told bytes left (limited.Read (errors.Io kind)) few decided reason = absurd (decided.0 tt)
  told bytes left (limited.Read errors.Memory) few decided reason = absurd (decided.0 tt)
  told bytes left (limited.Read _) few decided reason = absurd (reason.true_of few)
  told bytes left (limited.Limit l) few decided reason = absurd decided

  one_reason : (bytes left other : List ℕ) (e f : LimitedReadError) → Told v bytes left e → Told v bytes other f → (e ≡ f) × (left ≡ other)
  one_reason bytes left other e f a b =
      let same = one_refusal v bytes a.refusal b.refusal a.stands b.stands in
      let shown = subst (λ (z : Refusal). Shows (corrupted UnexpectedEnd) (NoDocument v) bytes other z) (sym same) b.shows in
      (a.is ∙ ap limited.Read (same_error a.error b.error a.refusal b.refusal a.tells b.tells same) ∙ sym b.is, left_alike (stands_document v) (one_refusal v) a.refusal bytes left other a.shows shown)

  no_reason : (d : Document) (bytes left after : List ℕ) (e : LimitedReadError) → Told v bytes left e → Begins (λ b. EncodesDocument Legacy v b d) bytes after → ⊥
  no_reason d bytes left after e t begins = excluded v bytes begins.prefix after d t.refusal begins.joined begins.encoded t.stands

  -- the end is no reason
  no_end : (bytes left : List ℕ) (e : LimitedReadError) → IsDecided e → IsReason v p bytes left e → bytes ≡ [] → ⊥
  no_end bytes left (limited.Read error) decided reason none = decided.0 (reason.at_end none)
  no_end bytes left (limited.Limit l) decided reason none = reason.at_end none

  -- ---- where a block breaks off

  pub record Breaks (block left : List ℕ) (e : RefusedDocument) : Type 0 where
    pub before : List ℕ
    pub behind : List ℕ
    pub joined : block ≡ before ++ behind
    pub documents : List Document
    pub encoded : EncodesBlock v before documents
    pub counted : e.document ≡ length documents
    pub refused : IsRefusedAt v p behind left (length before) e

  pub record AreOne (left other : List ℕ) (e f : RefusedDocument) (ds es : List Document) : Type 0 where
    pub error : e ≡ f
    pub rest : left ≡ other
    pub documents : ds ≡ es

  module _ (block : List ℕ) (few : length block < 2 ^ 64 - 1) where
    fewer : (before behind : List ℕ) → block ≡ before ++ behind → length before + length behind < 2 ^ 64 - 1
    fewer before behind joined = omega (arith, few, ap length joined, length-append before behind)

    its_told : (left : List ℕ) (e : RefusedDocument) → IsDecided e.error → (h : Breaks block left e) → Told v h.behind left e.error
    its_told left e decided h = told h.behind left e.error (omega (arith, fewer h.before h.behind h.joined)) decided h.refused.reason

    pub breaks_one : (left other : List ℕ) (e f : RefusedDocument) → IsDecided e.error → IsDecided f.error → (h : Breaks block left e) (k : Breaks block other f) → AreOne left other e f h.documents k.documents
    breaks_one left other e f decided too h k = by_lists (compared v h.documents k.documents h.before h.behind k.before k.behind h.encoded k.encoded (sym h.joined ∙ k.joined))
      where
        sum : length block ≡ length h.before + length h.behind
        sum = ap length h.joined ∙ length-append h.before h.behind

        also_sum : length block ≡ length k.before + length k.behind
        also_sum = ap length k.joined ∙ length-append k.before k.behind

        by_lists : Compared v h.documents k.documents h.behind k.behind → AreOne left other e f h.documents k.documents
        by_lists (same_documents same rests) =
            let lengths = ap length rests in
            let mine = its_told left e decided h in
            let yours = its_told other f too k in
            let one = one_reason k.behind left other e.error f.error (subst (λ (l : List ℕ). Told v l left e.error) rests mine) yours in
            let document : e.document ≡ f.document = h.counted ∙ ap length same ∙ sym k.counted in
            let start : e.start ≡ f.start = omega (arith, h.refused.begins (fewer h.before h.behind h.joined), k.refused.begins (fewer k.before k.behind k.joined), sum, also_sum, lengths) in
            let place : e.place ≡ f.place = omega (arith, h.refused.placed (fewer h.before h.behind h.joined), k.refused.placed (fewer k.before k.behind k.joined), sum, also_sum, lengths, ap length one.1) in
            record { error = (λ i. record { document = document i; start = start i; place = place i; error = one.0 i }); rest = one.1; documents = same }
        by_lists (first_ends d after begins) = absurd (no_reason d h.behind left after e.error (its_told left e decided h) begins)
        by_lists (second_ends d after begins) = absurd (no_reason d k.behind other after f.error (its_told other f too k) begins)

    -- a block of documents doesn't
    pub breaks_none : (ds : List Document) (left : List ℕ) (e : RefusedDocument) → IsDecided e.error → EncodesBlock v block ds → Breaks block left e → ⊥
    breaks_none ds left e decided encoded h = by_lists (compared v ds h.documents block [] h.before h.behind encoded h.encoded (append-nil block ∙ h.joined))
      where
        by_lists : Compared v ds h.documents [] h.behind → ⊥
        by_lists (same_documents same rests) = no_end h.behind left e.error decided h.refused.reason (sym rests)
        by_lists (first_ends d after begins) = at_prefix begins.prefix (sym begins.joined) begins.encoded
          where
            at_prefix : (prefix : List ℕ) → prefix ++ after ≡ [] → EncodesDocument Legacy v prefix d → ⊥
            at_prefix [] is first = no_reason d h.behind left h.behind e.error (its_told left e decided h) (record { prefix = []; joined = refl; encoded = first })
            at_prefix (b ∷ bytes) is first = absurd (cc)
        by_lists (second_ends d after begins) = no_reason d h.behind left after e.error (its_told left e decided h) begins

-- ---- a block that is tested

module _ (v : Version) (limits : ReadLimits) (block : List ℕ) (few : length block < 2 ^ 64 - 1) where
  refused_breaks : (left : List ℕ) (e : RefusedDocument) → RefusesBlock v limits block left e → Breaks v (All limits) block left e
  refused_breaks left e h =
      let documents = h.documents in
      record { before = h.before; behind = h.behind; joined = h.joined; documents = documents.0; encoded = block_of v limits h.before documents.0 documents.1; counted = documents.2; refused = h.refused }

  pub tests_alike : (left other : List ℕ) (result twin : Result ℕ RefusedDocument) → IsTestDecided result → IsTestDecided twin → TestsBlock v limits block left result → TestsBlock v limits block other twin → (result ≡ twin) × (left ≡ other)
  tests_alike left other (Ok n) (Ok m) decided too h k =
      let same = one_block v block h.0.0 k.0.0 (block_of v limits block h.0.0 h.0.1) (block_of v limits block k.0.0 k.0.1) in
      let number : n ≡ m = h.0.2 ∙ ap length same ∙ sym k.0.2 in
      (ap Ok number, h.1 ∙ sym k.1)
  tests_alike left other (Ok n) (Err f) decided too h k = absurd (breaks_none v (All limits) block few h.0.0 other f too (block_of v limits block h.0.0 h.0.1) (refused_breaks other f k))
  tests_alike left other (Err e) (Ok m) decided too h k = absurd (breaks_none v (All limits) block few k.0.0 left e decided (block_of v limits block k.0.0 k.0.1) (refused_breaks left e h))
  tests_alike left other (Err e) (Err f) decided too h k =
      let one = breaks_one v (All limits) block few left other e f decided too (refused_breaks left e h) (refused_breaks other f k) in (ap Err one.error, one.rest)

-- ---- a block that is printed

module _ (text_one : OneText) (schema : List Entry) (layout : JsonLayout) (v : Version) (p : Projection) (block : List ℕ) (few : length block < 2 ^ 64 - 1) (old : List ℕ) where
  read_breaks : (left new : List ℕ) (e : RefusedDocument) → BreaksOff schema layout v p block left old new (work.Read e) → Breaks v p block left e
  read_breaks left new e h =
      record { before = h.before; behind = h.behind; joined = h.joined; documents = h.documents; encoded = block_of v (limits_of p) h.before h.documents h.exported.encoded; counted = h.next.1; refused = h.next.2 }

  -- the same documents are printed alike
  exported_alike : (before second new other : List ℕ) (ds es : List Document) → ds ≡ es → Exported schema layout v p before old new ds → Exported schema layout v p second old other es → new ≡ other
  exported_alike before second new other ds es same h k =
      let lines = printed_one text_one schema layout (map (kept p) es) h.lines k.lines (subst (λ (l : List Document). ArePrinted schema layout (map (kept p) l) h.lines) same h.printed) k.printed in
      h.held ∙ ap (λ (l : List ℕ). old ++ l) lines ∙ sym k.held

  pub prints_alike : (left other new second : List ℕ) (result twin : Result ℕ WorkError) → IsWorkDecided result → IsWorkDecided twin → PrintsBlock schema layout v p block left old new result → PrintsBlock schema layout v p block other old second twin
      → ArePrintedAlike left other new second result twin
  unfolding read_breaks
  prints_alike left other new second (Ok n) (Ok m) decided too h k =
      let same = one_block v block h.0 k.0 (block_of v (limits_of p) block h.0 h.1.encoded) (block_of v (limits_of p) block k.0 k.1.encoded) in
      let number : n ≡ m = h.2 ∙ ap length same ∙ sym k.2 in
      record { same = ap Ok number; appended = exported_alike block block new second h.0 k.0 same h.1 k.1; rest = λ is. absurd (cc (is)) }
  prints_alike left other new second (Ok n) (Err (work.Read f)) decided too h k = absurd (breaks_none v p block few h.0 other f too (block_of v (limits_of p) block h.0 h.1.encoded) (read_breaks other second f k))
  prints_alike left other new second (Err (work.Read e)) (Ok m) decided too h k = absurd (breaks_none v p block few k.0 left e decided (block_of v (limits_of p) block k.0 k.1.encoded) (read_breaks left new e h))
  prints_alike left other new second (Err (work.Read e)) (Err (work.Read f)) decided too h k =
      let one = breaks_one v p block few left other e f decided too (read_breaks left new e h) (read_breaks other second f k) in
      record {
        same = ap (λ (z : RefusedDocument). Err (work.Read z)) one.error;
        appended = h.next.0 ∙ exported_alike h.before k.before h.middle k.middle h.documents k.documents one.documents h.exported k.exported ∙ sym k.next.0;
        rest = λ is. one.rest;
      }
  prints_alike left other new second (Ok n) (Err f) decided too h k = absurd too
  prints_alike left other new second (Err (work.Read e)) (Err f) decided too h k = absurd too
  prints_alike left other new second (Err e) twin decided too h k = absurd decided
