-- Two calls that migrate the same bytes return, write and leave the same.
use Rattle.std.proofs.Common.{◌≡◌, ℕ, ◌+◌, ◌-◌, ◌^◌, ◌<◌, ◌≤◌, List, [], ◌∷◌, ◌++◌, inl, inr, length, Result, Ok, Err, refl, sym, ap, subst, ◌∙◌, arith, append_assoc, append-nil, length-append}
use Rattle.std.specs.List.{flat_map}
use Rattle.std.proofs.lemmas.List.{append_cancel_left}
use Rattle.tv_base.specs.declared.cause.Cause.TheVariants.{UnexpectedEnd}
use Rattle.tv_base.specs.declared.sink.ByteSink.{Ghosts as Sink}
use Rattle.tv_base.specs.declared.source.ByteSource.{Ghosts}
use Rattle.tv_base.specs.Parts.{Begins}
use Rattle.tv_base.specs.ReadsAs.{Known, Shows}
use Rattle.tv_base.specs.Sink.{AppendsPrefix}
use Rattle.tv_doc.specs.Document.{document_of}
use Rattle.tv_doc.specs.declared.document.CompactDoc.{CompactDoc}
use Rattle.tv_format.specs.Encoding.{EncodesDocument}
use Rattle.tv_format.specs.InputError.{Refusal, corrupted, no_text_key}
use Rattle.tv_format.specs.Short.{short_document}
use Rattle.tv_format.specs.Tree.{Document}
use Rattle.tv_format.specs.Version.{Version}
use Rattle.tv_format.proofs.Trees.{one_document}
use Rattle.tv_reader.specs.Error.{IsRefusal}
use Rattle.tv_reader.specs.Error.IsRefusal.{is_corrupted, is_no_text}
use Rattle.tv_reader.specs.Legacy.{Legacy}
use Rattle.tv_reader.specs.ValueType.{value_type_code}
use Rattle.tv_reader.specs.declared.error.DeserializeError.{DeserializeError}
use Rattle.tv_reader.specs.declared.error.DeserializeError.TheVariants as errors
use Rattle.tv_reader.specs.declared.value_type.ValueType.TheVariants as types
use Rattle.tv_reader.proofs.UniqueLegacy.{one_legacy}
use Rattle.tv_store.proofs.Alike.{alike, determined_documents, one_refusal, same_error}
use Rattle.tv_store.proofs.Blocks.{no_document}
use Rattle.tv_store.proofs.Promises.{excluded}
use Rattle.tv_store.proofs.Standing.{left_alike, stands_document}
use Rattle.tv_store.specs.Alike.{AreAlike, AreMigratedAlike, IsBlockDecided, IsDecided, IsDecidedError, IsMigrationDecided, IsReasonDecided}
use Rattle.tv_store.specs.BlockMigration.{EncodesBlock, MigratesAll, MigratesBefore, MigratesBlock}
use Rattle.tv_store.specs.Documents.{NoDocument}
use Rattle.tv_store.specs.Migrate.{Migrates, Rewrites}
use Rattle.tv_store.specs.Projections.{IsReason, IsRefusedAt, PassesLimit, no_limits}
use Rattle.tv_store.specs.Reading.{documents}
use Rattle.tv_store.specs.declared.block.RefusedDocument.{RefusedDocument}
use Rattle.tv_store.specs.declared.block_migration.MigrateBlockError.{MigrateBlockError}
use Rattle.tv_store.specs.declared.block_migration.MigrateBlockError.TheVariants as block
use Rattle.tv_store.specs.declared.limits.LimitedReadError.{LimitedReadError}
use Rattle.tv_store.specs.declared.limits.LimitedReadError.TheVariants as limited
use Rattle.tv_store.specs.declared.limits.ReadLimit.{ReadLimit}
use Rattle.tv_store.specs.declared.limits.ReadLimit.TheVariants as limit
use Rattle.tv_store.specs.declared.migration.MigrateError.{MigrateError}
use Rattle.tv_store.specs.declared.migration.MigrateError.TheVariants as migration
use Rattle.tv_store.specs.declared.projection.Projection.TheVariants.{All}

-- ---- one document

module _ {S K : Type 0} (from to : Version) (source : Ghosts S) (sink : Sink K) (begun ended other : S) (old new also : K) (known : Known source begun) (told : sink.is_known old) where
  rewrites_alike : (read second : Result CompactDoc DeserializeError) (result twin : Result (Unit {0}) MigrateError) → IsMigrationDecided result → IsMigrationDecided twin
      → (IsDecided read → IsDecided second → AreAlike document_of (source.left ended) (source.left other) read second) → Rewrites to sink old new read result → Rewrites to sink old also second twin
      → AreMigratedAlike (source.left ended) (source.left other) (sink.held new) (sink.held also) result twin
  rewrites_alike (Ok d) (Ok e) (Ok x) (Ok y) decided too same first second =
      let both = same tt tt in
      record { same = refl; rest = both.1; written = first.1.appends told ∙ ap (λ (z : Document). sink.held old ++ short_document to z) both.0 ∙ sym (second.1.appends told) }
  rewrites_alike (Err e) (Err f) (Err (migration.Read g)) (Err (migration.Read h)) decided too same first second =
      let mine : g ≡ e = cc (first.0) in
      let yours : h ≡ f = cc (second.0) in
      let both = same (subst IsDecidedError mine decided) (subst IsDecidedError yours too) in
      record { same = ap (λ (z : DeserializeError). Err (migration.Read z)) (mine ∙ both.0 ∙ sym yours); rest = both.1; written = ap sink.held (first.1 ∙ sym second.1) }
  rewrites_alike (Ok d) (Err f) (Ok x) (Err (migration.Read h)) decided too same first second = let yours : h ≡ f = cc (second.0) in absurd (same tt (subst IsDecidedError yours too))
  rewrites_alike (Err e) (Ok d) (Err (migration.Read g)) (Ok y) decided too same first second = let mine : g ≡ e = cc (first.0) in absurd (same (subst IsDecidedError mine decided) tt)
  rewrites_alike (Ok d) read (Err (migration.Read g)) twin decided too same first second = absurd first.2
  rewrites_alike read (Ok d) result (Err (migration.Read g)) decided too same first second = absurd second.2
  rewrites_alike (Err e) read (Ok x) twin decided too same first second = let is = first.0 in absurd (cc (is))
  rewrites_alike read (Err e) result (Ok x) decided too same first second = let is = second.0 in absurd (cc (is))
  rewrites_alike read second (Err (migration.Write e)) twin decided too same first also = absurd decided
  rewrites_alike read second result (Err (migration.Write e)) decided too same first also = absurd too

  pub migrated_alike : (result twin : Result (Unit {0}) MigrateError) → IsMigrationDecided result → IsMigrationDecided twin → Migrates from to source begun ended sink old new result → Migrates from to source begun other sink old also twin
      → AreMigratedAlike (source.left ended) (source.left other) (sink.held new) (sink.held also) result twin
  migrated_alike result twin decided too first second =
      rewrites_alike first.read second.read result twin decided too
      (λ mine yours. alike (documents from) source document_of begun (determined_documents from) known ended other first.read second.read mine yours first.reads second.reads) first.rewrites second.rewrites

-- ---- documents one after the other

-- some of two lists of documents are the same, and then one of them goes on, or neither
pub data Compared (v : Version) (ds es : List Document) (rest other : List ℕ) : Type 0 where
  same_documents : ds ≡ es → rest ≡ other → Compared v ds es rest other
  first_ends : (d : Document) (left : List ℕ) → Begins (λ b. EncodesDocument Legacy v b d) rest left → Compared v ds es rest other
  second_ends : (d : Document) (left : List ℕ) → Begins (λ b. EncodesDocument Legacy v b d) other left → Compared v ds es rest other

more_compared : {v : Version} {ds es : List Document} {rest other : List ℕ} (d e : Document) → d ≡ e → Compared v ds es rest other → Compared v (d ∷ ds) (e ∷ es) rest other
more_compared {ds = ds} {es = es} d e same (same_documents docs left) = same_documents (ap (λ (z : Document). z ∷ ds) same ∙ ap (λ (z : List Document). e ∷ z) docs) left
more_compared d e same (first_ends next left begins) = first_ends next left begins
more_compared d e same (second_ends next left begins) = second_ends next left begins

-- what comes first of what is left of a block
next_of_block : (v : Version) (block rest : List ℕ) (d : Document) (ds : List Document) (bytes : List ℕ) → EncodesBlock v block (d ∷ ds) → bytes ≡ block ++ rest → (left : List ℕ) × Begins (λ b. EncodesDocument Legacy v b d) bytes left
next_of_block v block rest d ds bytes each joined =
    (each.rest ++ rest, record { prefix = each.prefix; joined = joined ∙ ap (λ (l : List ℕ). l ++ rest) each.joined ∙ append_assoc each.prefix each.rest rest; encoded = each.first })

pub compared : (v : Version) (ds es : List Document) (block rest second other : List ℕ) → EncodesBlock v block ds → EncodesBlock v second es → block ++ rest ≡ second ++ other → Compared v ds es rest other
compared v [] [] block rest second other none also joined = same_documents refl (ap (λ (l : List ℕ). l ++ rest) (sym none) ∙ joined ∙ ap (λ (l : List ℕ). l ++ other) also)
compared v [] (e ∷ es) block rest second other none each joined =
    let next = next_of_block v second other e es rest each (ap (λ (l : List ℕ). l ++ rest) (sym none) ∙ joined) in
    first_ends e next.0 next.1
compared v (d ∷ ds) [] block rest second other each none joined =
    let next = next_of_block v block rest d ds other each (ap (λ (l : List ℕ). l ++ other) (sym none) ∙ sym joined) in
    second_ends d next.0 next.1
compared v (d ∷ ds) (e ∷ es) block rest second other each also joined =
    let both : each.prefix ++ (each.rest ++ rest) ≡ also.prefix ++ (also.rest ++ other) =
    sym (append_assoc each.prefix each.rest rest) ∙ ap (λ (l : List ℕ). l ++ rest) (sym each.joined) ∙ joined ∙ ap (λ (l : List ℕ). l ++ other) also.joined ∙ append_assoc also.prefix also.rest other in
    let one = one_document Legacy v one_legacy each.prefix also.prefix (each.rest ++ rest) (also.rest ++ other) d e each.first also.first both in
    more_compared d e one.1 (compared v ds es each.rest rest also.rest other each.second also.second (cancel each.prefix also.prefix (each.rest ++ rest) (also.rest ++ other) one.0 both))
  where
    cancel : (a b x y : List ℕ) → a ≡ b → a ++ x ≡ b ++ y → x ≡ y
    cancel a b x y same joined = append_cancel_left a x y (joined ∙ ap (λ (l : List ℕ). l ++ y) (sym same))

-- each document has a byte at least
few_documents : (v : Version) (block : List ℕ) (ds : List Document) → EncodesBlock v block ds → length ds ≤ length block
few_documents v block [] none = omega arith
few_documents v block (d ∷ ds) each =
    let rest = few_documents v each.rest ds each.second in
    let some = has_bytes each.prefix each.first in
    omega (arith, rest, some, ap length each.joined, length-append each.prefix each.rest)
  where
    has_bytes : (bytes : List ℕ) → EncodesDocument Legacy v bytes d → 0 < length bytes
    has_bytes [] encoded = absurd (no_document v [] d refl encoded)
    has_bytes (b ∷ bytes) encoded = omega arith

no_next : (v : Version) (d : Document) (rest left : List ℕ) → rest ≡ [] → Begins (λ b. EncodesDocument Legacy v b d) rest left → ⊥
no_next v d rest left none begins = at_prefix begins.prefix (sym begins.joined ∙ none) begins.encoded
  where
    at_prefix : (prefix : List ℕ) → prefix ++ left ≡ [] → EncodesDocument Legacy v prefix d → ⊥
    at_prefix [] is encoded = no_document v [] d refl encoded
    at_prefix (b ∷ bytes) is encoded = absurd (cc)

-- nothing is left of either
same_whole : {v : Version} {ds es : List Document} → Compared v ds es [] [] → ds ≡ es
same_whole (same_documents same left) = same
same_whole {v = v} (first_ends d left begins) = absurd (no_next v d [] left refl begins)
same_whole {v = v} (second_ends d left begins) = absurd (no_next v d [] left refl begins)

pub one_block : (v : Version) (block : List ℕ) (ds es : List Document) → EncodesBlock v block ds → EncodesBlock v block es → ds ≡ es
one_block v block ds es first second = same_whole (compared v ds es block [] block [] first second refl)

-- ---- reasons

-- no limit is passed where none is set
no_limit : (v : Version) (bytes left : List ℕ) (l : ReadLimit) → PassesLimit v no_limits bytes left l → ⊥
no_limit v bytes left limit.Bytes passes = let most = passes.0.encoded in absurd (cc)
no_limit v bytes left limit.HeapBytes passes = passes.encoded.large
no_limit v bytes left limit.Depth passes = elim passes.encoded [ inl lists ↦ lists.deep | inr nests ↦ nests.deeper tt ]

-- the refusal that a reason tells
record Told (v : Version) (bytes left : List ℕ) (e : LimitedReadError) : Type 0 where
  error : DeserializeError
  is : e ≡ limited.Read error
  refusal : Refusal
  tells : IsRefusal error refusal
  stands : NoDocument v bytes refusal
  shows : Shows (corrupted UnexpectedEnd) (NoDocument v) bytes left refusal

told : (v : Version) (bytes left : List ℕ) (e : LimitedReadError) → length bytes < 2 ^ 64 - 1 → IsReasonDecided e → IsReason v (All no_limits) bytes left e → Told v bytes left e
told v bytes left (limited.Read (errors.CorruptedValue c)) few decided reason =
    record { error = errors.CorruptedValue c; is = refl; refusal = corrupted c; tells = is_corrupted; stands = reason.true_of few; shows = reason.shown few (corrupted c) is_corrupted }
told v bytes left (limited.Read (errors.TypeMismatch types.String actual)) few decided reason =
    let r = no_text_key (value_type_code actual) in
    record { error = errors.TypeMismatch types.String actual; is = refl; refusal = r; tells = is_no_text; stands = reason.true_of few; shows = reason.shown few r is_no_text }
told v bytes left (limited.Read (errors.TypeMismatch _ actual)) few decided reason = absurd (reason.true_of few)
told v bytes left (limited.Read errors.HeapFull) few decided reason = absurd (decided.1 refl)
told v bytes left (limited.Read (errors.Io kind)) few decided reason = absurd (decided.0 tt)
told v bytes left (limited.Read errors.Memory) few decided reason = absurd (decided.0 tt)
told v bytes left (limited.Read _) few decided reason = absurd (reason.true_of few)
told v bytes left (limited.Limit l) few decided reason = absurd (no_limit v bytes left l reason.true_of)

-- two reasons that the bytes decide are one, which the same bytes show
one_reason : (v : Version) (bytes left other : List ℕ) (e f : LimitedReadError) → Told v bytes left e → Told v bytes other f → (e ≡ f) × (left ≡ other)
one_reason v bytes left other e f a b =
    let same = one_refusal v bytes a.refusal b.refusal a.stands b.stands in
    let shown = subst (λ (z : Refusal). Shows (corrupted UnexpectedEnd) (NoDocument v) bytes other z) (sym same) b.shows in
    (a.is ∙ ap limited.Read (same_error a.error b.error a.refusal b.refusal a.tells b.tells same) ∙ sym b.is, left_alike (stands_document v) (one_refusal v) a.refusal bytes left other a.shows shown)

-- of bytes that begin with a document there is none
no_reason : (v : Version) (d : Document) (bytes left after : List ℕ) (e : LimitedReadError) → Told v bytes left e → Begins (λ b. EncodesDocument Legacy v b d) bytes after → ⊥
no_reason v d bytes left after e t begins = excluded v bytes begins.prefix after d t.refusal begins.joined begins.encoded t.stands

-- nor at the end
no_end : (v : Version) (bytes left : List ℕ) (e : LimitedReadError) → IsReasonDecided e → IsReason v (All no_limits) bytes left e → bytes ≡ [] → ⊥
no_end v bytes left (limited.Read error) decided reason none = decided.0 (reason.at_end none)
no_end v bytes left (limited.Limit l) decided reason none = reason.at_end none

same_places : (e f : RefusedDocument) → e.document ≡ f.document → e.start ≡ f.start → e.place ≡ f.place → e.error ≡ f.error → e ≡ f
same_places e f document start place error = λ i. record { document = document i; start = start i; place = place i; error = error i }

-- two refusals of the document with which the same bytes begin
refused_alike : (v : Version) (bytes left other : List ℕ) (start : ℕ) (e f : RefusedDocument) → start + length bytes < 2 ^ 64 - 1 → IsReasonDecided e.error → IsReasonDecided f.error → e.document ≡ f.document
    → IsRefusedAt v (All no_limits) bytes left start e → IsRefusedAt v (All no_limits) bytes other start f → (e ≡ f) × (left ≡ other)
refused_alike v bytes left other start e f few decided too numbered first second =
    let fewer : length bytes < 2 ^ 64 - 1 = omega (arith, few) in
    let one = one_reason v bytes left other e.error f.error (told v bytes left e.error fewer decided first.reason) (told v bytes other f.error fewer too second.reason) in
    (same_places e f numbered (first.begins few ∙ sym (second.begins few)) (omega (arith, first.placed few, second.placed few, ap length one.1)) one.0, one.1)

-- ---- blocks

module _ {K : Type 0} (from to : Version) (block_bytes : List ℕ) (few : length block_bytes < 2 ^ 64 - 1) (sink : Sink K) (old new also : K) (known : sink.is_known old) where
  -- what was appended
  none_after : (held now text : List ℕ) → AppendsPrefix held now [] → now ≡ held
  none_after held now text h = h.2 ∙ ap (λ (l : List ℕ). held ++ l) (first_none h.0 h.1.0 (sym h.1.1)) ∙ append-nil held
    where
      first_none : (a b : List ℕ) → a ++ b ≡ [] → a ≡ []
      first_none [] b is = refl
      first_none (x ∷ a) b is = absurd (cc)

  held_then : {held now next : List ℕ} → next ≡ [] → AppendsPrefix held now next → now ≡ held
  held_then {held = held} {now = now} is h = none_after held now [] (subst (AppendsPrefix held now) is h)

  same_text : {a b : List ℕ} {ds es : List Document} → ds ≡ es → a ≡ flat_map (short_document to) ds → b ≡ flat_map (short_document to) es → a ≡ b
  same_text same first second = first ∙ ap (flat_map (short_document to)) same ∙ sym second

  all_alike : (left other : List ℕ) (n m : ℕ) → left ≡ [] → other ≡ [] → MigratesAll from to block_bytes sink old new n → MigratesAll from to block_bytes sink old also m → AreMigratedAlike {X = ℕ} {E = MigrateBlockError} left other (sink.held new) (sink.held also) (Ok n) (Ok m)
  all_alike left other n m none nothing first second = by_lists (compared from first.migrated.documents second.migrated.documents block_bytes [] block_bytes [] first.migrated.encoded second.migrated.encoded refl)
    where
      by_lists : Compared from first.migrated.documents second.migrated.documents [] [] → AreMigratedAlike {X = ℕ} {E = MigrateBlockError} left other (sink.held new) (sink.held also) (Ok n) (Ok m)
      by_lists (same_documents same rests) = record {
        same = ap (λ (z : ℕ). Ok z) (first.counted ∙ ap length same ∙ sym second.counted);
        rest = none ∙ sym nothing;
        written = first.held known ∙ ap (λ (l : List ℕ). sink.held old ++ l) (same_text same first.migrated.written second.migrated.written) ∙ sym (second.held known);
      }
      by_lists (first_ends d after begins) = absurd (no_next from d [] after refl begins)
      by_lists (second_ends d after begins) = absurd (no_next from d [] after refl begins)

  -- not all of the documents, where one of them is refused
  not_all : (n : ℕ) (left : List ℕ) (e : RefusedDocument) → IsReasonDecided e.error → MigratesAll from to block_bytes sink old new n → MigratesBefore from to block_bytes left sink old also (block.Read e) → ⊥
  not_all n left e decided first second = by_lists (compared from first.migrated.documents second.migrated.documents block_bytes [] second.before second.behind first.migrated.encoded second.migrated.encoded (append-nil block_bytes ∙ second.joined))
    where
      reason : IsReason from (All no_limits) second.behind left e.error
      reason = second.unmigrated.2.reason

      by_lists : Compared from first.migrated.documents second.migrated.documents [] second.behind → ⊥
      by_lists (same_documents same rests) = no_end from second.behind left e.error decided reason (sym rests)
      by_lists (first_ends d after begins) = no_next from d [] after refl begins
      by_lists (second_ends d after begins) =
          no_reason from d second.behind left after e.error (told from second.behind left e.error (omega (arith, few, ap length second.joined, length-append second.before second.behind)) decided reason) begins

  -- nor are there so many
  never_many : (left : List ℕ) → MigratesBefore from to block_bytes left sink old new block.TooMany → ⊥
  never_many left h = omega (arith, few, h.unmigrated.2, few_documents from h.before h.migrated.documents h.migrated.encoded, ap length h.joined, length-append h.before h.behind)

  reads_alike : (left other : List ℕ) (e f : RefusedDocument) → IsReasonDecided e.error → IsReasonDecided f.error → MigratesBefore from to block_bytes left sink old new (block.Read e) → MigratesBefore from to block_bytes other sink old also (block.Read f)
      → AreMigratedAlike {X = ℕ} left other (sink.held new) (sink.held also) (Err (block.Read e)) (Err (block.Read f))
  reads_alike left other e f decided too first second = by_lists (compared from first.migrated.documents second.migrated.documents first.before first.behind second.before second.behind first.migrated.encoded second.migrated.encoded (sym first.joined ∙ second.joined))
    where
      sum : length block_bytes ≡ length first.before + length first.behind
      sum = ap length first.joined ∙ length-append first.before first.behind

      also_sum : length block_bytes ≡ length second.before + length second.behind
      also_sum = ap length second.joined ∙ length-append second.before second.behind

      by_lists : Compared from first.migrated.documents second.migrated.documents first.behind second.behind → AreMigratedAlike {X = ℕ} left other (sink.held new) (sink.held also) (Err (block.Read e)) (Err (block.Read f))
      by_lists (same_documents same rests) =
          let starts : length second.before ≡ length first.before = omega (arith, sum, also_sum, ap length rests) in
          let refused = subst (λ (l : List ℕ). IsRefusedAt from (All no_limits) l other (length first.before) f) (sym rests) (subst (λ (n : ℕ). IsRefusedAt from (All no_limits) second.behind other n f) starts second.unmigrated.2) in
          let one = refused_alike from first.behind left other (length first.before) e f (omega (arith, few, sum)) decided too (first.unmigrated.1 ∙ ap length same ∙ sym second.unmigrated.1) first.unmigrated.2 refused in
          record {
            same = ap (λ (z : RefusedDocument). Err (block.Read z)) one.0;
            rest = one.1;
            written = held_then first.unmigrated.0 (first.held known) ∙ ap (λ (l : List ℕ). sink.held old ++ l) (same_text same first.migrated.written second.migrated.written) ∙ sym (held_then second.unmigrated.0 (second.held known));
          }
      by_lists (first_ends d after begins) = absurd (no_reason from d first.behind left after e.error (told from first.behind left e.error (omega (arith, few, sum)) decided first.unmigrated.2.reason) begins)
      by_lists (second_ends d after begins) = absurd (no_reason from d second.behind other after f.error (told from second.behind other f.error (omega (arith, few, also_sum)) too second.unmigrated.2.reason) begins)

module _ {S K : Type 0} (from to : Version) (source : Ghosts S) (sink : Sink K) (begun ended other : S) (old new also : K) (known : Known source begun) (sees : sink.is_known old) where
  pub blocks_alike : (result twin : Result ℕ MigrateBlockError) → IsBlockDecided result → IsBlockDecided twin → MigratesBlock from to source begun ended sink old new result → MigratesBlock from to source begun other sink old also twin
      → AreMigratedAlike (source.left ended) (source.left other) (sink.held new) (sink.held also) result twin
  blocks_alike (Ok n) (Ok m) decided too first second = all_alike from to (source.left begun) known.1 sink old new also sees (source.left ended) (source.left other) n m (first.ended known.0) (second.ended known.0) (first.all known.0) (second.all known.0)
  blocks_alike (Err (block.Read e)) (Err (block.Read f)) decided too first second = reads_alike from to (source.left begun) known.1 sink old new also sees (source.left ended) (source.left other) e f decided too (first.before known.0) (second.before known.0)
  blocks_alike (Ok n) (Err (block.Read f)) decided too first second = absurd (not_all from to (source.left begun) known.1 sink old new also sees n (source.left other) f too (first.all known.0) (second.before known.0))
  blocks_alike (Err (block.Read e)) (Ok m) decided too first second = absurd (not_all from to (source.left begun) known.1 sink old also new sees m (source.left ended) e decided (second.all known.0) (first.before known.0))
  blocks_alike (Err block.TooMany) twin decided too first second = absurd (never_many from to (source.left begun) known.1 sink old new also sees (source.left ended) (first.before known.0))
  blocks_alike result (Err block.TooMany) decided too first second = absurd (never_many from to (source.left begun) known.1 sink old also new sees (source.left other) (second.before known.0))
  blocks_alike (Err (block.Write document start e)) twin decided too first second = absurd decided
  blocks_alike result (Err (block.Write document start e)) decided too first second = absurd too
