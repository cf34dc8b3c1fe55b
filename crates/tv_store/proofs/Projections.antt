-- What reading the next document of a block promises, by what is kept of it.
use Rattle.std.proofs.Common.{◌≡◌, ℕ, ◌+◌, ◌-◌, ◌^◌, ◌<◌, min, Bool, true, false, List, [], ◌∷◌, ◌++◌, length, Result, Ok, Err, refl, sym, ap, subst, ◌∙◌, arith, length-append}
use Rattle.std.specs.Prelude.{IfErr, IsErrOf, OnOk, OnErr, Vec, cond}
use Rattle.std.specs.declared.alloc.Global.{Global}
use Rattle.std.proofs.lemmas.Result.{IfErr-at_err}
use Rattle.tv_base.specs.ReadsAs.{Grammar, Reads, Shows}
use Rattle.tv_base.specs.Stop.{Counts, CountsBy, CountsStop}
use Rattle.tv_base.specs.declared.cause.Cause.{Cause}
use Rattle.tv_base.specs.declared.cause.Cause.TheVariants.{TooLong, UnexpectedEnd}
use Rattle.tv_base.specs.declared.source.ByteSource.{Ghosts}
use Rattle.tv_doc.specs.Document.{document_of}
use Rattle.tv_doc.specs.declared.document.CompactDoc.{CompactDoc}
use Rattle.tv_format.specs.Encoding.{EncodesDocument}
use Rattle.tv_format.specs.InputError.{Refusal, corrupted, no_text_key}
use Rattle.tv_format.specs.Tree.{Document}
use Rattle.tv_format.specs.Version.{Version}
use Rattle.tv_reader.specs.Legacy.{Legacy}
use Rattle.tv_reader.specs.Error.{IsRefusal, store_stop}
use Rattle.tv_reader.specs.Error.IsRefusal.{is_corrupted, is_no_text}
use Rattle.tv_reader.specs.ValueType.{value_type_code}
use Rattle.tv_reader.specs.Version.{version_of}
use Rattle.tv_reader.specs.declared.error.DeserializeError.{DeserializeError}
use Rattle.tv_reader.specs.declared.error.DeserializeError.TheVariants as errors
use Rattle.tv_reader.specs.declared.value_type.ValueType.{ValueType}
use Rattle.tv_reader.specs.declared.value_type.ValueType.TheVariants as types
use Rattle.tv_reading.specs.Skip.{IsDocumentEncoding}
use Rattle.tv_store.specs.BlockSteps.{CountsNext, LeavesNone, StepsBlock, place_of, refusal_of}
use Rattle.tv_store.specs.Blocks.{SaysEndBut, SaysNothingWithin, as_passed, as_read, as_read_within}
use Rattle.tv_store.specs.Documents.{IsReadingError, NoDocument, SaysNothing}
use Rattle.tv_store.specs.Limits.{FitsLimits, IsPast, StopsNextWithin, at_least_one, limited_stop, within}
use Rattle.tv_store.specs.Projections.{EncodesWithinLimits, IsReason, IsRefusedBy, NoRoomFor, ReadsNextOf, ReadsOne, ReadsProjected, TakesNoMore, error_of, kept, limits_of, no_limits, refused_stop, with_error}
use Rattle.tv_store.specs.Reading.{chosen_pairs, documents, passed, reading}
use Rattle.tv_store.specs.declared.block.BlockReader.{BlockReader}
use Rattle.tv_store.specs.declared.block.RefusedDocument.{RefusedDocument}
use Rattle.tv_store.specs.declared.limits.LimitedReadError.{LimitedReadError}
use Rattle.tv_store.specs.declared.limits.LimitedReadError.TheVariants as limited
use Rattle.tv_store.specs.declared.limits.ReadLimit.TheVariants as limit
use Rattle.tv_store.specs.declared.limits.ReadLimits.{ReadLimits}
use Rattle.tv_store.specs.declared.projection.Projection.{Projection}
use Rattle.tv_store.specs.declared.projection.Projection.TheVariants.{All, Fields}
use Rattle.tv_store.proofs.Promises.{refusal_is_shown, refusal_is_true}
use Rattle.tv_value.specs.declared.field.Field.{Field}

-- ---- why a document is refused

-- an error of reading is true of the bytes
pub is_refused_by : (NoRoom : List ℕ → Type 0) (v : Version) (bytes : List ℕ) (e : DeserializeError) → ((r : Refusal) → IsRefusal e r → NoDocument v bytes r) → (e ≡ errors.HeapFull → NoRoom bytes) → IsReadingError e → IsRefusedBy NoRoom v bytes e
is_refused_by NoRoom v bytes (errors.CorruptedValue c) refused full may = refused (corrupted c) is_corrupted
is_refused_by NoRoom v bytes errors.HeapFull refused full may = full refl
is_refused_by NoRoom v bytes (errors.TypeMismatch other actual) refused full may =
    subst (λ (t : ValueType). IsRefusedBy NoRoom v bytes (errors.TypeMismatch t actual)) (sym may)
    (refused (no_text_key (value_type_code actual)) (subst (λ (t : ValueType). IsRefusal (errors.TypeMismatch t actual) (no_text_key (value_type_code actual))) (sym may) is_no_text))
is_refused_by NoRoom v bytes (errors.Io kind) refused full may = tt
is_refused_by NoRoom v bytes errors.Memory refused full may = tt
is_refused_by NoRoom v bytes _ refused full may = absurd may

-- nothing is left after nothing
none_after : (prefix rest : List ℕ) → [] ≡ prefix ++ rest → rest ≡ []
none_after [] rest is = sym is
none_after (b ∷ bs) rest is = absurd (cc)

-- the same bytes show an error that is told in other words
shows_as : {P Q : List ℕ → Refusal → Type 0} {old new : List ℕ} {r : Refusal} → ((bytes : List ℕ) (r : Refusal) → P bytes r → Q bytes r) → Shows (corrupted UnexpectedEnd) P old new r → Shows (corrupted UnexpectedEnd) Q old new r
shows_as {r = r} to s = record { taken = s.taken; joined = s.joined; shown = to s.taken r s.shown; all = s.all; early = λ other prefix byte last. to prefix (corrupted UnexpectedEnd) (s.early other prefix byte last) }

-- ---- without limits

-- every document is within no limits
pub within_none : {v : Version} {bytes : List ℕ} {d : Document} → EncodesDocument Legacy v bytes d → EncodesWithinLimits v no_limits bytes d
within_none encoded = record { encoded = encoded; small = λ past. past; light = λ past. past; shallow = tt }

module _ {S Y X : Type 0} {source : Ghosts S} {grammar : Grammar Refusal Y} {old new : S} {view : X → Y} (v : Version) (projection : Projection) where
  -- an error of reading is true of the bytes
  reason_of : (result : Result X DeserializeError) (e : DeserializeError) → result ≡ Err e → Reads reading grammar source old new view result → ((bytes : List ℕ) (r : Refusal) → grammar.HasError bytes r → NoDocument v bytes r)
      → (grammar.NoRoom (source.left old) → NoRoomFor v projection (source.left old)) → source.is_known old → (source.left old ≡ [] → SaysNothing e) → IsReason v projection (source.left old) (source.left new) (limited.Read e)
  reason_of result e is reads to room known ends = record {
    shown = λ few r refusal. shows_as to (refusal_is_shown (known, few) reads e r is refusal);
    true_of = λ few.
        is_refused_by (NoRoomFor v projection) v (source.left old) e (λ r refusal. to _ r (refusal_is_true (known, few) reads e r is refusal)) (λ full. room (reads.no_room known e is full))
        (IfErr-at_err IsReadingError is reads.errors);
    at_end = ends;
  }

pub end_of : {S Y X : Type 0} {source : Ghosts S} {grammar : Grammar Refusal Y} {old new : S} {view : X → Y} {result : Result X DeserializeError} → Reads reading grammar source old new view result → source.is_known old → source.left old ≡ [] → (source.left old ≡ []) × (source.left new ≡ [])
end_of {source = source} {new = new} reads known none = let t = reads.taken known in (none, none_after t.0 (source.left new) (sym none ∙ t.1))

module _ {S : Type 0} (source : Ghosts S) {old new : S} (v : Version) where
  pub one_whole : (result : Result Bool DeserializeError) (document : CompactDoc) → Reads reading (documents v) source old new document_of (as_read result document) → (source.is_known old → result ≡ Ok false → source.left old ≡ [])
      → (source.is_known old → source.left old ≡ [] → SaysEndBut SaysNothing result) → source.is_known old → ReadsOne v (All no_limits) (λ d. document_of document ≡ d) (source.left old) (source.left new) (with_error limited.Read result)
  one_whole (Ok true) document reads end ends known = let h = reads.found known in (document_of document, record { prefix = h.prefix; joined = h.joined; encoded = within_none h.encoded }, refl)
  one_whole (Ok false) document reads end ends known = end_of reads known (end known refl)
  one_whole (Err e) document reads end ends known = reason_of v (All no_limits) (Err e) e refl reads (λ bytes r h. h) (λ full. full) known (ends known)

  pub one_chosen : (result : Result Bool DeserializeError) (document : CompactDoc) (fields : Vec Field Global) → Reads reading (chosen_pairs v fields.items) source old new document_of (as_read result document)
      → (source.is_known old → result ≡ Ok false → source.left old ≡ []) → (source.is_known old → source.left old ≡ [] → SaysEndBut SaysNothing result) → source.is_known old
      → ReadsOne v (Fields fields) (λ d. document_of document ≡ kept (Fields fields) d) (source.left old) (source.left new) (with_error limited.Read result)
  one_chosen (Ok true) document fields reads end ends known = let h = reads.found known in (h.encoded.0, record { prefix = h.prefix; joined = h.joined; encoded = within_none h.encoded.1 }, h.encoded.2)
  one_chosen (Ok false) document fields reads end ends known = end_of reads known (end known refl)
  one_chosen (Err e) document fields reads end ends known = reason_of v (Fields fields) (Err e) e refl reads (λ bytes r h. h) (λ full. full) known (ends known)

  -- passed over, where no limits are set
  pub one_passed : (projection : Projection) → limits_of projection ≡ no_limits → (result : Result Bool DeserializeError) → Reads reading (passed (IsDocumentEncoding v) (NoDocument v)) source old new (λ x. x) (as_passed result)
      → (source.is_known old → result ≡ Ok false → source.left old ≡ []) → (source.is_known old → source.left old ≡ [] → SaysEndBut SaysNothing result) → source.is_known old
      → ReadsOne v projection (λ d. Unit {0}) (source.left old) (source.left new) (with_error limited.Read result)
  one_passed projection none (Ok true) reads end ends known =
      let h = reads.found known in
      (h.encoded.0, record { prefix = h.prefix; joined = h.joined; encoded = subst (λ (l : ReadLimits). EncodesWithinLimits v l h.prefix h.encoded.0) (sym none) (within_none h.encoded.1) }, tt)
  one_passed projection none (Ok false) reads end ends known = end_of reads known (end known refl)
  one_passed projection none (Err e) reads end ends known = reason_of v projection (Err e) e refl reads (λ bytes r h. h) (λ full. absurd full) known (ends known)

-- ---- within limits

-- an error of the bytes is true of them
pub refused_within : {S X : Type 0} {source : Ghosts S} {old new : S} {view : X → Document} {result : Result X LimitedReadError} (v : Version) (limits : ReadLimits) → source.is_known old → length (source.left old) < 2 ^ 64 - 1
    → Reads (within limits) (documents v) source old new view result → (e : DeserializeError) (r : Refusal) → IsErrOf result (limited.Read e) → IsRefusal e r → NoDocument v (source.left old) r
refused_within {source = source} {old = old} {new = new} {result = result} v limits known few reads _ _ is (is_corrupted {c = c}) = by_cause c is
  where
    by_cause : (c : Cause) → IsErrOf result (limited.Read (errors.CorruptedValue c)) → NoDocument v (source.left old) (corrupted c)
    by_cause TooLong is =
        let t = reads.too_long known (limited.Read (errors.CorruptedValue TooLong)) (corrupted UnexpectedEnd) is refl in
        absurd (omega (arith, few, ap length t.1, length-append t.0 (source.left new), t.2))
    by_cause c is = reads.error known (limited.Read (errors.CorruptedValue c)) (corrupted c) is refl
refused_within v limits known few reads _ _ is (is_no_text {actual = actual}) = reads.error known (limited.Read (errors.TypeMismatch types.String actual)) (no_text_key (value_type_code actual)) is refl

-- and just the bytes that show it were taken
pub shown_within : {S X : Type 0} {source : Ghosts S} {old new : S} {view : X → Document} {result : Result X LimitedReadError} (v : Version) (limits : ReadLimits) → source.is_known old → length (source.left old) < 2 ^ 64 - 1
    → Reads (within limits) (documents v) source old new view result → (e : DeserializeError) (r : Refusal) → IsErrOf result (limited.Read e) → IsRefusal e r → Shows (corrupted UnexpectedEnd) (NoDocument v) (source.left old) (source.left new) r
shown_within {source = source} {old = old} {new = new} {result = result} v limits known few reads _ _ is (is_corrupted {c = c}) = by_cause c is
  where
    by_cause : (c : Cause) → IsErrOf result (limited.Read (errors.CorruptedValue c)) → Shows (corrupted UnexpectedEnd) (NoDocument v) (source.left old) (source.left new) (corrupted c)
    by_cause TooLong is =
        let t = reads.too_long known (limited.Read (errors.CorruptedValue TooLong)) (corrupted UnexpectedEnd) is refl in
        absurd (omega (arith, few, ap length t.1, length-append t.0 (source.left new), t.2))
    by_cause c is = reads.shows known (limited.Read (errors.CorruptedValue c)) (corrupted c) is refl
shown_within v limits known few reads _ _ is (is_no_text {actual = actual}) = reads.shows known (limited.Read (errors.TypeMismatch types.String actual)) (no_text_key (value_type_code actual)) is refl

module _ {S : Type 0} (source : Ghosts S) {old new : S} (v : Version) (limits : ReadLimits) where
  pub one_within : (result : Result Bool LimitedReadError) (document : CompactDoc) → Reads (within limits) (documents v) source old new document_of (as_read_within result document) → StopsNextWithin v limits source old new result
      → (result ≡ Ok true → FitsLimits limits document) → (source.is_known old → result ≡ Ok false → source.left old ≡ [])
      → (source.is_known old → source.left old ≡ [] → SaysEndBut SaysNothingWithin result) → source.is_known old → ReadsOne v (All limits) (λ d. document_of document ≡ d) (source.left old) (source.left new) result
  one_within (Ok true) document reads stops fits end ends known =
      let h = reads.found known in
      let most = stops.small known refl in
      let same : length most.prefix ≡ length h.prefix = omega (arith, ap length most.joined, ap length h.joined, length-append most.prefix (source.left new), length-append h.prefix (source.left new)) in (
        document_of document,
        record {
          prefix = h.prefix;
          joined = h.joined;
          encoded = record {
            encoded = h.encoded;
            small = subst (λ (n : ℕ). ¬ IsPast limits.bytes n) same most.encoded;
            light = subst (λ (l : List ℕ). ¬ IsPast limits.heap_bytes (length l)) document.values.bytes (fits refl).small;
            shallow = (fits refl).shallow;
          };
        },
        refl,
      )
  one_within (Ok false) document reads stops fits end ends known = let t = reads.taken known in (end known refl, none_after t.0 (source.left new) (sym (end known refl) ∙ t.1))
  one_within (Err (limited.Read e)) document reads stops fits end ends known = record {
    true_of = λ few.
        is_refused_by (NoRoomFor v (All limits)) v (source.left old) e (λ r refusal. refused_within v limits known few reads e r refl refusal) (λ full. reads.no_room known (limited.Read e) refl (ap limited.Read full)) reads.errors;
    at_end = ends known;
    shown = λ few r refusal. shown_within v limits known few reads e r refl refusal;
  }
  one_within (Err (limited.Limit limit.Bytes)) document reads stops fits end ends known = record { true_of = stops.bytes known refl; at_end = ends known; shown = tt }
  one_within (Err (limited.Limit limit.HeapBytes)) document reads stops fits end ends known = record { true_of = stops.heap known refl; at_end = ends known; shown = tt }
  one_within (Err (limited.Limit limit.Depth)) document reads stops fits end ends known = record { true_of = stops.depth known refl; at_end = ends known; shown = tt }

-- what is kept needn't be said
pub any_document : (v : Version) (projection : Projection) (IsKept : Document → Type 0) (old new : List ℕ) (result : Result Bool LimitedReadError) → ReadsOne v projection IsKept old new result → ReadsOne v projection (λ d. Unit {0}) old new result
any_document v projection IsKept old new (Ok true) read = (read.0, read.1, tt)
any_document v projection IsKept old new (Ok false) read = read
any_document v projection IsKept old new (Err e) read = read

-- ---- each error said in another way

module _ {E F : Type 0} (told : E → F) where
  told_true : (result : Result Bool E) → with_error told result ≡ Ok true → result ≡ Ok true
  told_true (Ok more) is = cc
  told_true (Err e) is = cc

  told_false : (result : Result Bool E) → with_error told result ≡ Ok false → result ≡ Ok false
  told_false (Ok more) is = cc
  told_false (Err e) is = cc

  told_ok : (P : Type 0) (result : Result Bool E) → OnOk result P → OnOk (with_error told result) P
  told_ok P (Ok more) h = h
  told_ok P (Err e) h = tt

  told_err : (P : Type 0) (result : Result Bool E) → OnErr result P → OnErr (with_error told result) P
  told_err P (Ok more) h = tt
  told_err P (Err e) h = h

  told_end : (MayCome : E → Type 0) (MayComeTold : F → Type 0) (result : Result Bool E) → ((e : E) → MayCome e → MayComeTold (told e)) → SaysEndBut MayCome result → SaysEndBut MayComeTold (with_error told result)
  told_end MayCome MayComeTold (Ok true) to h = h
  told_end MayCome MayComeTold (Ok false) to h = h
  told_end MayCome MayComeTold (Err e) to h = to e h

  told_counted : (result : Result Bool E) (old new : BlockReader) → CountsNext old new result → CountsNext old new (with_error told result)
  told_counted (Ok true) old new h = h
  told_counted (Ok false) old new h = h
  told_counted (Err e) old new h = h

  pub steps_told : {S : Type 0} {source : Ghosts S} {source_old source_new : S} {old new : BlockReader} {MayCome : E → Type 0} {MayComeTold : F → Type 0} {again : E} {again_told : F} (result : Result Bool E) (said : Result Bool F)
      → said ≡ with_error told result → ((e : E) → MayCome e → MayComeTold (told e)) → (old.failed ≡ true → new ≡ old → told again ≡ again_told) → StepsBlock MayCome again source source_old source_new old new result → StepsBlock MayComeTold again_told source source_old source_new old new said
  steps_told {source = source} {source_old = source_old} {source_new = source_new} {old = old} {new = new} {MayCome = MayCome} {MayComeTold = MayComeTold} {again = again} {again_told = again_told} result said is to same s =
      subst (λ (r : Result Bool F). StepsBlock MayComeTold again_told source source_old source_new old new r) (sym is)
      (record {
        refused = λ failed.
            let r = s.refused failed in
            record { answers = ap (with_error told) r.answers ∙ ap (λ (z : F). Err z) (same failed r.unchanged); unchanged = r.unchanged; unread = r.unread };
        not_failed = told_ok (new.failed ≡ false) result s.not_failed;
        marked = told_err (new.failed ≡ true) result s.marked;
        taken = s.taken;
        fewer = λ known is. s.fewer known (told_true result is);
        end = λ live known is. s.end live known (told_false result is);
        ended = λ live known none. told_end MayCome MayComeTold result to (s.ended live known none);
        counted = told_counted result old new s.counted;
        version = s.version;
      })

  pub leaves_told : (old new : BlockReader) (result : Result Bool E) (said : Result Bool F) → said ≡ with_error told result → LeavesNone old new result → LeavesNone old new said
  leaves_told old new result said is h = λ live other. h live (λ read. other (is ∙ ap (with_error told) read))

-- ---- what was read of the next document

module _ {S : Type 0} {projection : Projection} {IsKept : Document → Type 0} {source : Ghosts S} {source_old source_new : S} {old : BlockReader} where
  -- without limits
  pub next_read : {D : Type 0} (result : Result Bool DeserializeError) (said : Result Bool LimitedReadError) (document : D) → said ≡ with_error limited.Read result
      → (source.is_known source_old → ReadsOne (version_of old.version) projection IsKept (source.left source_old) (source.left source_new) (with_error limited.Read result))
      → limits_of projection ≡ no_limits → (source.is_known source_old → (prefix : List ℕ) × (source.left source_old ≡ prefix ++ source.left source_new))
      → CountsBy (λ e. CountsStop (store_stop e)) (as_read result document) (source.failures source_old) (source.failures source_new) → (source.is_known source_old → source.is_known source_new) → ReadsNextOf projection IsKept source source_old source_new old said
  next_read {D} result said document is one none taken counts stays =
      subst (λ (r : Result Bool LimitedReadError). ReadsNextOf projection IsKept source source_old source_new old r) (sym is)
      (record {
        one = one;
        most = λ known. let t = taken known in record { prefix = t.0; joined = t.1; encoded = subst (λ (l : ReadLimits). ¬ IsPast (at_least_one l.bytes) (length t.0)) (sym none) (λ past. past) };
        failures = counts_read result counts;
        stays_known = stays;
      })
    where
      counts_read : (result : Result Bool DeserializeError) → CountsBy (λ e. CountsStop (store_stop e)) (as_read result document) (source.failures source_old) (source.failures source_new)
          → Counts limited_stop (with_error limited.Read result) (source.failures source_old) (source.failures source_new)
      counts_read (Ok true) h = h
      counts_read (Ok false) h = h
      counts_read (Err e) h = h

  -- within limits
  pub next_within : {D : Type 0} (result : Result Bool LimitedReadError) (document : D) → (source.is_known source_old → ReadsOne (version_of old.version) projection IsKept (source.left source_old) (source.left source_new) result)
      → (source.is_known source_old → TakesNoMore (limits_of projection) (source.left source_old) (source.left source_new))
      → CountsBy (λ e. CountsStop (limited_stop e)) (as_read_within result document) (source.failures source_old) (source.failures source_new) → (source.is_known source_old → source.is_known source_new) → ReadsNextOf projection IsKept source source_old source_new old result
  next_within {D} result document one most counts stays = record { one = one; most = most; failures = counts_read result counts; stays_known = stays }
    where
      counts_read : (result : Result Bool LimitedReadError) → CountsBy (λ e. CountsStop (limited_stop e)) (as_read_within result document) (source.failures source_old) (source.failures source_new) → Counts limited_stop result (source.failures source_old) (source.failures source_new)
      counts_read (Ok true) h = h
      counts_read (Ok false) h = h
      counts_read (Err e) h = h

  -- with the number and the places of what is refused
  pub reads_projected : {new : BlockReader} (read : Result Bool LimitedReadError) (result : Result Bool RefusedDocument) → result ≡ with_error (refusal_of new) read → ReadsNextOf projection IsKept source source_old source_new old read → ReadsProjected projection IsKept source source_old source_new old new result
  reads_projected {new = new} read result is h =
      subst (λ (r : Result Bool RefusedDocument). ReadsProjected projection IsKept source source_old source_new old new r) (sym is)
      (record {
        one = λ known. subst (λ (r : Result Bool LimitedReadError). ReadsOne (version_of old.version) projection IsKept (source.left source_old) (source.left source_new) r) (sym (untold read)) (h.one known);
        placed = placed_at read;
        most = h.most;
        failures = counts_told read h.failures;
        stays_known = h.stays_known;
      })
    where
      untold : (read : Result Bool LimitedReadError) → error_of (with_error (refusal_of new) read) ≡ read
      untold (Ok more) = refl
      untold (Err e) = refl

      placed_at : (read : Result Bool LimitedReadError) → IfErr (with_error (refusal_of new) read) (λ e. e ≡ refusal_of new e.error)
      placed_at (Ok more) = tt
      placed_at (Err e) = refl

      counts_told : (read : Result Bool LimitedReadError) → Counts limited_stop read (source.failures source_old) (source.failures source_new) → Counts refused_stop (with_error (refusal_of new) read) (source.failures source_old) (source.failures source_new)
      counts_told (Ok more) h = h
      counts_told (Err e) h = h

-- ---- where the next document begins

module _ {E S : Type 0} {MayCome : E → Type 0} {again : E} {source : Ghosts S} {source_old source_new : S} {old new : BlockReader} where
  pub start_after : StepsBlock MayCome again source source_old source_new old new (Ok true) → old.failed ≡ false → source.is_known source_old → old.start + length (source.left source_old) < 2 ^ 64 → new.start + length (source.left source_new) ≡ old.start + length (source.left source_old)
  start_after s live known room = let t = s.taken live known in omega (arith, s.counted.start, room, t.counted, ap length t.joined, length-append t.prefix (source.left source_new))

  pub place_after : {e : E} → StepsBlock MayCome again source source_old source_new old new (Err e) → old.failed ≡ false → source.is_known source_old → old.start + length (source.left source_old) < 2 ^ 64 → place_of new + length (source.left source_new) ≡ old.start + length (source.left source_old)
  place_after s live known room =
      let t = s.taken live known in
      let at : place_of new ≡ min (new.start + new.taken) (2 ^ 64 - 1) = ap (λ (b : Bool). cond b (min (new.start + new.taken) (2 ^ 64 - 1)) new.start) s.marked in
      omega (arith, at, s.counted.start, room, t.counted, ap length t.joined, length-append t.prefix (source.left source_new))
