-- Documents that are read one after the other within limits.
use Rattle.std.proofs.Common.{◌≡◌, ℕ, zero, suc, ◌<◌, Bool, true, false, List, [], ◌∷◌, ◌++◌, length, Option, Some, None, Result, Ok, Err, refl, sym, ap, subst, ◌∙◌, ◌⊎◌, arith, rules, inl, inr}
use Rattle.std.specs.Prelude.{◌≢◌, ◌↔◌, IfErr, IsErrOf, IsSome, IsTrue, OnOk}
use Rattle.std.specs.declared.io.ErrorKind.{ErrorKind}
use Rattle.tv_base.specs.declared.cause.Cause.TheVariants.{UnexpectedEnd}
use Rattle.tv_base.specs.declared.source.ByteSource.{Ghosts}
use Rattle.tv_base.specs.Parts.{Begins}
use Rattle.tv_base.specs.ReadsAs.{Reads, Shows}
use Rattle.tv_base.specs.Source.{Failures}
use Rattle.tv_base.specs.Stop.{Counts, Stop, Taken}
use Rattle.tv_base.specs.Stop.Stop.{InputError, Short, Uncounted}
use Rattle.tv_builder.specs.StateHeap.{state_heap}
use Rattle.tv_builder.specs.Prefix.{Encoded}
use Rattle.tv_builder.specs.State.{State}
use Rattle.tv_builder.specs.TreeBytes.{document_heap}
use Rattle.tv_reading.specs.Prefix.{parts_at, IsPlace}
use Rattle.tv_doc.specs.Document.{document_of}
use Rattle.tv_doc.specs.declared.document.CompactDoc.{CompactDoc}
use Rattle.tv_format.specs.Encoding.{EncodesDocument}
use Rattle.tv_format.specs.InputError.{Refusal}
use Rattle.tv_format.specs.Tree.{Document}
use Rattle.tv_format.specs.Version.{Version}
use Rattle.tv_reader.specs.Legacy.{Legacy}
use Rattle.tv_reader.specs.Finds.{ShowsRefusal}
use Rattle.tv_reader.specs.declared.error.DeserializeError.{DeserializeError}
use Rattle.tv_reader.specs.declared.error.DeserializeError.TheVariants as errors
use Rattle.tv_store.specs.BlockSteps.{FinishesBlock, StepsBlock}
use Rattle.tv_store.specs.Blocks.{NextOf, SaysNothingWithin, SeesNext, as_read_within, next_if}
use Rattle.tv_store.specs.Documents.{NoDocument, SaysNothing, in_place}
use Rattle.tv_store.specs.Limits.{IsAll, IsPast, PassesDepth, ReadsByLimits, StopsNextWithin, StopsWithin, TakenWithin, Unread, at_least_one, has_come, limited_stop, within}
use Rattle.tv_store.specs.Reading.{documents}
use Rattle.tv_store.specs.declared.block.BlockReader.{BlockReader}
use Rattle.tv_store.specs.declared.limits.LimitedReadError.{LimitedReadError}
use Rattle.tv_store.specs.declared.limits.LimitedReadError.TheVariants as limited
use Rattle.tv_store.specs.declared.limits.ReadLimit.TheVariants as limit
use Rattle.tv_store.specs.declared.limits.ReadLimits.{ReadLimits}
use Rattle.tv_store.proofs.Blocks.{cut_off, never_full, no_document, no_number, none_before, nothing_ends, placed}
use Rattle.tv_store.proofs.BlockSteps.{EndsOnly, next_fewer, only_error, steps_block}
use Rattle.tv_store.proofs.Promises.{end}
use Rattle.tv_store.proofs.TestedParts.{few_taken, same_come}
use Rattle.tv_store.proofs.WithinLimits.{past_none, reads_within}

-- ---- what was read in a place, and what the call says of it

-- the error of a document that is cut off
abbrev pub cut_within : LimitedReadError
cut_within = limited.Read cut_off

module _ {count : ℕ} {before after : BlockReader} {read : Result (Unit {0}) LimitedReadError} {next : Result Bool LimitedReadError} (f : FinishesBlock cut_within before after read count next) where
  pub said_comes : (v : Version) (limits : ReadLimits) (old new : List ℕ) → ReadsByLimits v limits old new (in_place read before.document) → ReadsByLimits v limits old new (as_read_within next before.document)
  said_comes v limits old new h = subst (λ (r : Result CompactDoc LimitedReadError). ReadsByLimits v limits old new r) (sym (placed f before.document)) h

  pub said_errors : (P : LimitedReadError → Type 0) → IfErr read P → IfErr (as_read_within next before.document) P
  said_errors P h = subst (λ (r : Result CompactDoc LimitedReadError). IfErr r P) (sym (placed f before.document)) (errors_placed read h)
    where
      errors_placed : (read : Result (Unit {0}) LimitedReadError) → IfErr read P → IfErr (in_place read before.document) P
      errors_placed (Ok x) h = tt
      errors_placed (Err e) h = h

  pub said_counts : (old new : Failures) → Counts limited_stop read old new → Counts limited_stop (as_read_within next before.document) old new
  said_counts old new h = subst (λ (r : Result CompactDoc LimitedReadError). Counts limited_stop r old new) (sym (placed f before.document)) (counts_placed read h)
    where
      counts_placed : (read : Result (Unit {0}) LimitedReadError) → Counts limited_stop read old new → Counts limited_stop (in_place read before.document) old new
      counts_placed (Ok x) h = h
      counts_placed (Err e) h = h

  pub said_parts : (v : Version) (limits : ReadLimits) (old new : List ℕ) → Begins (TakenWithin v limits (has_come read)) old new → Begins (TakenWithin v limits (has_come (as_read_within next before.document))) old new
  said_parts v limits old new h = subst (λ (r : Result CompactDoc LimitedReadError). Begins (TakenWithin v limits (has_come r)) old new) (sym (placed f before.document)) (parts_placed read h)
    where
      parts_placed : (read : Result (Unit {0}) LimitedReadError) → Begins (TakenWithin v limits (has_come read)) old new → Begins (TakenWithin v limits (has_come (in_place read before.document))) old new
      parts_placed (Ok x) h = h
      parts_placed (Err e) h = h

pub same_most : (most : Option ℕ) → most ≢ Some 0 → at_least_one most ≡ most
same_most None some = refl
same_most (Some zero) some = absurd (some refl)
same_most (Some (suc n)) some = refl

pub said_stops : {S : Type 0} (source : Ghosts S) (v : Version) (limits : ReadLimits) {old new : S} (next : Result Bool LimitedReadError) (document : CompactDoc) → limits.bytes ≢ Some 0
    → StopsWithin v limits source old new (as_read_within next document) → StopsNextWithin v limits source old new next
said_stops source v limits {old = old} {new = new} next document some h = record {
  depth = λ known is. h.depth known (ap (λ r. as_read_within r document) is);
  heap = λ known is. h.heap known (ap (λ r. as_read_within r document) is);
  bytes = λ known is.
      let limited_by = ap (λ r. as_read_within r document) is in
      (subst (λ (m : Option ℕ). Begins (IsAll m) (source.left old) (source.left new)) (sym (same_most limits.bytes some)) (h.bytes known limited_by), λ other. h.ends known limited_by);
  small = λ known is. h.most known;
  most = λ known. subst (λ (m : Option ℕ). Begins (λ b. ¬ IsPast m (length b)) (source.left old) (source.left new)) (sym (same_most limits.bytes some)) (h.most known);
  parts = λ known. subst (λ whole. Begins (TakenWithin v limits whole) (source.left old) (source.left new)) (same_come next document) (h.parts known);
}

-- ---- the promise of a call

never_large : (v : Version) (most : Option ℕ) (taken : List ℕ) (a f : Option ℕ) (d : Document) (s : State) → IsPlace a d f s → Encoded Legacy v taken (parts_at a d f s) → taken ≡ [] → IsPast most (length (state_heap (document_heap [] d) s)) → ⊥
never_large v most taken None None d s place p none past = past_none most (subst (λ z. IsPast most (length (document_heap [] z))) place.0 (subst (λ z. IsPast most (length (state_heap (document_heap [] d) z))) place.1 past))
never_large v most taken None (Some f) d s place p none past = absurd place
never_large v most taken (Some n) None d s place p none past = no_number v taken n _ none p
never_large v most taken (Some n) (Some f) d s place p none past = no_number v taken n _ none p

never_deep : (v : Version) (most : Option ℕ) (taken : List ℕ) → taken ≡ [] → PassesDepth v most taken → ⊥
never_deep v most taken none (inl deep) = no_number v taken deep.announced _ none deep.encoded
never_deep v most taken none (inr deeper) = no_document v taken deeper.document none deeper.encoded

module _ (v : Version) (limits : ReadLimits) (old new : List ℕ) (document : CompactDoc) where
  abbrev ComesNext : Result (Unit {0}) LimitedReadError → Type 0
  ComesNext read = ReadsByLimits v limits old new (in_place read document)

  fewer_within : (read : Result (Unit {0}) LimitedReadError) → ComesNext read → OnOk read (length new < length old)
  fewer_within (Ok x) h = next_fewer v old new (record { prefix = h.taken; joined = h.joined; encoded = (document_of document, h.outcome) })
  fewer_within (Err e) h = tt

  all_within : (read : Result (Unit {0}) LimitedReadError) → ComesNext read → IsErrOf read cut_within → new ≡ []
  all_within read h is = let e = subst ComesNext is h in e.outcome.stop.shows.all refl

  only_within : (read : Result (Unit {0}) LimitedReadError) → ComesNext read → limits.bytes ≢ Some 0 → old ≡ [] → EndsOnly cut_within SaysNothingWithin read
  only_within (Ok x) h some none = no_document v h.taken (document_of document) (none_before h.taken new (sym h.joined ∙ none)) h.outcome
  only_within (Err (limited.Read e)) h some none =
      let few : length h.taken ≡ 0 = ap length (none_before h.taken new (sym h.joined ∙ none)) in
      in_limits e (only_error v old new (length h.taken) e h.outcome.stop (λ full. never_full v old none (h.outcome.no_room full)) few none)
    where
      in_limits : (e : DeserializeError) → (e ≡ cut_off) ⊎ SaysNothing e → (limited.Read e ≡ cut_within) ⊎ SaysNothing e
      in_limits e (inl is) = inl (ap limited.Read is)
      in_limits e (inr says) = inr says
  only_within (Err (limited.Limit limit.Bytes)) h some none = absurd (some (h.outcome.0 ∙ ap (λ z. Some (length z)) (none_before h.taken new (sym h.joined ∙ none))))
  only_within (Err (limited.Limit limit.HeapBytes)) h some none =
      let o = h.outcome in
      absurd (never_large v limits.heap_bytes h.taken o.announced o.field o.finished o.state o.place o.encoded (none_before h.taken new (sym h.joined ∙ none)) o.large)
  only_within (Err (limited.Limit limit.Depth)) h some none = absurd (never_deep v limits.depth h.taken (none_before h.taken new (sym h.joined ∙ none)) h.outcome)

pub steps_within : {S : Type 0} (source : Ghosts S) {source_old source_new : S} {old new : BlockReader} {document : CompactDoc} {count : ℕ} {read : Result (Unit {0}) LimitedReadError} {result : Result Bool LimitedReadError} (v : Version) (limits : ReadLimits)
    → old.failed ≡ false → FinishesBlock cut_within (record old { document = document }) new read count result → limits.bytes ≢ Some 0 → (source.is_known source_old → ReadsByLimits v limits (source.left source_old) (source.left source_new) (in_place read document))
    → (source.is_known source_old → Taken (source.left source_old) (source.left source_new) 0 count) → StepsBlock SaysNothingWithin (limited.Read errors.AlreadyFailed) source source_old source_new old new result
steps_within source {source_old = source_old} {source_new = source_new} {document = document} {read = read} v limits live f some comes taken =
    steps_block SaysNothingWithin (limited.Read errors.AlreadyFailed) source live f taken (λ known. fewer_within v limits (source.left source_old) (source.left source_new) document read (comes known))
    (λ known. all_within v limits (source.left source_old) (source.left source_new) document read (comes known)) (λ known none. only_within v limits (source.left source_old) (source.left source_new) document read (comes known) some none)

-- ---- where no byte may be taken

pub one_taken : (byte : ℕ) (old new : List ℕ) → old ≡ byte ∷ new → Taken old new 0 1
one_taken byte old new is = record { prefix = byte ∷ []; joined = is; counted = refl }

comes_end : (v : Version) (limits : ReadLimits) (left rest : List ℕ) → (left ≡ []) × (rest ≡ []) → ReadsByLimits v limits left rest (Err (limited.Read (errors.CorruptedValue UnexpectedEnd)))
comes_end v limits left rest none =
    let stands = subst (λ (l : List ℕ). NoDocument v l end) (sym none.0) (nothing_ends v) in
    let shows : Shows end (NoDocument v) left rest end = record { taken = []; joined = none.0 ∙ sym none.1; shown = nothing_ends v; all = λ same. none.1; early = λ other. absurd (other refl) } in
    let stop : ShowsRefusal end (NoDocument v) left rest end = record { stands = stands; shows = shows } in
    let unread : Unread v left rest 0 (errors.CorruptedValue UnexpectedEnd) = record { stop = stop; no_room = λ is. absurd (cc) } in
    record { taken = []; joined = none.0 ∙ sym none.1; most = past_none limits.bytes; outcome = unread }

comes_failed : (v : Version) (limits : ReadLimits) (kind : ErrorKind) (left rest : List ℕ) → rest ≡ left → ReadsByLimits v limits left rest (Err (limited.Read (errors.Io kind)))
comes_failed v limits kind left rest same =
    let unread : Unread v left rest 0 (errors.Io kind) = record { stop = tt; no_room = λ is. absurd (cc) } in
    record { taken = []; joined = sym same; most = past_none limits.bytes; outcome = unread }

some_bytes : (v : Version) (d : Document) (bytes : List ℕ) → EncodesDocument Legacy v bytes d → 0 < length bytes
some_bytes v d [] encoded = absurd (no_document v [] d refl encoded)
some_bytes v d (b ∷ bytes) encoded = omega arith

never_limit : (e : LimitedReadError) (s : Stop Refusal) → s ≢ Short → limited.Limit limit.Bytes ≡ e → limited_stop e ≡ s → ⊥
never_limit e s other same says = other (sym says ∙ sym (ap limited_stop same))

nothing_taken : (most : Option ℕ) (left rest : List ℕ) → left ≡ rest → Begins (λ b. ¬ IsPast most (length b)) left rest
nothing_taken most left rest same = record { prefix = []; joined = same; encoded = past_none most }

first_taken : (P : List ℕ → Type 0) (left rest : List ℕ) → ((byte : ℕ) → P (byte ∷ [])) → (byte : ℕ) × (left ≡ byte ∷ rest) → Begins P left rest
first_taken P left rest one seen = record { prefix = seen.0 ∷ []; joined = seen.1; encoded = one seen.0 }

limited_some : (most : Option ℕ) → most ≡ Some 0 → IsSome most
limited_some None is = absurd (cc)
limited_some (Some n) is = search rules

-- what is said of what was seen: a byte was taken, or none
abbrev pub SaysNext : Type 0 → List ℕ → List ℕ → Result Bool LimitedReadError → Type 0
SaysNext IsKnown old new (Ok true) = ⊥
SaysNext IsKnown old new (Ok false) = IsKnown → new ≡ old
SaysNext IsKnown old new (Err (limited.Read e)) = IsKnown → new ≡ old
SaysNext IsKnown old new (Err (limited.Limit limit.Bytes)) = IsKnown → (byte : ℕ) × (old ≡ byte ∷ new)
SaysNext IsKnown old new (Err (limited.Limit l)) = ⊥

says_error : (IsKnown : Type 0) (old new : List ℕ) (e : LimitedReadError) → SeesNext IsKnown old new (Err e) → SaysNext IsKnown old new (Err e)
says_error IsKnown old new (limited.Limit limit.Bytes) sees = sees
says_error IsKnown old new (limited.Read (errors.CorruptedValue UnexpectedEnd)) sees = λ known. let none = sees known in none.1 ∙ sym none.0
says_error IsKnown old new (limited.Read (errors.Io kind)) sees = sees
says_error IsKnown old new e sees = absurd sees

says_at : (IsKnown : Type 0) (old new : List ℕ) (count : ℕ) (seen : Result (Unit {0}) LimitedReadError) (result : Result Bool LimitedReadError) → NextOf cut_within seen count (next_if result) → SeesNext IsKnown old new seen → SaysNext IsKnown old new result
says_at IsKnown old new count (Ok x) result is sees = absurd sees
says_at IsKnown old new count (Err e) (Ok true) is sees = absurd is
says_at IsKnown old new count (Err e) (Ok false) is sees = says_error IsKnown old new cut_within (subst (λ z. SeesNext IsKnown old new (Err z)) is.0 sees)
says_at IsKnown old new count (Err e) (Err f) is sees = subst (λ z. SaysNext IsKnown old new (Err z)) (sym is.0) (says_error IsKnown old new e sees)

pub says_next : (IsKnown : Type 0) (old new : List ℕ) {count : ℕ} {before after : BlockReader} {seen : Result (Unit {0}) LimitedReadError} {result : Result Bool LimitedReadError} → FinishesBlock cut_within before after seen count result → SeesNext IsKnown old new seen → SaysNext IsKnown old new result
says_next IsKnown old new {count = count} {seen = seen} {result = result} f sees = says_at IsKnown old new count seen result f.next sees

-- the promise of the call then
seen_fewer : (IsKnown : Type 0) (old new : List ℕ) (seen : Result (Unit {0}) LimitedReadError) → SeesNext IsKnown old new seen → OnOk seen (length new < length old)
seen_fewer IsKnown old new (Ok x) sees = absurd sees
seen_fewer IsKnown old new (Err e) sees = tt

seen_all : (IsKnown : Type 0) (old new : List ℕ) (seen : Result (Unit {0}) LimitedReadError) → SeesNext IsKnown old new seen → IsKnown → IsErrOf seen cut_within → new ≡ []
seen_all IsKnown old new seen sees known is = (subst (SeesNext IsKnown old new) is sees known).1

seen_only : (IsKnown : Type 0) (old new : List ℕ) (seen : Result (Unit {0}) LimitedReadError) → SeesNext IsKnown old new seen → IsKnown → old ≡ [] → EndsOnly cut_within SaysNothingWithin seen
seen_only IsKnown old new (Ok x) sees known none = absurd sees
seen_only IsKnown old new (Err (limited.Limit limit.Bytes)) sees known none = let byte = (sees known).1 in absurd (cc)
seen_only IsKnown old new (Err (limited.Read (errors.CorruptedValue UnexpectedEnd))) sees known none = inl refl
seen_only IsKnown old new (Err (limited.Read (errors.Io kind))) sees known none = inr tt
seen_only IsKnown old new (Err e) sees known none = absurd sees

pub steps_seen : {S : Type 0} (source : Ghosts S) {source_old source_new : S} {old new : BlockReader} {document : CompactDoc} {count : ℕ} {seen : Result (Unit {0}) LimitedReadError} {result : Result Bool LimitedReadError} → old.failed ≡ false
    → FinishesBlock cut_within (record old { document = document }) new seen count result → SeesNext (source.is_known source_old) (source.left source_old) (source.left source_new) seen → (source.is_known source_old → Taken (source.left source_old) (source.left source_new) 0 count)
    → StepsBlock SaysNothingWithin (limited.Read errors.AlreadyFailed) source source_old source_new old new result
steps_seen source {source_old = source_old} {source_new = source_new} {seen = seen} live f sees taken =
    steps_block SaysNothingWithin (limited.Read errors.AlreadyFailed) source live f taken (λ known. seen_fewer (source.is_known source_old) (source.left source_old) (source.left source_new) seen sees)
    (λ known is. seen_all (source.is_known source_old) (source.left source_old) (source.left source_new) seen sees known is) (λ known none. seen_only (source.is_known source_old) (source.left source_old) (source.left source_new) seen sees known none)

module _ {S : Type 0} (source : Ghosts S) (v : Version) (limits : ReadLimits) {old new : S} (no_byte : limits.bytes ≡ Some 0) where
  -- a document has a byte at least, so it has more than may be taken
  reads_limited : (source.is_known old → (prefix : List ℕ) × (source.left old ≡ prefix ++ source.left new)) → source.failures new ≡ source.failures old → (source.is_known old → source.is_known new)
      → Reads (within limits) (documents v) source old new document_of (Err (limited.Limit limit.Bytes))
  reads_limited taken same stays = record {
    found = λ known. tt;
    only = λ known d prefix rest joined encoded room. subst (λ (m : Option ℕ). IsPast m (length prefix)) (sym no_byte) (some_bytes v d prefix encoded);
    error = λ known e r is says. absurd (never_limit e (InputError r) (λ same. cc) (cc) says);
    shows = λ known e r is says. absurd (never_limit e (InputError r) (λ same. cc) (cc) says);
    too_long = λ known e r is says. absurd (never_limit e (Uncounted r) (λ same. cc) (cc) says);
    ends_early = λ known e r is says. absurd (never_limit e (Uncounted r) (λ same. cc) (cc) says);
    no_room = λ known e is full. absurd (cc);
    errors = limited_some limits.bytes no_byte;
    taken = taken;
    failures = same;
    stays_known = stays;
  }

  pub reads_seen : {count : ℕ} {before after : BlockReader} {seen : Result (Unit {0}) LimitedReadError} {result : Result Bool LimitedReadError} → FinishesBlock cut_within before after seen count result → SeesNext (source.is_known old) (source.left old) (source.left new) seen
      → (source.is_known old → (prefix : List ℕ) × (source.left old ≡ prefix ++ source.left new)) → Counts limited_stop seen (source.failures old) (source.failures new) → (source.is_known old → source.is_known new)
      → Reads (within limits) (documents v) source old new document_of (as_read_within result after.document)
  reads_seen {after = after} {seen = seen} f sees taken counts stays = subst (λ (r : Result CompactDoc LimitedReadError). Reads (within limits) (documents v) source old new document_of r) (sym (placed f after.document)) (reads seen sees counts)
    where
      reads : (seen : Result (Unit {0}) LimitedReadError) → SeesNext (source.is_known old) (source.left old) (source.left new) seen → Counts limited_stop seen (source.failures old) (source.failures new)
          → Reads (within limits) (documents v) source old new document_of (in_place seen after.document)
      reads (Ok x) sees counts = absurd sees
      reads (Err (limited.Limit limit.Bytes)) sees counts = reads_limited taken counts stays
      reads (Err (limited.Read (errors.CorruptedValue UnexpectedEnd))) sees counts = reads_within source v limits (Err cut_within) (λ known. comes_end v limits _ _ (sees known)) tt counts stays
      reads (Err (limited.Read (errors.Io kind))) sees counts = reads_within source v limits (Err (limited.Read (errors.Io kind))) (λ known. comes_failed v limits kind _ _ (sees known)) tt counts stays
      reads (Err e) sees counts = absurd sees

  pub stops_seen : (result : Result Bool LimitedReadError) → SaysNext (source.is_known old) (source.left old) (source.left new) result → StopsNextWithin v limits source old new result
  stops_seen (Ok true) says = absurd says
  stops_seen (Ok false) says = record {
    depth = λ known is. absurd (cc);
    heap = λ known is. absurd (cc);
    bytes = λ known is. absurd (cc);
    small = λ known is. absurd (cc);
    most = λ known. nothing_taken (at_least_one limits.bytes) _ _ (sym (says known));
    parts = λ known. record { prefix = []; joined = sym (says known); encoded = few_taken v limits [] (omega arith) };
  }
  stops_seen (Err (limited.Limit limit.Bytes)) says = record {
    depth = λ known is. absurd (cc);
    heap = λ known is. absurd (cc);
    bytes = λ known is. (first_taken (IsAll (at_least_one limits.bytes)) _ _ (λ byte. ap at_least_one no_byte) (says known), λ some. absurd (some no_byte));
    small = λ known is. absurd (cc);
    most = λ known. first_taken (λ b. ¬ IsPast (at_least_one limits.bytes) (length b)) _ _ (λ byte. subst (λ (m : Option ℕ). ¬ IsPast (at_least_one m) 1) (sym no_byte) (λ past. omega (arith, past))) (says known);
    parts = λ known. first_taken (TakenWithin v limits false) _ _ (λ byte. few_taken v limits (byte ∷ []) (omega arith)) (says known);
  }
  stops_seen (Err (limited.Read e)) says = record {
    depth = λ known is. absurd (cc);
    heap = λ known is. absurd (cc);
    bytes = λ known is. absurd (cc);
    small = λ known is. absurd (cc);
    most = λ known. nothing_taken (at_least_one limits.bytes) _ _ (sym (says known));
    parts = λ known. record { prefix = []; joined = sym (says known); encoded = few_taken v limits [] (omega arith) };
  }
  stops_seen (Err (limited.Limit l)) says = absurd says

-- a reader that has failed takes nothing
pub stops_failed : {S : Type 0} (source : Ghosts S) (v : Version) (limits : ReadLimits) (at_rest : S) (e : DeserializeError) → StopsNextWithin v limits source at_rest at_rest (Err (limited.Read e))
stops_failed source v limits at_rest e = record {
  depth = λ known is. absurd (cc);
  heap = λ known is. absurd (cc);
  bytes = λ known is. absurd (cc);
  small = λ known is. absurd (cc);
  most = λ known. nothing_taken (at_least_one limits.bytes) _ _ refl;
  parts = λ known. record { prefix = []; joined = refl; encoded = few_taken v limits [] (omega arith) };
}

-- some byte may be taken
pub some_may : (none : Bool) (P : Type 0) → IsTrue none ↔ P → none ≡ false → P → ⊥
some_may none P same is p = let true_too = same.1 p in absurd (cc)
