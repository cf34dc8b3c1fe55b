-- Steps within limits, one after the other.
use Rattle.std.proofs.Common.{◌≡◌, ℕ, ◌+◌, ◌-◌, ◌^◌, ◌<◌, ◌≤◌, Bool, List, [], ◌++◌, length, take, drop, Option, Some, None, Result, Ok, Err, refl, sym, ◌∙◌, ap, subst, arith, rules, append-nil, take_at, length-append, inl, inr}
use Rattle.std.specs.Prelude.{◌↔◌, ◌≢◌, IsTrue, IsSome, IfOk, IfErr, IsErrOf}
use Rattle.std.proofs.lemmas.Bool.{cases_lt}
use Rattle.std.proofs.lemmas.List.{take-append-drop}
use lib.Seq.{take-append-le}
use Rattle.tv_base.specs.declared.cause.Cause.TheVariants.{UnexpectedEnd, TooLong}
use Rattle.tv_base.specs.Parts.{Begins}
use Rattle.tv_base.specs.declared.source.ByteSource.{Ghosts}
use Rattle.tv_base.specs.ReadsAs.{EndsEarly, IsReadUnless}
use Rattle.tv_base.specs.Source.{Failures}
use Rattle.tv_base.specs.Stop.{Stop, CountsStop, Counts, Taken}
use Rattle.tv_base.specs.Stop.Stop.{InputError, Uncounted, Short}
use Rattle.tv_builder.specs.Builder.{built, state_of, heap_so_far}
use Rattle.tv_builder.specs.State.{State, in_lists, IsState, lists_of}
use Rattle.tv_doc.specs.Document.{document_of, heap_of}
use Rattle.tv_doc.specs.declared.document.CompactDoc.{CompactDoc}
use Rattle.tv_builder.specs.Prefix.{Encoded}
use Rattle.tv_reader.specs.Legacy.{Legacy}
use Rattle.tv_reader.specs.Error.{store_stop, StoreMayStop}
use Rattle.tv_reader.specs.Finds.{GivesStop, FindsIf, Nothing}
use Rattle.tv_reader.specs.declared.error.DeserializeError.{DeserializeError}
use Rattle.tv_reader.specs.declared.error.DeserializeError.TheVariants as errors
use Rattle.tv_reader.specs.declared.value_type.ValueType.TheVariants as types
use Rattle.tv_reader.proofs.Finding.{finds_as, finds_any, finds_fails, stop_map, early_map}
use Rattle.tv_format.specs.InputError.{Refusal, corrupted}
use Rattle.tv_format.specs.Encoding.{EncodesDocument}
use Rattle.tv_format.specs.Tree.{Document}
use Rattle.tv_heap.specs.Room.{document_room}
use Rattle.tv_format.specs.Version.{Version}
use Rattle.tv_reading.specs.Prefix.{parts_at, parts_read, IsPlace, IsSound, IsDone, IsMalformedNext, NoRoomBehind}
use Rattle.tv_reading.specs.Steps.{Advances, Stepped}
use Rattle.tv_reading.specs.declared.reading.Reading.{Reading}
use Rattle.tv_reader.proofs.Lending.{none_buffered}
use Rattle.tv_reading.proofs.States.{is_state}
use Rattle.tv_builder.proofs.PairBuilding.{heap_stands}
use Rattle.tv_reading.proofs.WholeDocuments.{Goes, step_more, step_fails, step_takes, done_encodes, awaits_more}
use Rattle.tv_store.proofs.Promises.{only_by, excluded, excused, single_documents}
use Rattle.tv_store.specs.Reading.{documents}
use Rattle.tv_store.specs.Documents.{BeginsWithDocument, NoDocument, HasNoRoom, IsReadingError}
use Rattle.tv_store.specs.Limits.{IsPast, Checks, FindsWithinBy, IsDeep, PassesDepth, IsLarge, IsAll, Unread, ReadsByLimits, IsLimitedError, MayPass, ReadsWithin, StopsWithin, TakenWithin, AllNestWithinLimit, FitsLimits, TestsDepth, has_come}
use Rattle.tv_store.specs.Limits.{first_count, limited_stop, FindsPartBy, Told}
use Rattle.tv_store.specs.declared.limits.ReadLimits.{ReadLimits}
use Rattle.tv_store.specs.declared.limits.ReadLimit.{ReadLimit}
use Rattle.tv_store.specs.declared.limits.ReadLimit.TheVariants as limit
use Rattle.tv_store.specs.declared.limits.LimitedReadError.{LimitedReadError}
use Rattle.tv_store.specs.declared.limits.LimitedReadError.TheVariants as limited
use Rattle.tv_store.specs.declared.direct_decoder.Step.{Step}

module _ {S : Type 0} {is_known : S → Type 0} {left : S → List ℕ} {failures : S → Failures} where
  pub begins : (v : Version) (r : Reading) (source : S) (i : ℕ) → FindsIf StoreMayStop is_known left failures source i source i (Ok r) (Goes v r) Nothing
  begins v r source i = none_buffered (Goes v r) r (λ bytes p. subst (λ z. Encoded Legacy v z (parts_read r)) (sym (append-nil bytes)) p)

module _ {S : Type 0} {is_known : S → Type 0} {left : S → List ℕ} {failures : S → Failures} (v w : Version) (same : w ≡ v) (begun r : Reading) where
  pub goes_on : {old mid new : S} {i j k : ℕ} (step : Step) (legacy : Bool) (after : Reading) → FindsIf StoreMayStop is_known left failures old i mid j (Ok r) (Goes v begun) Nothing
      → FindsIf StoreMayStop is_known left failures mid j new k (Ok step) (λ b _. Stepped w legacy r after b) (IsMalformedNext w r) → FindsIf StoreMayStop is_known left failures old i new k (Ok after) (Goes v begun) Nothing
  goes_on step legacy after p h =
      step_more v begun r tt legacy after p (finds_as tt (λ b _. Stepped v legacy r after b) (IsMalformedNext v r) (λ a s. subst (λ z. Stepped z legacy r after a) same s) h)

  pub takes_one : {mid new : S} {j k : ℕ} (step : Step) (legacy : Bool) (after : Reading) → FindsIf StoreMayStop is_known left failures mid j new k (Ok step) (λ b _. Stepped w legacy r after b) (IsMalformedNext w r) → is_known mid → j < k
  takes_one step legacy after h told = step_takes w begun r tt legacy after (finds_as tt (λ b _. Stepped w legacy r after b) (IsMalformedNext w r) (λ a s. s) h) told

  -- this many steps that no more can be counted
  pub too_many : {X : Type 0} {old mid : S} {i j : ℕ} (counter : ℕ) (B : List ℕ → X → Type 0) → IsSound r → ¬ IsDone r → j < 2 ^ 64 → 2 ^ 64 - 1 ≤ counter → (is_known old → counter + i ≤ j) → FindsIf StoreMayStop is_known left failures old i mid j (Ok r) (Goes v begun) Nothing
      → FindsWithinBy is_known left failures old i mid j (Err (errors.CorruptedValue TooLong)) B (IsMalformedNext v begun)
  too_many counter B sound more below many counts p = record {
    found = λ told. (omega (arith, below, many, counts told), awaits_more v begun r sound more p told);
    taken = p.taken;
    stays_known = p.stays_known;
    counts = p.counts;
    count_grows = p.count_grows;
    may_stop = tt;
  }

  pub fails : {old mid new : S} {i j k : ℕ} {X : Type 0} (e : DeserializeError) (legacy : Bool) (after : Reading) (B : List ℕ → X → Type 0) → IsSound r → ¬ IsDone r → FindsIf StoreMayStop is_known left failures old i mid j (Ok r) (Goes v begun) Nothing
      → FindsIf {X = Step} StoreMayStop is_known left failures mid j new k (Err e) (λ b _. Stepped w legacy r after b) (IsMalformedNext w r) → FindsWithinBy is_known left failures old i new k (Err e) B (IsMalformedNext v begun)
  fails e legacy after B sound more p h =
      finds_any (λ f n may. tt) (finds_fails B (IsMalformedNext v begun) (λ a f q. q)
      (step_fails v begun r e legacy after sound more p (finds_fails (λ b _. Stepped v legacy r after b) (IsMalformedNext v r) (λ a f q. subst (λ z. IsMalformedNext z r a f) same q) h)))

-- ---- how many bytes are taken

-- no more than may be taken, since no more can be counted
no_more : (most : Option ℕ) (n count : ℕ) → count ≡ first_count most + n → count < 2 ^ 64 → ¬ IsPast most n
no_more None n count is below past = past
no_more (Some k) n count is below past = omega arith

pub taken_within : (most : Option ℕ) (taken old new : List ℕ) (count : ℕ) → old ≡ taken ++ new → Taken old new (first_count most) count → count < 2 ^ 64 → ¬ IsPast most (length taken)
taken_within most taken old new count joined t below =
    let same : length taken ≡ length t.prefix = omega (arith, ap length joined, ap length t.joined, length-append taken new, length-append t.prefix new) in
    no_more most (length taken) count (omega (arith, t.counted, same)) below

all_of : (most : Option ℕ) (n : ℕ) → IsSome most → ((m : ℕ) → most ≡ Some m → first_count most + m ≡ 2 ^ 64 - 1) → first_count most + n ≡ 2 ^ 64 - 1 → most ≡ Some n
all_of None n is sum counted = absurd (cc is)
all_of (Some m) n is sum counted = let same : m ≡ n = omega (arith, sum m refl, counted) in ap (λ k. Some k) same

-- ---- from steps to what comes of a document

at_start : (v : Version) (r : Reading) → parts_read r ≡ [] → Encoded Legacy v [] (parts_read r)
at_start v r none = subst (λ ps. Encoded Legacy v [] ps) (sym none) refl

pub ended : (v : Version) (limits : ReadLimits) (begun r : Reading) (d : CompactDoc) (old new : List ℕ) (count : ℕ) → parts_read begun ≡ [] → IsSound r → IsDone r → document_of d ≡ built r.builder
    → Begins (λ b. Advances Legacy v begun r b) old new → Taken old new (first_count limits.bytes) count → count < 2 ^ 64 → ReadsByLimits v limits old new (Ok d)
ended v limits begun r d old new count none sound done is f t below =
    record { taken = f.prefix; joined = f.joined; most = taken_within limits.bytes f.prefix old new count f.joined t below; outcome = done_encodes v r d.values f.prefix sound done is (f.encoded [] (at_start v begun none)) }

pub past_none : (most : Option ℕ) → IsPast most 0 → ⊥
past_none None h = h
past_none (Some n) h = omega arith

none_open : (most : Option ℕ) (s : State) → s ≡ in_lists [] → IsPast most (length (lists_of s)) → ⊥
none_open most s e past = past_none most (subst (λ z. IsPast most (length (lists_of z))) e past)

deep_at : (v : Version) (most : Option ℕ) (taken : List ℕ) (a f : Option ℕ) (d : Document) (s : State) → IsState s → IsPlace a d f s → Encoded Legacy v taken (parts_at a d f s) → IsPast most (length (lists_of s)) → IsDeep v most taken
deep_at v most taken None None d s is place p past = absurd (none_open most s place.1 past)
deep_at v most taken None (Some f) d s is place p past = absurd place
deep_at v most taken (Some n) None d s is place p past = absurd (none_open most s place.1 past)
deep_at v most taken (Some n) (Some f) d s is place p past = record { announced = n; finished = d; field = f; state = s; less = place.0; is = is; encoded = p; deep = past }

large_at : (v : Version) (limits : ReadLimits) (r : Reading) (taken : List ℕ) → IsSound r → Encoded Legacy v taken (parts_read r) → IsPast limits.heap_bytes (length (heap_so_far r.builder)) → IsLarge v limits.heap_bytes taken
large_at v limits r taken sound p past =
    record { announced = r.announced; finished = built r.builder; field = r.field; state = state_of r.builder; place = sound.place; encoded = p; large = subst (λ h. IsPast limits.heap_bytes (length h)) (heap_stands r.builder) past }

pub passed : (v : Version) (limits : ReadLimits) (begun r : Reading) (l : ReadLimit) (old new : List ℕ) (count : ℕ) → parts_read begun ≡ [] → IsSound r
    → Checks limits (length (heap_so_far r.builder)) (length (lists_of (state_of r.builder))) (Some l) → Begins (λ b. Advances Legacy v begun r b) old new
    → Taken old new (first_count limits.bytes) count → count < 2 ^ 64 → ReadsByLimits v limits old new (Err (limited.Limit l))
passed v limits begun r limit.Bytes old new count none sound check f t below = absurd check
passed v limits begun r limit.Depth old new count none sound check f t below =
    record { taken = f.prefix; joined = f.joined; most = taken_within limits.bytes f.prefix old new count f.joined t below; outcome = inl (deep_at v limits.depth f.prefix r.announced r.field (built r.builder) (state_of r.builder) (is_state r.builder) sound.place (f.encoded [] (at_start v begun none)) check) }
passed v limits begun r limit.HeapBytes old new count none sound check f t below =
    record { taken = f.prefix; joined = f.joined; most = taken_within limits.bytes f.prefix old new count f.joined t below; outcome = large_at v limits r f.prefix sound (f.encoded [] (at_start v begun none)) check.1 }

-- That no more bytes can be counted is reported where there is no limit, so as many were taken.
all_counted : (most : Option ℕ) (n count : ℕ) → count ≡ first_count most + n → ¬ (IsSome most × (count ≡ 2 ^ 64 - 1)) → count ≡ 2 ^ 64 - 1 → n ≡ 2 ^ 64 - 1
all_counted None n count is told all = omega (arith, is, all)
all_counted (Some m) n count is told all = absurd (told (search rules, all))

counted_again : (HasError : List ℕ → Refusal → Type 0) (most : Option ℕ) (old new : List ℕ) (count n : ℕ) (e : DeserializeError) → count ≡ first_count most + n → (e ≡ errors.CorruptedValue TooLong → ¬ (IsSome most × (count ≡ 2 ^ 64 - 1)))
    → GivesStop (corrupted UnexpectedEnd) HasError old new count (store_stop e) → GivesStop (corrupted UnexpectedEnd) HasError old new n (store_stop e)
counted_again HasError most old new count n (errors.CorruptedValue TooLong) is told gives = (all_counted most n count is (told refl) gives.0, gives.1)
counted_again HasError most old new count n (errors.TypeMismatch types.String actual) is told gives = gives
counted_again HasError most old new count n (errors.TypeMismatch _ actual) is told gives = absurd gives
counted_again HasError most old new count n _ is told gives = gives

-- where more bytes are needed, those that were taken end too early
early_of : (HasError : List ℕ → Refusal → Type 0) (e : DeserializeError) (old new : List ℕ) (count : ℕ) → e ≡ errors.CorruptedValue TooLong → GivesStop (corrupted UnexpectedEnd) HasError old new count (store_stop e) → EndsEarly (corrupted UnexpectedEnd) HasError old new
early_of HasError e old new count is h = (subst (λ z. GivesStop (corrupted UnexpectedEnd) HasError old new count (store_stop z)) is h).1

refused : (v : Version) (limits : ReadLimits) (begun : Reading) (e : DeserializeError) (old new : List ℕ) (count : ℕ) → parts_read begun ≡ []
    → GivesStop (corrupted UnexpectedEnd) (IsMalformedNext v begun) old new count (store_stop e) → Taken old new (first_count limits.bytes) count → count < 2 ^ 64
    → (e ≡ errors.CorruptedValue TooLong → ¬ (IsSome limits.bytes × (count ≡ 2 ^ 64 - 1))) → (e ≡ errors.HeapFull → NoRoomBehind v begun old) → ReadsByLimits v limits old new (Err (limited.Read e))
refused v limits begun e old new count none stop t below told full =
    let unread : Unread v old new (length t.prefix) e = record {
      stop = counted_again (NoDocument v) limits.bytes old new count (length t.prefix) e t.counted told (stop_map (corrupted UnexpectedEnd) (IsMalformedNext v begun) (NoDocument v) (store_stop e) old new count (λ w r h. h [] (at_start v begun none)) stop);
      no_room = λ is. full is [] (at_start v begun none);
    } in
    record { taken = t.prefix; joined = t.joined; most = taken_within limits.bytes t.prefix old new count t.joined t below; outcome = unread }

-- as many bytes were taken as may be, and a document needs more
took_all : (v : Version) (limits : ReadLimits) (begun : Reading) (old new : List ℕ) (count : ℕ) → parts_read begun ≡ [] → EndsEarly (corrupted UnexpectedEnd) (IsMalformedNext v begun) old new → Taken old new (first_count limits.bytes) count → count < 2 ^ 64 → IsSome limits.bytes
    → ((m : ℕ) → limits.bytes ≡ Some m → first_count limits.bytes + m ≡ 2 ^ 64 - 1) → count ≡ 2 ^ 64 - 1 → ReadsByLimits v limits old new (Err (limited.Limit limit.Bytes))
took_all v limits begun old new count none h t below is sum all =
    let many : length h.taken ≡ length t.prefix = omega (arith, ap length h.joined, ap length t.joined, length-append h.taken new, length-append t.prefix new) in
    record {
      taken = h.taken;
      joined = h.joined;
      most = taken_within limits.bytes h.taken old new count h.joined t below;
      outcome = (all_of limits.bytes (length h.taken) is sum (omega (arith, t.counted, all, many)), h.shown [] (at_start v begun none));
    }

-- an error is reported where not all were taken, or as the limit
pub told_of : (v : Version) (limits : ReadLimits) (begun : Reading) (e : DeserializeError) (old new : List ℕ) (count : ℕ) (all : Bool) (said : LimitedReadError) → Told all e said → parts_read begun ≡ []
    → GivesStop (corrupted UnexpectedEnd) (IsMalformedNext v begun) old new count (store_stop e) → Taken old new (first_count limits.bytes) count → count < 2 ^ 64
    → IsTrue all ↔ (IsSome limits.bytes × (count ≡ 2 ^ 64 - 1)) → ((m : ℕ) → limits.bytes ≡ Some m → first_count limits.bytes + m ≡ 2 ^ 64 - 1)
    → (e ≡ errors.HeapFull → NoRoomBehind v begun old) → ReadsByLimits v limits old new (Err said)
told_of v limits begun e old new count all (limited.Read f) told none stop t below same sum full =
    subst (λ z. ReadsByLimits v limits old new (Err (limited.Read z))) (sym told.0) (refused v limits begun e old new count none stop t below (λ uncounted both. told.1 uncounted (same.1 both)) full)
told_of v limits begun e old new count all (limited.Limit limit.Bytes) told none stop t below same sum full =
    let both = same.0 told.0 in
    took_all v limits begun old new count none (early_of (IsMalformedNext v begun) e old new count told.1 stop) t below both.0 sum both.1
told_of v limits begun e old new count all (limited.Limit limit.HeapBytes) told none stop t below same sum full = absurd told
told_of v limits begun e old new count all (limited.Limit limit.Depth) told none stop t below same sum full = absurd told

-- how often the source failed is not changed by what is said
pub told_counts : (e : DeserializeError) (all : Bool) (said : LimitedReadError) (s : Stop Refusal) (old new : Failures) → store_stop e ≡ s → Told all e said → CountsStop s old new → CountsStop (limited_stop said) old new
told_counts e all (limited.Read f) s old new is told counts = subst (λ z. CountsStop z old new) (sym is ∙ ap store_stop (sym told.0)) counts
told_counts e all (limited.Limit limit.Bytes) s old new is told counts = subst (λ z. CountsStop (store_stop z) old new) told.1 (subst (λ z. CountsStop z old new) (sym is) counts)
told_counts e all (limited.Limit limit.HeapBytes) s old new is told counts = absurd told
told_counts e all (limited.Limit limit.Depth) s old new is told counts = absurd told

-- ---- how deep what was read nests

pub tested : (v : Version) (limits : ReadLimits) (old new : List ℕ) (d : CompactDoc) (result : Result CompactDoc LimitedReadError) → TestsDepth limits.depth d result → ReadsByLimits v limits old new (Ok d) → ReadsByLimits v limits old new result
tested v limits old new d (Ok x) test h = subst (λ z. ReadsByLimits v limits old new (Ok z)) (sym test.0) h
tested v limits old new d (Err (limited.Read e)) test h =
    let unread : Unread v old new (length h.taken) e = record {
      stop = subst (λ z. GivesStop (corrupted UnexpectedEnd) (NoDocument v) old new (length h.taken) (store_stop z)) (sym test) tt;
      no_room = λ is. absurd (cc);
    } in
    record { taken = h.taken; joined = h.joined; most = h.most; outcome = unread }
tested v limits old new d (Err (limited.Limit limit.Depth)) test h =
    record { taken = h.taken; joined = h.joined; most = h.most; outcome = inr (record { document = document_of d; encoded = h.outcome; deeper = test }) }
tested v limits old new d (Err (limited.Limit limit.Bytes)) test h = absurd test
tested v limits old new d (Err (limited.Limit limit.HeapBytes)) test h = absurd test

-- what takes no more passes no limit either
pub less_past : (most : Option ℕ) (m n : ℕ) → m ≤ n → ¬ IsPast most n → ¬ IsPast most m
less_past None m n less none past = past
less_past (Some k) m n less none past = none (omega (arith, less, past))

pub tested_fits : (limits : ReadLimits) (d : CompactDoc) (result : Result CompactDoc LimitedReadError) → TestsDepth limits.depth d result → ¬ IsPast limits.heap_bytes (length (heap_of d)) → IfOk result (FitsLimits limits)
tested_fits limits d (Ok x) test small = subst (FitsLimits limits) (sym test.0) (record { shallow = test.1; small = small })
tested_fits limits d (Err e) test small = tt

limited_depth : (most : Option ℕ) (d : Document) → ¬ AllNestWithinLimit most d → IsSome most
limited_depth None d deeper = absurd (deeper tt)
limited_depth (Some n) d deeper = search rules

pub tested_errors : (limits : ReadLimits) (d : CompactDoc) (result : Result CompactDoc LimitedReadError) → TestsDepth limits.depth d result → IfErr result (IsLimitedError limits)
tested_errors limits d (Ok x) test = tt
tested_errors limits d (Err (limited.Read e)) test = subst IsReadingError (sym test) tt
tested_errors limits d (Err (limited.Limit limit.Depth)) test = limited_depth limits.depth (document_of d) test
tested_errors limits d (Err (limited.Limit limit.Bytes)) test = absurd test
tested_errors limits d (Err (limited.Limit limit.HeapBytes)) test = absurd test

pub tested_counts : (most : Option ℕ) (d : CompactDoc) (result : Result CompactDoc LimitedReadError) (old new : Failures) → TestsDepth most d result → new ≡ old → Counts limited_stop result old new
tested_counts most d (Ok x) old new test same = same
tested_counts most d (Err (limited.Read e)) old new test same = subst (λ z. CountsStop (store_stop z) old new) (sym test) same
tested_counts most d (Err (limited.Limit l)) old new test same = same

-- ---- a part, counted from a first number on

recounted : (a b : List ℕ) (first from i j k : ℕ) → from ≡ first + i → k ≡ j - first → from ≤ j → Taken a b from j → Taken a b i k
recounted a b first from i j k begun ended rises t = record { prefix = t.prefix; joined = t.joined; counted = omega (arith, t.counted) }

-- the same of a whole document
pub counted_from : (a b : List ℕ) (first from last : ℕ) {to : ℕ} → from ≡ first → last ≡ to → from ≤ to → Taken a b from to → Taken a b 0 (last - first)
counted_from a b first from last begun ended rises t = record { prefix = t.prefix; joined = t.joined; counted = omega (arith, t.counted, begun, ended, rises) }

part_stop : (e : DeserializeError) (all : Bool) (said : LimitedReadError) (most : Option ℕ) (H G : List ℕ → Refusal → Type 0) (a b : List ℕ) (first from i j k : ℕ) → from ≡ first + i → k ≡ j - first → Told all e said → first ≡ first_count most → from ≤ j
    → IsTrue all ↔ (IsSome most × (j ≡ 2 ^ 64 - 1)) → ((b : List ℕ) (f : Refusal) → H b f → G b f) → GivesStop (corrupted UnexpectedEnd) H a b j (store_stop e) → GivesStop (corrupted UnexpectedEnd) G a b k (limited_stop said)
part_stop e all (limited.Read f) most H G a b first from i j k begun ended told is rises same to stop =
    subst (λ z. GivesStop (corrupted UnexpectedEnd) G a b k (store_stop z)) (sym told.0)
    (counted_again G most a b j k e (omega (arith, is, rises)) (λ uncounted both. told.1 uncounted (same.1 both)) (stop_map (corrupted UnexpectedEnd) H G (store_stop e) a b j to stop))
part_stop e all (limited.Limit l) most H G a b first from i j k begun ended told is rises same to stop = tt

module _ {S X : Type 0} {is_known : S → Type 0} {left : S → List ℕ} {failures : S → Failures} {old new : S} {from i j k : ℕ} (first : ℕ) (begun : from ≡ first + i) (ended : k ≡ j - first) where
  pub part_read : (x : X) (A B : List ℕ → X → Type 0) (H G : List ℕ → Refusal → Type 0) → ((b : List ℕ) → A b x → B b x) → FindsIf StoreMayStop is_known left failures old from new j (Ok x) A H → FindsPartBy is_known left failures old i new k (Ok x) B G
  part_read x A B H G to h = record {
    found = λ told. let f = h.found told in record { prefix = f.prefix; joined = f.joined; encoded = to f.prefix f.encoded };
    taken = λ told. recounted (left old) (left new) first from i j k begun ended h.count_grows (h.taken told);
    stays_known = h.stays_known;
    counts = h.counts;
    count_grows = omega (arith, h.count_grows);
    may_stop = tt;
  }

  pub part_refused : (e : DeserializeError) (all : Bool) (said : LimitedReadError) (most : Option ℕ) (A B : List ℕ → X → Type 0) (H G : List ℕ → Refusal → Type 0) → Told all e said → first ≡ first_count most → IsTrue all ↔ (IsSome most × (j ≡ 2 ^ 64 - 1))
      → ((b : List ℕ) (f : Refusal) → H b f → G b f) → FindsIf StoreMayStop is_known left failures old from new j (Err e) A H → FindsPartBy is_known left failures old i new k (Err said) B G
  part_refused e all said most A B H G told is same to h = record {
    found = λ known. part_stop e all said most H G (left old) (left new) first from i j k begun ended told is h.count_grows same to (h.found known);
    taken = λ known. recounted (left old) (left new) first from i j k begun ended h.count_grows (h.taken known);
    stays_known = h.stays_known;
    counts = told_counts e all said (store_stop e) (failures old) (failures new) refl told h.counts;
    count_grows = omega (arith, h.count_grows);
    may_stop = tt;
  }

-- more bytes are needed for the part
pub part_early : {S X : Type 0} {is_known : S → Type 0} {left : S → List ℕ} {failures : S → Failures} {old new : S} {from j : ℕ} (e : DeserializeError) (all : Bool) (said : LimitedReadError) (A : List ℕ → X → Type 0) (H G : List ℕ → Refusal → Type 0) → Told all e said → said ≡ limited.Limit limit.Bytes
    → ((b : List ℕ) (f : Refusal) → H b f → G b f) → FindsIf StoreMayStop is_known left failures old from new j (Err e) A H → is_known old → EndsEarly (corrupted UnexpectedEnd) G (left old) (left new)
part_early {left = left} {old = old} {new = new} {j = j} e all said A H G told is to h known =
    let both = subst (λ z. Told all e z) is told in
    early_map (λ f. f) (left old) (left new) (corrupted UnexpectedEnd) to (early_of H e (left old) (left new) j both.1 (h.found known))

pub stepped_as : (v w : Version) (m n : Bool) (q r x y : Reading) (b : List ℕ) → v ≡ w → m ≡ n → q ≡ r → x ≡ y → Stepped v m q x b → Stepped w n r y b
stepped_as v w m n q r x y b same_version same_seen same_before same_after h =
    subst (λ z. Stepped w n r z b) same_after (subst (λ z. Stepped w n z x b) same_before (subst (λ z. Stepped w z q x b) same_seen (subst (λ z. Stepped z m q x b) same_version h)))

-- ---- which errors come, and how large the heap is

-- ---- from what comes to what is promised

pub found_in : (v : Version) (limits : ReadLimits) (old new : List ℕ) (result : Result CompactDoc LimitedReadError) → ReadsByLimits v limits old new result → IfOk result (λ d. BeginsWithDocument v old new (document_of d))
found_in v limits old new (Ok d) h = record { prefix = h.taken; joined = h.joined; encoded = h.outcome }
found_in v limits old new (Err e) h = tt

deep_in : (v : Version) (limits : ReadLimits) (old new : List ℕ) (result : Result CompactDoc LimitedReadError) → ReadsByLimits v limits old new result → IsErrOf result (limited.Limit limit.Depth)
    → Begins (PassesDepth v limits.depth) old new
deep_in v limits old new result comes is =
    let h = subst (λ z. ReadsByLimits v limits old new z) is comes in
    record { prefix = h.taken; joined = h.joined; encoded = h.outcome }

large_in : (v : Version) (limits : ReadLimits) (old new : List ℕ) (result : Result CompactDoc LimitedReadError) → ReadsByLimits v limits old new result → IsErrOf result (limited.Limit limit.HeapBytes)
    → Begins (IsLarge v limits.heap_bytes) old new
large_in v limits old new result comes is =
    let h = subst (λ z. ReadsByLimits v limits old new z) is comes in
    record { prefix = h.taken; joined = h.joined; encoded = h.outcome }

early_in : (v : Version) (limits : ReadLimits) (old new : List ℕ) (result : Result CompactDoc LimitedReadError) → ReadsByLimits v limits old new result → IsErrOf result (limited.Limit limit.Bytes)
    → EndsEarly (corrupted UnexpectedEnd) (NoDocument v) old new
early_in v limits old new result comes is =
    let h = subst (λ z. ReadsByLimits v limits old new z) is comes in
    record { taken = h.taken; joined = h.joined; shown = h.outcome.1 }

all_in : (v : Version) (limits : ReadLimits) (old new : List ℕ) (result : Result CompactDoc LimitedReadError) → ReadsByLimits v limits old new result → IsErrOf result (limited.Limit limit.Bytes)
    → Begins (IsAll limits.bytes) old new
all_in v limits old new result comes is =
    let h = subst (λ z. ReadsByLimits v limits old new z) is comes in
    record { prefix = h.taken; joined = h.joined; encoded = h.outcome.0 }

-- of two prefixes of the same bytes the longer begins with the other
begins_longer : (prefix taken rest new : List ℕ) → length prefix ≤ length taken → prefix ++ rest ≡ taken ++ new → taken ≡ prefix ++ drop (length prefix) taken
begins_longer prefix taken rest new within same =
    let n = length prefix in
    sym (take-append-drop n taken) ∙ ap (λ (l : List ℕ). l ++ drop n taken) (sym (take-append-le n taken new within) ∙ ap (take n) (sym same) ∙ take_at prefix rest n refl)

-- where as many bytes were taken as may be and a document needs more, one that is encoded has more
longer_in : (v : Version) (most : Option ℕ) (taken old new : List ℕ) → old ≡ taken ++ new → IsAll most taken → NoDocument v taken (corrupted UnexpectedEnd) → (d : Document) (prefix rest : List ℕ) → old ≡ prefix ++ rest → EncodesDocument Legacy v prefix d → IsPast most (length prefix)
longer_in v most taken old new split all early d prefix rest joined encoded =
    subst (λ (m : Option ℕ). IsPast m (length prefix)) (sym all)
    (elim (cases_lt (length taken) (length prefix)) [
      | inl longer ↦ longer
      | inr within ↦
          let both : taken ++ new ≡ prefix ++ rest = sym split ∙ joined in
          let cut : taken ≡ prefix ++ drop (length prefix) taken = begins_longer prefix taken rest new within (sym both) in
          absurd (excluded v taken prefix (drop (length prefix) taken) d (corrupted UnexpectedEnd) cut encoded early)
    ])

full_in : (v : Version) (limits : ReadLimits) (old new : List ℕ) (result : Result CompactDoc LimitedReadError) → ReadsByLimits v limits old new result → IsErrOf result (limited.Read errors.HeapFull) → HasNoRoom v old
full_in v limits old new result comes is = (subst (λ z. ReadsByLimits v limits old new z) is comes).outcome.no_room refl

-- why an error stopped the reader
stopped_in : (v : Version) (limits : ReadLimits) (old new : List ℕ) (result : Result CompactDoc LimitedReadError) (comes : ReadsByLimits v limits old new result) (e : LimitedReadError) {s : Stop Refusal} → s ≢ Short → IsErrOf result e → limited_stop e ≡ s → GivesStop (corrupted UnexpectedEnd) (NoDocument v) old new (length comes.taken) s
stopped_in v limits old new (Ok d) comes e other is says = absurd (cc)
stopped_in v limits old new (Err (limited.Read f)) comes e other is says =
    let same : limited.Read f ≡ e = cc in
    subst (GivesStop (corrupted UnexpectedEnd) (NoDocument v) old new (length comes.taken)) (ap limited_stop same ∙ says) comes.outcome.stop
stopped_in v limits old new (Err (limited.Limit l)) comes e other is says =
    let same : limited.Limit l ≡ e = cc in
    absurd (other (sym says ∙ sym (ap limited_stop same)))

only_in : (v : Version) (limits : ReadLimits) (old new : List ℕ) (result : Result CompactDoc LimitedReadError) → length old < 2 ^ 64 - 1 → ReadsByLimits v limits old new result
    → (d : Document) (prefix rest : List ℕ) → old ≡ prefix ++ rest → EncodesDocument Legacy v prefix d → document_room d ≤ 4294967295 → IsReadUnless (MayPass limits.bytes prefix) document_of result d rest new
only_in v limits old new (Ok x) few h d prefix rest joined encoded small =
    only_by (documents v) document_of (Ok x) old new 0 (single_documents v old) (record { prefix = h.taken; joined = h.joined; encoded = h.outcome }) (λ is. absurd (cc)) (omega arith) d prefix rest joined encoded small
only_in v limits old new (Err (limited.Read e)) few h d prefix rest joined encoded small =
    let few_taken : length h.taken < 2 ^ 64 - 1 = omega (arith, few, ap length h.joined, length-append h.taken new) in
    excused (documents v) e old new (length h.taken) (single_documents v old) h.outcome.stop h.outcome.no_room few_taken d prefix rest joined encoded small
only_in v limits old new (Err (limited.Limit limit.Bytes)) few h d prefix rest joined encoded small = longer_in v limits.bytes h.taken old new h.joined h.outcome.0 h.outcome.1 d prefix rest joined encoded
only_in v limits old new (Err (limited.Limit l)) few h d prefix rest joined encoded small = tt

module _ {S : Type 0} (source : Ghosts S) (v : Version) (limits : ReadLimits) {old new : S} where
  pub reads_within : (result : Result CompactDoc LimitedReadError) → (source.is_known old → ReadsByLimits v limits (source.left old) (source.left new) result) → IfErr result (IsLimitedError limits)
      → Counts limited_stop result (source.failures old) (source.failures new) → (source.is_known old → source.is_known new) → ReadsWithin v limits source old new result
  reads_within result comes may counts stays = record {
    found = λ known. found_in v limits (source.left old) (source.left new) result (comes known);
    only = λ known. only_in v limits (source.left old) (source.left new) result known.1 (comes known.0);
    error = λ known e r is says. (stopped_in v limits (source.left old) (source.left new) result (comes known) e {s = InputError r} (λ same. cc) is says).stands;
    shows = λ known e r is says. (stopped_in v limits (source.left old) (source.left new) result (comes known) e {s = InputError r} (λ same. cc) is says).shows;
    too_long = λ known e r is says.
        let t = comes known in
        (t.taken, t.joined, (stopped_in v limits (source.left old) (source.left new) result t e {s = Uncounted r} (λ same. cc) is says).0);
    ends_early = λ known e r is says. (stopped_in v limits (source.left old) (source.left new) result (comes known) e {s = Uncounted r} (λ same. cc) is says).1;
    no_room = λ known e is full. full_in v limits (source.left old) (source.left new) result (comes known) (is ∙ ap (λ x. Err x) full);
    errors = may;
    taken = λ known. let t = comes known in (t.taken, t.joined);
    failures = counts;
    stays_known = stays;
  }

  -- what was taken where a limit was passed
  pub stops_within : (result : Result CompactDoc LimitedReadError) → (source.is_known old → ReadsByLimits v limits (source.left old) (source.left new) result)
      → (source.is_known old → Begins (TakenWithin v limits (has_come result)) (source.left old) (source.left new)) → StopsWithin v limits source old new result
  stops_within result comes parts = record {
    depth = λ known is. deep_in v limits (source.left old) (source.left new) result (comes known) is;
    heap = λ known is. large_in v limits (source.left old) (source.left new) result (comes known) is;
    bytes = λ known is. all_in v limits (source.left old) (source.left new) result (comes known) is;
    ends = λ known is. early_in v limits (source.left old) (source.left new) result (comes known) is;
    most = λ known. let t = comes known in record { prefix = t.taken; joined = t.joined; encoded = t.most };
    parts = parts;
  }
