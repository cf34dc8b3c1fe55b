-- From the bytes that were taken to what is promised of what was read.
use Rattle.std.proofs.Common.{◌≡◌, ℕ, ◌-◌, ◌^◌, ◌<◌, ◌≤◌, List, ◌++◌, Result, Ok, Err, refl, sym, ap, subst, ◌∙◌, arith, length, length-append}
use Rattle.std.specs.Prelude.{IfOk, IfErr, IsErrOf}
use Rattle.std.proofs.lemmas.List.{append_cancel_left}
use Rattle.std.proofs.lemmas.Result.{IfErr-at_err}
use Rattle.tv_base.specs.declared.cause.Cause.{Cause}
use Rattle.tv_base.specs.declared.cause.Cause.TheVariants.{UnexpectedEnd, TooLong}
use Rattle.tv_base.specs.declared.source.ByteSource.{Ghosts}
use Rattle.tv_base.specs.Parts.{Begins}
use Rattle.tv_base.specs.Source.{Failures}
use Rattle.tv_base.specs.ReadsAs.{Grammar, IsReadUnless, Known, Reads, Shows}
use Rattle.tv_base.specs.Stop.{Stop, CountsStop, Counts}
use Rattle.tv_base.specs.Stop.Stop.{InputError, Uncounted}
use Rattle.tv_base.proofs.ByGrammar.{few_taken}
use Rattle.tv_reading.specs.ChosenFields.{chosen}
use Rattle.tv_reading.proofs.RoomChosen.{chosen_has_room}
use Rattle.tv_reading.specs.Prefix.{HasNoRoom}
use Rattle.tv_reading.proofs.RoomWithin.{document_within}
use Rattle.tv_format.specs.Encoding.{EncodesDocument}
use Rattle.tv_format.specs.InputError.{Refusal, corrupted, no_text_key}
use Rattle.tv_format.specs.Tree.{Document}
use Rattle.tv_format.specs.Version.{Version}
use Rattle.tv_format.proofs.ExcludingTrees.{document_excludes, value_excludes}
use Rattle.tv_format.proofs.Trees.{one_document, one_tree}
use Rattle.tv_heap.specs.Room.{document_room}
use Rattle.tv_reader.specs.Legacy.{Legacy, ErrorInLegacy}
use Rattle.tv_reader.proofs.UniqueLegacy.{one_legacy, legacy_excludes}
use Rattle.tv_reader.specs.Error.{key_stop, store_stop, StoreMayStopRoomy, IsRefusal}
use Rattle.tv_reader.specs.Error.IsRefusal.{is_corrupted, is_no_text}
use Rattle.tv_reader.specs.ValueType.{value_type_code}
use Rattle.tv_reader.specs.Finds.{ShowsRefusal, GivesStop, Found, FindsIf}
use Rattle.tv_reader.specs.Trees.{NoValue}
use Rattle.tv_reader.specs.declared.error.DeserializeError.{DeserializeError}
use Rattle.tv_reader.specs.declared.error.DeserializeError.TheVariants as errors
use Rattle.tv_reader.specs.declared.value_type.ValueType.{ValueType}
use Rattle.tv_reader.specs.declared.value_type.ValueType.TheVariants as types
use Rattle.tv_reading.specs.Skip.{IsDocumentEncoding, IsValueEncoding}
use Rattle.tv_store.specs.Documents.{IsReadingError, NoDocument, SaysNothing, in_place}
use Rattle.tv_store.specs.Reading.{reading, documents, chosen_pairs, passed}
use Rattle.tv_value.specs.declared.field.Field.{Field}

abbrev pub end : Refusal
end = corrupted UnexpectedEnd

-- ---- refusals

-- more can be counted
pub told_cause : (P : List ℕ → Refusal → Type 0) (c : Cause) (old new : List ℕ) (count : ℕ) → count < 2 ^ 64 - 1 → GivesStop end P old new count (store_stop (errors.CorruptedValue c)) → ShowsRefusal end P old new (corrupted c)
told_cause P TooLong old new count few h = absurd (omega (arith, few, h.0))
told_cause P c old new count few h = h

-- ---- which errors come

mismatched : (expected actual : ValueType) (old new : Failures) → CountsStop (key_stop expected actual) old new → expected ≡ types.String
mismatched types.String actual old new h = refl
mismatched _ actual old new h = absurd h

may_come : (e : DeserializeError) (old new : Failures) → CountsStop (store_stop e) old new → IsReadingError e
may_come (errors.CorruptedValue c) old new h = tt
may_come (errors.TypeMismatch expected actual) old new h = mismatched expected actual old new h
may_come errors.HeapFull old new h = tt
may_come (errors.Io k) old new h = tt
may_come errors.Memory old new h = tt
may_come _ old new h = h

pub errors_by : {X : Type 0} (result : Result X DeserializeError) (old new : Failures) → Counts store_stop result old new → IfErr result IsReadingError
errors_by (Ok x) old new h = tt
errors_by (Err e) old new h = may_come e old new h

pub no_heap_full : {X : Type 0} (result : Result X DeserializeError) (count : ℕ) → IfErr result (λ e. StoreMayStopRoomy e count) → ¬ IsErrOf result errors.HeapFull
no_heap_full result count may is = (IfErr-at_err (λ e. StoreMayStopRoomy e count) is may).1 refl

-- ---- one reading

-- of these bytes: what is encoded is one value, is no refusal, and has no room only where there is none
pub record IsSingle {Y : Type 0} (grammar : Grammar Refusal Y) (old : List ℕ) : Type 0 where
  pub same : (a b x y : List ℕ) (m n : Y) → grammar.Encodes a m → grammar.Encodes b n → a ++ x ≡ b ++ y → (a ≡ b) × (m ≡ n)
  pub excludes : (a x : List ℕ) (m : Y) (r : Refusal) → old ≡ a ++ x → grammar.Encodes a m → grammar.HasError old r → ⊥
  pub fits : (a x : List ℕ) (m : Y) → old ≡ a ++ x → grammar.Encodes a m → grammar.NoRoom old → grammar.HasRoom m → ⊥

pub excluded : (v : Version) (old prefix rest : List ℕ) (d : Document) (r : Refusal) → old ≡ prefix ++ rest → EncodesDocument Legacy v prefix d → NoDocument v old r → ⊥
excluded v old prefix rest d r joined encoded f = (document_excludes Legacy ErrorInLegacy v one_legacy legacy_excludes d).excludes old prefix rest r f encoded joined

has_room : (v : Version) (old prefix rest : List ℕ) (d : Document) → old ≡ prefix ++ rest → EncodesDocument Legacy v prefix d → HasNoRoom v old → document_room d ≤ 4294967295 → ⊥
has_room v old prefix rest d joined encoded full small =
    let within = document_within Legacy v one_legacy full.announced full.finished full.field full.state full.prefix full.rest prefix rest d full.is full.less full.encoded (sym full.joined ∙ joined) encoded in
    omega (arith, full.no_room, small, within)

pub single_documents : (v : Version) (old : List ℕ) → IsSingle (documents v) old
single_documents v old = record {
  same = λ a b x y m n p q e. one_document Legacy v one_legacy a b x y m n p q e;
  excludes = λ a x m r joined p f. excluded v old a x m r joined p f;
  fits = λ a x m joined p full small. has_room v old a x m joined p full small;
}

pub single_chosen : (v : Version) (fields : List Field) (old : List ℕ) → IsSingle (chosen_pairs v fields) old
single_chosen v fields old = record {
  same = λ a b x y m n p q e. let one = one_document Legacy v one_legacy a b x y p.0 q.0 p.1 q.1 e in (one.0, p.2 ∙ ap (chosen fields) one.1 ∙ sym q.2);
  excludes = λ a x m r joined p f. excluded v old a x p.0 r joined p.1 f;
  fits = λ a x m joined p full small. chosen_has_room v fields old a x p.0 joined p.1 full (subst (λ (z : Document). document_room z ≤ 4294967295) p.2 small);
}

pub single_passed : (v : Version) (old : List ℕ) → IsSingle (passed (IsDocumentEncoding v) (NoDocument v)) old
single_passed v old = record {
  same = λ a b x y m n p q e. ((one_document Legacy v one_legacy a b x y p.0 q.0 p.1 q.1 e).0, refl);
  excludes = λ a x m r joined p f. excluded v old a x p.0 r joined p.1 f;
  fits = λ a x m joined p full small. full;
}

pub single_values : (v : Version) (old : List ℕ) → IsSingle (passed (IsValueEncoding v) (NoValue v)) old
single_values v old = record {
  same = λ a b x y m n p q e. ((one_tree Legacy v one_legacy a b x y p.0 q.0 p.1 q.1 e).0, refl);
  excludes = λ a x m r joined p f. value_excludes Legacy ErrorInLegacy v one_legacy legacy_excludes f p.0 a x p.1 joined;
  fits = λ a x m joined p full small. full;
}

-- ---- what is found is what is promised

-- an error where a prefix encodes what has room
pub excused : {Y : Type 0} (grammar : Grammar Refusal Y) (e : DeserializeError) (old new : List ℕ) (count : ℕ) → IsSingle grammar old → GivesStop end grammar.HasError old new count (store_stop e) → (e ≡ errors.HeapFull → grammar.NoRoom old) → count < 2 ^ 64 - 1
    → (y : Y) (prefix rest : List ℕ) → old ≡ prefix ++ rest → grammar.Encodes prefix y → grammar.HasRoom y → SaysNothing e
excused grammar (errors.CorruptedValue c) old new count single h full few y prefix rest joined encoded small = single.excludes prefix rest y (corrupted c) joined encoded (told_cause grammar.HasError c old new count few h).stands
excused grammar (errors.TypeMismatch types.String actual) old new count single h full few y prefix rest joined encoded small = single.excludes prefix rest y (no_text_key _) joined encoded h.stands
excused grammar errors.HeapFull old new count single h full few y prefix rest joined encoded small = single.fits prefix rest y joined encoded (full refl) small
excused grammar (errors.Io k) old new count single h full few y prefix rest joined encoded small = tt
excused grammar errors.Memory old new count single h full few y prefix rest joined encoded small = tt
excused grammar _ old new count single h full few y prefix rest joined encoded small = h

abbrev pub FoundAs : {X Y : Type 0} → Grammar Refusal Y → (X → Y) → Result X DeserializeError → List ℕ → List ℕ → ℕ → Type 0
FoundAs grammar view result old new count = Found store_stop end (λ b x. grammar.Encodes b (view x)) grammar.HasError old new count result

module _ {X Y : Type 0} (grammar : Grammar Refusal Y) (view : X → Y) where
  found_by : (result : Result X DeserializeError) (old new : List ℕ) (count : ℕ) → FoundAs grammar view result old new count → IfOk result (λ x. Begins (λ b. grammar.Encodes b (view x)) old new)
  found_by (Ok x) old new count h = h
  found_by (Err e) old new count h = tt

  -- what was left shows why an error stopped the reader
  pub stopped_by : (result : Result X DeserializeError) (old new : List ℕ) (count : ℕ) (e : DeserializeError) {s : Stop Refusal} → FoundAs grammar view result old new count → IsErrOf result e → store_stop e ≡ s → GivesStop end grammar.HasError old new count s
  stopped_by result old new count e h is says = subst (GivesStop end grammar.HasError old new count) says (subst (λ z. FoundAs grammar view z old new count) is h)

  pub only_by : (result : Result X DeserializeError) (old new : List ℕ) (count : ℕ) → IsSingle grammar old → FoundAs grammar view result old new count → (IsErrOf result errors.HeapFull → grammar.NoRoom old) → count < 2 ^ 64 - 1
      → (y : Y) (prefix rest : List ℕ) → old ≡ prefix ++ rest → grammar.Encodes prefix y → grammar.HasRoom y → IsReadUnless SaysNothing view result y rest new
  only_by (Ok x) old new count single h full few y prefix rest joined encoded small =
      let same = single.same h.prefix prefix new rest (view x) y h.encoded encoded (sym h.joined ∙ joined) in
      (same.1, append_cancel_left prefix new rest (ap (λ (l : List ℕ). l ++ new) (sym same.0) ∙ sym h.joined ∙ joined))
  only_by (Err e) old new count single h full few y prefix rest joined encoded small = excused grammar e old new count single h (λ is. full (ap (λ z. Err z) is)) few y prefix rest joined encoded small

  -- a reader that stops where it may
  pub reads_of : {S : Type 0} (source : Ghosts S) {old new : S} {count : ℕ} {May : DeserializeError → ℕ → Type 0} (result : Result X DeserializeError) → IsSingle grammar (source.left old)
      → FindsIf May source.is_known source.left source.failures old 0 new count result (λ b x. grammar.Encodes b (view x)) grammar.HasError → (source.is_known old → IsErrOf result errors.HeapFull → grammar.NoRoom (source.left old)) → Reads reading grammar source old new view result
  reads_of source {old = old} {new = new} {count = count} result single h room = record {
    found = λ known. found_by result (source.left old) (source.left new) count (h.found known);
    only = λ known. only_by result (source.left old) (source.left new) count single (h.found known.0) (room known.0) (few_taken known.1 (h.taken known.0));
    error = λ known e r is says. (stopped_by result (source.left old) (source.left new) count e {s = InputError r} (h.found known) is says).stands;
    shows = λ known e r is says. (stopped_by result (source.left old) (source.left new) count e {s = InputError r} (h.found known) is says).shows;
    too_long = λ known e r is says.
        let t = h.taken known in
        let most : count ≡ 2 ^ 64 - 1 = (stopped_by result (source.left old) (source.left new) count e {s = Uncounted r} (h.found known) is says).0 in
        (t.prefix, t.joined, omega (arith, t.counted, most));
    ends_early = λ known e r is says. (stopped_by result (source.left old) (source.left new) count e {s = Uncounted r} (h.found known) is says).1;
    no_room = λ known e is full. room known (is ∙ ap (λ x. Err x) full);
    errors = errors_by result (source.failures old) (source.failures new) h.counts;
    taken = λ known. let t = h.taken known in (t.prefix, t.joined);
    failures = h.counts;
    stays_known = h.stays_known;
  }

-- ---- what is said of fewer bytes than can be counted

pub never_long : {Y S X : Type 0} {grammar : Grammar Refusal Y} {source : Ghosts S} {old new : S} {view : X → Y} {result : Result X DeserializeError} → Known source old → Reads reading grammar source old new view result → (e : DeserializeError) (r : Refusal) → IsErrOf result e → store_stop e ≡ Uncounted r → ⊥
never_long {source = source} {new = new} known h e r is says = let t = h.too_long known.0 e r is says in omega (arith, known.1, ap length t.1, length-append t.0 (source.left new), t.2)

refused_cause : {Y S X : Type 0} {grammar : Grammar Refusal Y} {source : Ghosts S} {old new : S} {view : X → Y} {result : Result X DeserializeError} → Known source old → Reads reading grammar source old new view result → (c : Cause) → IsErrOf result (errors.CorruptedValue c) → grammar.HasError (source.left old) (corrupted c)
refused_cause known h TooLong is = absurd (never_long known h (errors.CorruptedValue TooLong) end is refl)
refused_cause known h c is = h.error known.0 (errors.CorruptedValue c) (corrupted c) is refl

pub refusal_is_true : {Y S X : Type 0} {grammar : Grammar Refusal Y} {source : Ghosts S} {old new : S} {view : X → Y} {result : Result X DeserializeError} → Known source old → Reads reading grammar source old new view result → (e : DeserializeError) (r : Refusal) → IsErrOf result e → IsRefusal e r → grammar.HasError (source.left old) r
refusal_is_true known h _ _ is (is_corrupted {c = c}) = refused_cause known h c is
refusal_is_true known h _ _ is (is_no_text {actual = actual}) = h.error known.0 (errors.TypeMismatch types.String actual) (no_text_key (value_type_code actual)) is refl

cause_shows : {Y S X : Type 0} {grammar : Grammar Refusal Y} {source : Ghosts S} {old new : S} {view : X → Y} {result : Result X DeserializeError} → Known source old → Reads reading grammar source old new view result → (c : Cause) → IsErrOf result (errors.CorruptedValue c) → Shows end grammar.HasError (source.left old) (source.left new) (corrupted c)
cause_shows known h TooLong is = absurd (never_long known h (errors.CorruptedValue TooLong) end is refl)
cause_shows known h c is = h.shows known.0 (errors.CorruptedValue c) (corrupted c) is refl

-- just the bytes that show it were taken
pub refusal_is_shown : {Y S X : Type 0} {grammar : Grammar Refusal Y} {source : Ghosts S} {old new : S} {view : X → Y} {result : Result X DeserializeError} → Known source old → Reads reading grammar source old new view result → (e : DeserializeError) (r : Refusal) → IsErrOf result e → IsRefusal e r → Shows end grammar.HasError (source.left old) (source.left new) r
refusal_is_shown known h _ _ is (is_corrupted {c = c}) = cause_shows known h c is
refusal_is_shown known h _ _ is (is_no_text {actual = actual}) = h.shows known.0 (errors.TypeMismatch types.String actual) (no_text_key (value_type_code actual)) is refl

-- ---- in place of what is there

module _ {S D : Type 0} {May : DeserializeError → ℕ → Type 0} {is_known : S → Type 0} {left : S → List ℕ} {failures : S → Failures} {old new : S} {i k : ℕ} (result : Result (Unit {0}) DeserializeError) (document : D) (A : List ℕ → D → Type 0) (H : List ℕ → Refusal → Type 0) where
  -- what was read was put in the place of a document
  pub finds_put : {read : Result D DeserializeError} → in_place result document ≡ read → FindsIf May is_known left failures old i new k read A H → FindsIf May is_known left failures old i new k result (λ b _. A b document) H
  finds_put same h = placed result (subst (λ r. FindsIf May is_known left failures old i new k r A H) (sym same) h)
    where
      placed : (result : Result (Unit {0}) DeserializeError) → FindsIf May is_known left failures old i new k (in_place result document) A H → FindsIf May is_known left failures old i new k result (λ b _. A b document) H
      placed (Ok x) h = record { found = h.found; taken = h.taken; stays_known = h.stays_known; counts = h.counts; count_grows = h.count_grows; may_stop = h.may_stop }
      placed (Err e) h = record { found = h.found; taken = h.taken; stays_known = h.stays_known; counts = h.counts; count_grows = h.count_grows; may_stop = h.may_stop }
