-- Typed reads by the parts that they take.
use Rattle.std.proofs.Common.{◌≡◌, ◌≢◌, ℕ, Bool, true, false, List, ◌++◌, Result, Ok, Err, refl, sym, ap, subst, ◌∙◌, inl, inr}
use Rattle.std.specs.Prelude.{is_err, IfErr, IsErrOf}
use Rattle.std.proofs.lemmas.Result.{IfErr-weaker}
use Rattle.tv_base.specs.declared.cause.Cause.{Cause}
use Rattle.tv_base.specs.declared.cause.Cause.TheVariants.{UnexpectedEnd, TooLong}
use Rattle.tv_base.specs.declared.cause.ReadError.{ReadError}
use Rattle.tv_base.specs.declared.cause.ReadError.TheVariants as reads
use Rattle.tv_base.specs.ReadsAs.{Shows, EndsEarly}
use Rattle.tv_base.specs.Source.{AllBytes, Failures}
use Rattle.tv_base.specs.Stop.{CountsStop, Counts, Gives}
use Rattle.tv_base.specs.Stop.Stop.{InputError}
use Rattle.tv_base.specs.Take.{MayStop, MayStopLean, read_stop, TakesIf}
use Rattle.tv_base.proofs.Agrees.{Agrees}
use Rattle.tv_base.proofs.ByGrammar.{shows_by, early_by}
use Rattle.tv_reader.specs.Legacy.{Legacy}
use Rattle.tv_format.specs.InputError.{Refusal, corrupted}
use Rattle.tv_format.specs.Encoding.{Encodes}
use Rattle.tv_format.specs.Tree.{Leaf, leaf}
use Rattle.tv_format.specs.Version.{Version}
use Rattle.tv_reader.specs.Error.{key_stop, store_stop, tree_stop, StoreMayStop, StoreMayStopRoomy, StoreMayStopDeep, IsRefusal, is_corrupted, is_no_text}
use Rattle.tv_reader.specs.Finds.{ShowsRefusal, GivesStop, Found, FindsBy, FindsIf, FindsDeepBy}
use Rattle.tv_reader.specs.LeafBodies.{LeafOf, ErrorInLeafOf}
use Rattle.tv_reader.specs.Leaves.{is_leaf_type}
use Rattle.tv_reader.specs.Trees.{NoneBehind}
use Rattle.tv_reader.specs.ValueType.{type_prefix}
use Rattle.tv_typed.specs.Typed.{typed_stop, ReadsIf, raised, IsMismatch, failed_before, mismatched}
use Rattle.tv_typed.specs.Values.{EncodesLeaf, LeafRefused, other_type, in_body, GivesError}
use Rattle.tv_reader.specs.declared.error.DeserializeError.{DeserializeError}
use Rattle.tv_reader.specs.declared.error.DeserializeError.TheVariants as errors
use Rattle.tv_reader.specs.declared.value_type.ValueType.{ValueType}
use Rattle.tv_reader.specs.declared.value_type.ValueType.TheVariants as types
use Rattle.tv_typed.specs.declared.store_reader.StoreReader.{StoreReader}
use Rattle.tv_reader.proofs.BehindKinds.{leaf_encoded, leaf_refused}
use Rattle.tv_reader.proofs.Finding.{shows_map, early_map, raised_roomy, finds_refused}

abbrev end : DeserializeError
end = errors.CorruptedValue UnexpectedEnd

same_cause : (c : Cause) → errors.CorruptedValue c ≡ errors.CorruptedValue UnexpectedEnd → c ≡ UnexpectedEnd
same_cause c e = cc

typed_found : {X Y : Type 0} (view : X → Y) {reading : List ℕ → Result (Y × List ℕ) (Cause × List ℕ)} {Encodes : List ℕ → Y → Type 0} {HasError : List ℕ → Cause → Type 0} (answer : Result X ReadError) (B : List ℕ → X → Type 0) (Q : List ℕ → DeserializeError → Type 0)
    → Agrees UnexpectedEnd reading Encodes HasError → ((a : List ℕ) (x : X) → Encodes a (view x) → B a x) → ((w : List ℕ) (c : Cause) → HasError w c → Q w (errors.CorruptedValue c)) → (old taken new : List ℕ) (count : ℕ) → AllBytes old → old ≡ taken ++ new
    → Gives read_stop view answer reading taken new count → Found typed_stop end B Q old new count (raised answer)
typed_found view {reading = reading} (Ok x) B Q agrees join map old taken new count small joined h =
    let p = agrees.sound old (view x, new) small (ap reading joined ∙ h new) in
    record { prefix = p.0; joined = p.2; encoded = join p.0 x p.1 }
typed_found view (Err (reads.Corrupted TooLong)) B Q agrees join map old taken new count small joined h =
    (h.0, early_map (λ d. errors.CorruptedValue d) old new UnexpectedEnd map (early_by agrees old taken new UnexpectedEnd small joined h.1))
typed_found view {reading = reading} (Err (reads.Corrupted c)) B Q agrees join map old taken new count small joined h =
    let e = ap reading joined ∙ h in
    record { stands = map old c (agrees.refused old c new small e); shows = shows_map (λ d. errors.CorruptedValue d) same_cause old new c map (shows_by agrees old new c small e) }
typed_found view (Err (reads.Io kind)) B Q agrees join map old taken new count small joined h = tt
typed_found view (Err reads.Memory) B Q agrees join map old taken new count small joined h = tt

typed_counts : {X : Type 0} (answer : Result X ReadError) (old new : Failures) → Counts read_stop answer old new → Counts typed_stop (raised answer) old new
typed_counts (Ok x) old new h = h
typed_counts (Err (reads.Corrupted TooLong)) old new h = h
typed_counts (Err (reads.Corrupted c)) old new h = h
typed_counts (Err (reads.Io kind)) old new h = h
typed_counts (Err reads.Memory) old new h = h

typed_may : {X : Type 0} (answer : Result X ReadError) (count : ℕ) → IfErr answer (λ e. MayStop e count) → IfErr (raised answer) (λ e. StoreMayStop e count)
typed_may (Ok x) count may = tt
typed_may (Err e) count may = (raised_roomy e count may).0

typed_part : {S X Y : Type 0} (is_known : S → Type 0) (left : S → List ℕ) (failures : S → Failures) (old new : S) (i k : ℕ) (view : X → Y) (answer : Result X ReadError) {reading : List ℕ → Result (Y × List ℕ) (Cause × List ℕ)} {Encodes : List ℕ → Y → Type 0} {HasError : List ℕ → Cause → Type 0} (B : List ℕ → X → Type 0) (Q : List ℕ → DeserializeError → Type 0)
    → ((source : S) → is_known source → AllBytes (left source)) → Agrees UnexpectedEnd reading Encodes HasError → ((a : List ℕ) (x : X) → Encodes a (view x) → B a x) → ((w : List ℕ) (c : Cause) → HasError w c → Q w (errors.CorruptedValue c))
    → TakesIf MayStop is_known left failures old i new k view answer reading → FindsBy typed_stop StoreMayStop end is_known left failures old i new k (raised answer) B Q
typed_part is_known left failures old new i k view answer B Q are_bytes agrees join map h =
    record { found = λ t. let p = h.taken t in typed_found view answer B Q agrees join map (left old) p.prefix (left new) k (are_bytes old t) p.joined (h.gives t p.prefix p.joined); taken = h.taken; stays_known = h.stays_known; counts = typed_counts answer (failures old) (failures new) h.counts; count_grows = h.count_grows; may_stop = typed_may answer k h.may_stop }

both : (b : Bool) → b ≡ false → b ≡ true → ⊥
both b p q = let e = sym p ∙ q in absurd cc

-- the reader was open, and a part was taken
pub reads_part : {S X Y : Type 0} {is_known : S → Type 0} {left : S → List ℕ} {failures : S → Failures} {s : S} {k : ℕ} {view : X → Y} {answer : Result X ReadError} {reading : List ℕ → Result (Y × List ℕ) (Cause × List ℕ)} {Encodes : List ℕ → Y → Type 0} {HasError : List ℕ → Cause → Type 0}
    (old new : StoreReader S) (result : Result X DeserializeError) (B : List ℕ → X → Type 0) (Q : List ℕ → DeserializeError → Type 0)
    → ((source : S) → is_known source → AllBytes (left source)) → Agrees UnexpectedEnd reading Encodes HasError → ((a : List ℕ) (x : X) → Encodes a (view x) → B a x) → ((w : List ℕ) (c : Cause) → HasError w c → Q w (errors.CorruptedValue c))
    → old.has_failed ≡ false → TakesIf MayStop is_known left failures old.source old.count s k view answer reading → new.source ≡ s → new.count ≡ k → new.version ≡ old.version → new.levels ≡ old.levels → new.has_failed ≡ is_err result → result ≡ raised answer
    → ReadsIf StoreMayStop is_known left failures old new result B Q
reads_part {is_known = is_known} {left = left} {failures = failures} {s = s} {k = k} {view = view} {answer = answer} old new result B Q are_bytes agrees join map is_open part source count version levels marks told = record {
  closed = λ failed. absurd (both old.has_failed is_open failed);
  finds = λ _. subst (λ r. FindsBy typed_stop StoreMayStop end is_known left failures old.source old.count new.source new.count r B Q) (sym told)
      (subst (λ z. FindsBy typed_stop StoreMayStop end is_known left failures old.source old.count z new.count (raised answer) B Q) (sym source)
      (subst (λ n. FindsBy typed_stop StoreMayStop end is_known left failures old.source old.count s n (raised answer) B Q) (sym count)
      (typed_part is_known left failures old.source s old.count k view answer B Q are_bytes agrees join map part)));
  marks_failure = marks;
  same_version = version;
  same_levels = levels;
}

-- the reader was refused before, or the type is another than that which is expected
pub reads_mismatch : {S X Kind : Type 0} (is_known : S → Type 0) (left : S → List ℕ) (failures : S → Failures) (old new : StoreReader S) (kind expected : Kind) (refusal e : DeserializeError) (B : List ℕ → X → Type 0) (Q : List ℕ → DeserializeError → Type 0)
    → typed_stop refusal ≡ InputError refusal → StoreMayStop refusal old.count → refusal ≢ end → (kind ≢ expected → (w : List ℕ) → Q w refusal)
    → IsMismatch old.has_failed kind expected refusal e → new.source ≡ old.source → new.count ≡ old.count → new.version ≡ old.version → new.levels ≡ old.levels → new.has_failed ≡ true → ReadsIf StoreMayStop is_known left failures old new (Err e) B Q
reads_mismatch is_known left failures old new kind expected refusal _ B Q is may other shows (failed_before failed) source count version levels marks = record {
  closed = λ _. (refl, source, count);
  finds = λ is_open. absurd (both old.has_failed is_open failed);
  marks_failure = marks;
  same_version = version;
  same_levels = levels;
}
reads_mismatch is_known left failures old new kind expected refusal _ B Q is may other shows (mismatched is_open apart) source count version levels marks = record {
  closed = λ failed. absurd (both old.has_failed is_open failed);
  finds = λ _. subst (λ z. FindsBy typed_stop StoreMayStop end is_known left failures old.source old.count z new.count (Err refusal) B Q) (sym source)
      (subst (λ n. FindsBy typed_stop StoreMayStop end is_known left failures old.source old.count old.source n (Err refusal) B Q) (sym count)
      (finds_refused typed_stop end is_known left failures old.source old.count refusal refusal B Q is may other (shows apart)));
  marks_failure = marks;
  same_version = version;
  same_levels = levels;
}

-- the same of a leaf
pub leaf_mismatch : {S X : Type 0} (is_known : S → Type 0) (left : S → List ℕ) (failures : S → Failures) (old new : StoreReader S) (kind expected : ValueType) (v : Version) (e : DeserializeError) (B : List ℕ → X → Type 0)
    → IsMismatch old.has_failed kind expected (errors.TypeMismatch expected kind) e → new.source ≡ old.source → new.count ≡ old.count → new.version ≡ old.version → new.levels ≡ old.levels → new.has_failed ≡ true → ReadsIf StoreMayStop is_known left failures old new (Err e) B (LeafRefused expected v kind)
leaf_mismatch is_known left failures old new kind expected v e B h source count version levels marks =
    reads_mismatch is_known left failures old new kind expected (errors.TypeMismatch expected kind) e B (LeafRefused expected v kind) refl tt (λ same. cc) (λ other w. other_type other) h source count version levels marks

-- the reader was refused before
pub reads_closed : {May : DeserializeError → ℕ → Type 0} {S X : Type 0} (is_known : S → Type 0) (left : S → List ℕ) (failures : S → Failures) (old new : StoreReader S) (e : DeserializeError) (B : List ℕ → X → Type 0) (Q : List ℕ → DeserializeError → Type 0)
    → e ≡ errors.AlreadyFailed → old.has_failed ≡ true → new.source ≡ old.source → new.count ≡ old.count → new.version ≡ old.version → new.levels ≡ old.levels → new.has_failed ≡ true → ReadsIf May is_known left failures old new (Err e) B Q
reads_closed is_known left failures old new e B Q is failed source count version levels marks = record {
  closed = λ _. (ap (λ (d : DeserializeError). Err d) is, source, count);
  finds = λ is_open. absurd (both old.has_failed is_open failed);
  marks_failure = marks;
  same_version = version;
  same_levels = levels;
}

-- the type was the one that is expected, and then a part was taken
pub reads_then : {S X Y : Type 0} {is_known : S → Type 0} {left : S → List ℕ} {failures : S → Failures} {s : S} {k : ℕ} {view : X → Y} {answer : Result X ReadError} {reading : List ℕ → Result (Y × List ℕ) (Cause × List ℕ)} {R : List ℕ → Y → Type 0} {F : List ℕ → Cause → Type 0}
    (old mid new : StoreReader S) (result : Result X DeserializeError) (B : List ℕ → X → Type 0) (Q : List ℕ → DeserializeError → Type 0)
    → ((source : S) → is_known source → AllBytes (left source)) → Agrees UnexpectedEnd reading R F → ((a : List ℕ) (x : X) → R a (view x) → B a x) → ((w : List ℕ) (c : Cause) → F w c → Q w (errors.CorruptedValue c))
    → old.has_failed ≡ false → mid.source ≡ old.source → mid.count ≡ old.count → mid.version ≡ old.version → mid.levels ≡ old.levels
    → TakesIf MayStop is_known left failures mid.source mid.count s k view answer reading → new.source ≡ s → new.count ≡ k → new.version ≡ mid.version → new.levels ≡ mid.levels → new.has_failed ≡ is_err result → result ≡ raised answer
    → ReadsIf StoreMayStop is_known left failures old new result B Q
reads_then {is_known = is_known} {left = left} {failures = failures} {s = s} {k = k} {view = view} {answer = answer} {reading = reading} old mid new result B Q are_bytes agrees join map is_open source count version levels part source_new count_new version_new levels_new marks told =
    reads_part old new result B Q are_bytes agrees join map is_open
    (subst (λ z. TakesIf MayStop is_known left failures z old.count s k view answer reading) source (subst (λ n. TakesIf MayStop is_known left failures mid.source n s k view answer reading) count part))
    source_new count_new (version_new ∙ version) (levels_new ∙ levels) marks told

-- what was read is encoded after the code of the type that was expected
pub leaf_reads : {S X Y : Type 0} {is_known : S → Type 0} {left : S → List ℕ} {failures : S → Failures} {s : S} {k : ℕ} {view : X → Y} {answer : Result X ReadError} {reading : List ℕ → Result (Y × List ℕ) (Cause × List ℕ)} {R : List ℕ → Y → Type 0} {F : List ℕ → Cause → Type 0}
    (old mid new : StoreReader S) (result : Result X DeserializeError) (v : Version) (kind expected : ValueType) (make : X → Leaf)
    → ((source : S) → is_known source → AllBytes (left source)) → Agrees UnexpectedEnd reading R F → ((a : List ℕ) (x : X) → R a (view x) → LeafOf v expected a (leaf (make x))) → ((w : List ℕ) (c : Cause) → F w c → ErrorInLeafOf v expected w c)
    → is_leaf_type expected ≡ true → kind ≡ expected → old.has_failed ≡ false → mid.source ≡ old.source → mid.count ≡ old.count → mid.version ≡ old.version → mid.levels ≡ old.levels
    → TakesIf MayStop is_known left failures mid.source mid.count s k view answer reading → new.source ≡ s → new.count ≡ k → new.version ≡ mid.version → new.levels ≡ mid.levels → new.has_failed ≡ is_err result → result ≡ raised answer
    → ReadsIf StoreMayStop is_known left failures old new result (EncodesLeaf v kind make) (LeafRefused expected v kind)
leaf_reads {is_known = is_known} {left = left} {failures = failures} {s = s} {k = k} {view = view} {answer = answer} {reading = reading} old mid new result v kind expected make are_bytes agrees join map is_leaf is is_open source count version levels part source_new count_new version_new levels_new marks told =
    reads_then old mid new result (EncodesLeaf v kind make) (LeafRefused expected v kind) are_bytes agrees
    (λ a x p. subst (λ z. Encodes Legacy v (type_prefix z ++ a) (leaf (make x))) (sym is) (leaf_encoded v expected a (leaf (make x)) (join a x p)))
    (λ w c f. in_body is (subst (λ z. NoneBehind v z w (corrupted c)) (sym is) (leaf_refused v expected is_leaf w c (map w c f))))
    is_open source count version levels part source_new count_new version_new levels_new marks told

-- ---- what is refused in the words of lower layers

told_shows : {F : List ℕ → Refusal → Type 0} (e : DeserializeError) (r : Refusal) (old new : List ℕ) → IsRefusal e r → Shows (corrupted UnexpectedEnd) F old new r → Shows end (GivesError F) old new e
told_shows e r old new told s = record {
  taken = s.taken;
  joined = s.joined;
  shown = record { refusal = r; told = told; error = s.shown };
  all = λ is. s.all (ends e r told is);
  early = λ other prefix byte last. record { refusal = corrupted UnexpectedEnd; told = is_corrupted; error = s.early (λ is. other (ended e r told is)) prefix byte last };
}
  where
    ends : (e : DeserializeError) (r : Refusal) → IsRefusal e r → e ≡ end → r ≡ corrupted UnexpectedEnd
    ends _ _ is_corrupted is = cc
    ends _ _ is_no_text is = cc

    ended : (e : DeserializeError) (r : Refusal) → IsRefusal e r → r ≡ corrupted UnexpectedEnd → e ≡ end
    ended _ _ is_corrupted is = cc
    ended _ _ is_no_text is = cc

told_refuses : {F : List ℕ → Refusal → Type 0} (e : DeserializeError) (r : Refusal) (old new : List ℕ) → IsRefusal e r → ShowsRefusal (corrupted UnexpectedEnd) F old new r → ShowsRefusal end (GivesError F) old new e
told_refuses e r old new told h = record { stands = record { refusal = r; told = told; error = h.stands }; shows = told_shows e r old new told h.shows }

-- bytes that end too early
told_early : {F : List ℕ → Refusal → Type 0} (old new : List ℕ) → EndsEarly (corrupted UnexpectedEnd) F old new → EndsEarly end (GivesError F) old new
told_early old new h = record { taken = h.taken; joined = h.joined; shown = record { refusal = corrupted UnexpectedEnd; told = is_corrupted; error = h.shown } }

mismatch_found : {F : List ℕ → Refusal → Type 0} (expected actual : ValueType) (old new : List ℕ) (count : ℕ) → GivesStop (corrupted UnexpectedEnd) F old new count (key_stop expected actual)
    → ShowsRefusal end (GivesError F) old new (errors.TypeMismatch expected actual)
mismatch_found types.String actual old new count h = told_refuses _ _ old new is_no_text h
mismatch_found _ actual old new count h = absurd h

pub mismatch_counts : (expected actual : ValueType) (old new : Failures) → CountsStop (key_stop expected actual) old new → new ≡ old
mismatch_counts types.String actual old new h = h
mismatch_counts _ actual old new h = absurd h

told_found : {X : Type 0} (B : List ℕ → X → Type 0) (F : List ℕ → Refusal → Type 0) (result : Result X DeserializeError) (old new : List ℕ) (count : ℕ) → IfErr result (λ e. StoreMayStopRoomy e count) → Found store_stop (corrupted UnexpectedEnd) B F old new count result
    → Found typed_stop end B (GivesError F) old new count result
told_found B F (Ok x) old new count roomy h = h
told_found B F (Err (errors.CorruptedValue TooLong)) old new count roomy h = (h.0, told_early old new h.1)
told_found B F (Err (errors.CorruptedValue c)) old new count roomy h = told_refuses _ _ old new is_corrupted h
told_found B F (Err (errors.TypeMismatch expected actual)) old new count roomy h = mismatch_found expected actual old new count h
told_found B F (Err (errors.Io k)) old new count roomy h = tt
told_found B F (Err errors.Memory) old new count roomy h = tt
told_found B F (Err errors.HeapFull) old new count roomy h = absurd (roomy.1 refl)
told_found B F (Err _) old new count roomy h = absurd h

told_counts : {X : Type 0} (result : Result X DeserializeError) (old new : Failures) (count : ℕ) → IfErr result (λ e. StoreMayStopRoomy e count) → Counts store_stop result old new → Counts typed_stop result old new
told_counts (Ok x) old new count roomy h = h
told_counts (Err (errors.CorruptedValue TooLong)) old new count roomy h = h
told_counts (Err (errors.CorruptedValue c)) old new count roomy h = h
told_counts (Err (errors.TypeMismatch expected actual)) old new count roomy h = mismatch_counts expected actual old new h
told_counts (Err (errors.Io k)) old new count roomy h = h
told_counts (Err errors.Memory) old new count roomy h = h
told_counts (Err errors.HeapFull) old new count roomy h = absurd (roomy.1 refl)
told_counts (Err _) old new count roomy h = absurd h

pub told_reads : {S X : Type 0} {is_known : S → Type 0} {left : S → List ℕ} {failures : S → Failures} {s : S} {k : ℕ} (old new : StoreReader S) (result : Result X DeserializeError) (B : List ℕ → X → Type 0) (F : List ℕ → Refusal → Type 0)
    → old.has_failed ≡ false → FindsIf StoreMayStopRoomy is_known left failures old.source old.count s k result B F → new.source ≡ s → new.count ≡ k → new.version ≡ old.version → new.levels ≡ old.levels → new.has_failed ≡ is_err result
    → ReadsIf StoreMayStop is_known left failures old new result B (GivesError F)
told_reads {is_known = is_known} {left = left} {failures = failures} {s = s} {k = k} old new result B F is_open h source count version levels marks = record {
  closed = λ failed. absurd (both old.has_failed is_open failed);
  finds = λ _. subst (λ z. FindsBy typed_stop StoreMayStop end is_known left failures old.source old.count z new.count result B (GivesError F)) (sym source)
      (subst (λ n. FindsBy typed_stop StoreMayStop end is_known left failures old.source old.count s n result B (GivesError F)) (sym count)
      (record {
        found = λ t. told_found B F result (left old.source) (left s) k h.may_stop (h.found t);
        taken = h.taken;
        stays_known = h.stays_known;
        counts = told_counts result (failures old.source) (failures s) k h.may_stop h.counts;
        count_grows = h.count_grows;
        may_stop = IfErr-weaker result _ _ (λ e may. may.0) h.may_stop;
      }));
  marks_failure = marks;
  same_version = version;
  same_levels = levels;
}

-- the same of a tree, which may be too deep

deep_room : {X : Type 0} (count : ℕ) → StoreMayStopDeep errors.HeapFull count → X
deep_room count (inl roomy) = absurd (roomy.1 refl)
deep_room count (inr same) = absurd (not_deep same)
  where
    not_deep : errors.HeapFull ≡ errors.TooDeep → ⊥
    not_deep same = absurd cc

tree_found : {X : Type 0} (B : List ℕ → X → Type 0) (F : List ℕ → Refusal → Type 0) (result : Result X DeserializeError) (old new : List ℕ) (count : ℕ) → IfErr result (λ e. StoreMayStopDeep e count) → Found tree_stop (corrupted UnexpectedEnd) B F old new count result
    → Found typed_stop end B (GivesError F) old new count result
tree_found B F (Ok x) old new count may h = h
tree_found B F (Err (errors.CorruptedValue TooLong)) old new count may h = (h.0, told_early old new h.1)
tree_found B F (Err (errors.CorruptedValue c)) old new count may h = told_refuses _ _ old new is_corrupted h
tree_found B F (Err (errors.TypeMismatch expected actual)) old new count may h = mismatch_found expected actual old new count h
tree_found B F (Err (errors.Io k)) old new count may h = tt
tree_found B F (Err errors.Memory) old new count may h = tt
tree_found B F (Err errors.TooDeep) old new count may h = tt
tree_found B F (Err errors.HeapFull) old new count may h = deep_room count may
tree_found B F (Err _) old new count may h = absurd h

tree_counts : {X : Type 0} (result : Result X DeserializeError) (old new : Failures) (count : ℕ) → IfErr result (λ e. StoreMayStopDeep e count) → Counts tree_stop result old new → Counts typed_stop result old new
tree_counts (Ok x) old new count may h = h
tree_counts (Err (errors.CorruptedValue TooLong)) old new count may h = h
tree_counts (Err (errors.CorruptedValue c)) old new count may h = h
tree_counts (Err (errors.TypeMismatch expected actual)) old new count may h = mismatch_counts expected actual old new h
tree_counts (Err (errors.Io k)) old new count may h = h
tree_counts (Err errors.Memory) old new count may h = h
tree_counts (Err errors.TooDeep) old new count may h = h
tree_counts (Err errors.HeapFull) old new count may h = deep_room count may
tree_counts (Err _) old new count may h = absurd h

pub tree_reads : {S X : Type 0} {is_known : S → Type 0} {left : S → List ℕ} {failures : S → Failures} (old new : StoreReader S) (result : Result X DeserializeError) (B : List ℕ → X → Type 0) (F : List ℕ → Refusal → Type 0)
    → old.has_failed ≡ false → FindsDeepBy is_known left failures old.source old.count new.source new.count result B F → new.version ≡ old.version → new.levels ≡ old.levels → new.has_failed ≡ is_err result
    → ReadsIf StoreMayStopDeep is_known left failures old new result B (GivesError F)
tree_reads {left = left} {failures = failures} old new result B F is_open h version levels marks = record {
  closed = λ failed. absurd (both old.has_failed is_open failed);
  finds = λ _. record {
    found = λ t. tree_found B F result (left old.source) (left new.source) new.count h.may_stop (h.found t);
    taken = h.taken;
    stays_known = h.stays_known;
    counts = tree_counts result (failures old.source) (failures new.source) new.count h.may_stop h.counts;
    count_grows = h.count_grows;
    may_stop = h.may_stop;
  };
  marks_failure = marks;
  same_version = version;
  same_levels = levels;
}

-- ---- calls that are given no memory

-- what was taken without memory is reported without it
pub raised_spares : {X : Type 0} (answer : Result X ReadError) (result : Result X DeserializeError) (count : ℕ) → result ≡ raised answer → IfErr answer (λ e. MayStopLean e count) → IsErrOf result errors.Memory → ⊥
raised_spares (Ok x) result count told none is = let e = sym told ∙ is in absurd cc
raised_spares (Err (reads.Corrupted c)) result count told none is = let e = sym told ∙ is in absurd cc
raised_spares (Err (reads.Io kind)) result count told none is = let e = sym told ∙ is in absurd cc
raised_spares (Err reads.Memory) result count told none is = none.1 refl

-- the reader was refused before, or the type is another than that which is expected
pub mismatch_spares : {X Kind : Type 0} {has_failed : Bool} {kind expected : Kind} {refusal e : DeserializeError} → refusal ≢ errors.Memory → IsMismatch has_failed kind expected refusal e → IsErrOf {T = X} (Err e) errors.Memory → ⊥
mismatch_spares other (failed_before failed) is = absurd cc
mismatch_spares other (mismatched is_open apart) is = other cc
