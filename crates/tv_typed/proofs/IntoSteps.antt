-- Pairs that are read into a heap, by their parts.
use Rattle.std.proofs.Common.{◌≡◌, ℕ, Bool, false, true, List, [], ◌∷◌, ◌++◌, Result, Ok, Err, refl, sym, ap, subst, ◌∙◌, append_assoc}
use Rattle.std.specs.Prelude.{is_err, IfErr, IfOk, IsErrOf}
use Rattle.tv_base.specs.declared.cause.Cause.TheVariants.{TooLong}
use Rattle.tv_base.specs.Number.{Fixed}
use Rattle.tv_base.specs.Source.{Failures}
use Rattle.tv_base.specs.Stop.{CountsStop}
use Rattle.tv_builder.specs.HeldPairs.{document_of}
use Rattle.tv_builder.specs.declared.heap_pairs.HeapPairs.{HeapPairs}
use Rattle.tv_format.specs.Encoding.{EncodesPair}
use Rattle.tv_format.specs.Tree.{Document}
use Rattle.tv_format.specs.Version.{Version}
use Rattle.tv_reader.specs.Legacy.{Legacy}
use Rattle.tv_reader.specs.Error.{StoreMayStop, store_stop}
use Rattle.tv_reader.specs.Finds.{FindsIf}
use Rattle.tv_reader.specs.Version.{version_of}
use Rattle.tv_reader.specs.declared.error.DeserializeError.{DeserializeError}
use Rattle.tv_reader.specs.declared.error.DeserializeError.TheVariants as errors
use Rattle.tv_reading.specs.PairValue.{CanStand, FindsValue, FindsNoValue, ValueHasNoRoom}
use Rattle.tv_typed.specs.Documents.{FieldEnds, GivesAll, GivesIntoBy, GivesPair, RefusesIntoBy, in_field, in_value, WereGiven}
use Rattle.tv_typed.specs.Typed.{ReadsIf, document_stop}
use Rattle.tv_typed.specs.declared.store_reader.StoreReader.{StoreReader}
use Rattle.tv_typed.proofs.TypedSteps.{mismatch_counts, reads_closed}

-- ---- pairs that a reader gave

-- The version stays. `reader` is the reader of what gives them.
same_versions : {S D : Type 0} (left : S → List ℕ) (reader : D → StoreReader S) (pairs : Document) (first last : D) → GivesAll (λ old pair new. GivesPair left (reader old) pair (reader new)) first pairs last → (reader last).version ≡ (reader first).version
same_versions left reader [] first last h = ap (λ d. (reader d).version) h
same_versions left reader (pair ∷ pairs) first last h = same_versions left reader pairs h.0 last h.2 ∙ h.1.same_version

stand : {S D : Type 0} (left : S → List ℕ) (reader : D → StoreReader S) (pairs : Document) (first last : D) (v : Version) → version_of (reader first).version ≡ v → GivesAll (λ old pair new. GivesPair left (reader old) pair (reader new)) first pairs last → CanStand v pairs
stand left reader [] first last v is h = ([], refl)
stand left reader (pair ∷ pairs) first last v is h =
    let others = stand left reader pairs h.0 last v (ap version_of h.1.same_version ∙ is) h.2 in
    let b = h.1.encodes in
    (b.prefix ++ others.0, record { prefix = b.prefix; rest = others.0; joined = refl; first = subst (λ w. EncodesPair Legacy w b.prefix pair) is b.encoded; second = others.1 })

-- they can stand before others
pub given_stand : {S D : Type 0} (left : S → List ℕ) (reader : D → StoreReader S) (pairs : Document) (last : D) → WereGiven (λ old pair new. GivesPair left (reader old) pair (reader new)) pairs last → CanStand (version_of (reader last).version) pairs
given_stand left reader pairs last h = stand left reader pairs h.0 last (version_of (reader last).version) (ap version_of (sym (same_versions left reader pairs h.0 last h.1))) h.1

-- ---- the next pair

-- something was read, so that nothing was refused before
pub was_open : {X : Type 0} (has_failed : Bool) (x : X) → (has_failed ≡ true → IsErrOf {T = X} (Ok x) errors.AlreadyFailed) → has_failed ≡ false
was_open false x closed = refl
was_open true x closed = let e = closed refl in absurd cc

pair_into : {S : Type 0} {is_known : S → Type 0} {left : S → List ℕ} {failures : S → Failures} {old mid new : StoreReader S} {field : ℕ} (before : Document) (made : HeapPairs) → old.has_failed ≡ false → new.has_failed ≡ false → new.version ≡ mid.version → new.levels ≡ mid.levels
    → ReadsIf StoreMayStop is_known left failures old mid (Ok field) (Fixed 4) FieldEnds
    → FindsIf StoreMayStop is_known left failures mid.source mid.count new.source new.count (Ok made) (FindsValue (version_of mid.version) before field) (FindsNoValue (version_of mid.version) before)
    → GivesIntoBy is_known left old new before (document_of made)
pair_into {left = left} {old = old} {mid = mid} {new = new} {field = field} before made is_open stays version levels p h told can =
    let f = p.finds is_open in
    let known = f.stays_known told in
    let b = f.found told in
    let v = h.found known in
    let a = v.encoded (subst (λ w. CanStand (version_of w) before) (sym p.same_version) can) in (
      h.stays_known known,
      (
        (field, a.tree),
        record {
          was_open = is_open;
          is_open = stays;
          same_version = version ∙ p.same_version;
          same_levels = levels ∙ p.same_levels;
          encodes = record {
            prefix = b.prefix ++ v.prefix;
            joined = b.joined ∙ ap (λ (l : List ℕ). b.prefix ++ l) v.joined ∙ sym (append_assoc b.prefix v.prefix (left new.source));
            encoded = subst (λ w. EncodesPair Legacy (version_of w) (b.prefix ++ v.prefix) (field, a.tree)) p.same_version
                (record { prefix = b.prefix; rest = v.prefix; joined = refl; first = b.encoded; second = a.encoded });
          };
        },
        a.document,
      ),
    )

pub pair_made : {S : Type 0} {is_known : S → Type 0} {left : S → List ℕ} {failures : S → Failures} {old mid new : StoreReader S} {field : ℕ} (before : Document) (result : Result HeapPairs DeserializeError) → new.has_failed ≡ is_err result → new.version ≡ mid.version → new.levels ≡ mid.levels
    → ReadsIf StoreMayStop is_known left failures old mid (Ok field) (Fixed 4) FieldEnds
    → FindsIf StoreMayStop is_known left failures mid.source mid.count new.source new.count result (FindsValue (version_of mid.version) before field) (FindsNoValue (version_of mid.version) before)
    → IfOk result (λ made. GivesIntoBy is_known left old new before (document_of made))
pair_made {old = old} {field = field} before (Ok made) stays version levels p h = pair_into before made (was_open old.has_failed field (λ failed. (p.closed failed).0)) stays version levels p h
pair_made before (Err e) stays version levels p h = tt

pub pair_refused_into : {S : Type 0} {is_known : S → Type 0} {left : S → List ℕ} {failures : S → Failures} {old mid : StoreReader S} {end : S} {field count : ℕ} (before : Document) (result : Result HeapPairs DeserializeError)
    → ReadsIf StoreMayStop is_known left failures old mid (Ok field) (Fixed 4) FieldEnds
    → FindsIf StoreMayStop is_known left failures mid.source mid.count end count result (FindsValue (version_of mid.version) before field) (FindsNoValue (version_of mid.version) before)
    → (is_known mid.source → IsErrOf result errors.HeapFull → CanStand (version_of mid.version) before → ValueHasNoRoom (version_of mid.version) before (left mid.source))
    → IfErr result (RefusesIntoBy is_known left failures old before)
pair_refused_into before (Ok made) p h none = tt
pair_refused_into {is_known = is_known} {left = left} {failures = failures} {mid = mid} {end = end} {field = field} {count = count} before (Err e) p h none =
    in_value field mid end count p
    (subst (λ w. FindsIf {X = HeapPairs} StoreMayStop is_known left failures mid.source mid.count end count (Err e) (FindsValue (version_of w) before field) (FindsNoValue (version_of w) before)) p.same_version h)
    (λ told same. subst (λ w. CanStand (version_of w) before → ValueHasNoRoom (version_of w) before (left mid.source)) p.same_version (none told (ap (λ (d : DeserializeError). Err d) same)))

-- a read was refused before
pub closed_into : {S : Type 0} (is_known : S → Type 0) (left : S → List ℕ) (failures : S → Failures) (old : StoreReader S) (before : Document) → old.has_failed ≡ true → RefusesIntoBy is_known left failures old before errors.AlreadyFailed
closed_into is_known left failures old before failed = in_field old (reads_closed is_known left failures old old errors.AlreadyFailed (Fixed 4) FieldEnds refl failed refl refl refl refl failed)

-- ---- failures

-- a refusal of a value is one of its document
pub value_counts : (e : DeserializeError) (old new : Failures) → CountsStop (store_stop e) old new → CountsStop (document_stop e) old new
value_counts (errors.CorruptedValue TooLong) old new h = h
value_counts (errors.CorruptedValue c) old new h = h
value_counts (errors.TypeMismatch expected actual) old new h = mismatch_counts expected actual old new h
value_counts (errors.UnsupportedType t) old new h = absurd h
value_counts (errors.Custom s) old new h = absurd h
value_counts (errors.Io k) old new h = h
value_counts errors.Memory old new h = h
value_counts errors.HeapFull old new h = h
value_counts (errors.UnsupportedVersion m n) old new h = absurd h
value_counts errors.AlreadyFailed old new h = absurd h
value_counts errors.TooDeep old new h = absurd h
