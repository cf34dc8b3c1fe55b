-- The number of an array's or an object's values, and the entries of an object.
use Rattle.std.proofs.Common.{◌≡◌, ℕ, true, false, List, [], ◌∷◌, ◌++◌, String, string_bytes, Result, Ok, Err, refl, sym, ap, subst, ◌∙◌, append_assoc, inl, inr}
use Rattle.std.specs.Prelude.{is_err}
use Rattle.std.specs.declared.alloc.Global.{Global}
use Rattle.tv_base.specs.declared.cause.Cause.{Cause}
use Rattle.tv_base.specs.declared.cause.Cause.TheVariants.{UnexpectedEnd}
use Rattle.tv_base.specs.declared.cause.ReadError.{ReadError}
use Rattle.tv_base.specs.Reading.{vint_at}
use Rattle.tv_base.specs.Source.{AllBytes, Failures}
use Rattle.tv_base.specs.Take.{TakesIf, MayStop}
use Rattle.tv_base.proofs.Agrees.{no_last}
use Rattle.tv_base.proofs.AgreeNumbers.{vint_agrees}
use Rattle.tv_format.specs.InputError.{Refusal, corrupted, ErrorInKey}
use Rattle.tv_format.specs.Encoding.{Key}
use Rattle.tv_format.specs.Tree.{Tree}
use Rattle.tv_format.specs.Version.{Version, entry_total}
use Rattle.tv_reader.specs.Counts.{entry_count_at}
use Rattle.tv_reader.specs.Error.{IsRefusal, is_corrupted, is_no_text, StoreMayStopRoomy, StoreMayStop}
use Rattle.tv_reader.specs.Finds.{FindsIf}
use Rattle.tv_reader.specs.Trees.{ErrorInEntryCount, in_count_number, odd_count_number}
use Rattle.tv_reader.specs.ValueType.{type_prefix, ErrorInCode, no_code, unknown_type, float_type, no_extension_code, unknown_extension}
use Rattle.tv_reader.specs.Version.{version_of}
use Rattle.tv_reader.specs.declared.error.DeserializeError.{DeserializeError}
use Rattle.tv_reader.specs.declared.error.DeserializeError.TheVariants as errors
use Rattle.tv_reader.specs.declared.value_type.ValueType.{ValueType}
use Rattle.tv_reader.specs.declared.value_type.ValueType.TheVariants as types
use Rattle.tv_reader.specs.declared.version.DocStoreVersion.{DocStoreVersion}
use Rattle.tv_reader.proofs.AgreeKinds.{same_coded}
use Rattle.tv_reader.proofs.TreeSteps.{entry_count_agrees, key_error_ended, no_rest}
use Rattle.tv_typed.specs.Typed.{raised, IsMismatch, ReadsIf, DeserializesBy}
use Rattle.tv_typed.specs.Values.{EncodesAs, in_code, NextRefused}
use Rattle.tv_typed.specs.Lists.{Length, element_total, EncodesEntry, LengthRefused, other_collection, in_length, no_total, KeyRefused, EntryRefused}
use Rattle.tv_typed.specs.declared.store_reader.StoreReader.{StoreReader}
use Rattle.tv_typed.proofs.DeserializeSteps.{end, deserializes, goes_then, goes_as, goes_fails}
use Rattle.tv_typed.proofs.TypedSteps.{reads_mismatch, reads_then, told_reads}

-- ---- the number

-- the reader was refused before, or a value of another type stands there
pub length_mismatch : {S X : Type 0} (is_known : S → Type 0) (left : S → List ℕ) (failures : S → Failures) (old new : StoreReader S) (kind collection : ValueType) (total : ℕ → ℕ) (e : DeserializeError) (B : List ℕ → X → Type 0)
    → IsMismatch old.has_failed kind collection (errors.UnsupportedType kind) e → new.source ≡ old.source → new.count ≡ old.count → new.version ≡ old.version → new.levels ≡ old.levels → new.has_failed ≡ true → ReadsIf StoreMayStop is_known left failures old new (Err e) B (LengthRefused collection total kind)
length_mismatch is_known left failures old new kind collection total e B h source count version levels marks =
    reads_mismatch is_known left failures old new kind collection (errors.UnsupportedType kind) e B (LengthRefused collection total kind) refl tt (λ same. cc) (λ other w. other_collection other) h source count version levels marks

pub elements_read : {S : Type 0} {is_known : S → Type 0} {left : S → List ℕ} {failures : S → Failures} {s : S} {k : ℕ} {answer : Result ℕ ReadError} (old mid new : StoreReader S) (result : Result ℕ DeserializeError) (kind : ValueType)
    → ((source : S) → is_known source → AllBytes (left source)) → kind ≡ types.Array → old.has_failed ≡ false → mid.source ≡ old.source → mid.count ≡ old.count → mid.version ≡ old.version → mid.levels ≡ old.levels
    → TakesIf MayStop is_known left failures mid.source mid.count s k (λ x. x) answer vint_at → new.source ≡ s → new.count ≡ k → new.version ≡ mid.version → new.levels ≡ mid.levels → new.has_failed ≡ is_err result → result ≡ raised answer
    → ReadsIf StoreMayStop is_known left failures old new result (Length types.Array element_total kind) (LengthRefused types.Array element_total kind)
elements_read old mid new result kind are_bytes is is_open source count version levels part source_new count_new version_new levels_new marks told =
    reads_then old mid new result (Length types.Array element_total kind) (LengthRefused types.Array element_total kind) are_bytes vint_agrees (λ a x h. (is, h)) (λ w c f. in_length is f)
    is_open source count version levels part source_new count_new version_new levels_new marks told

count_refused : (v : Version) (kind : ValueType) (w : List ℕ) (c : Cause) → kind ≡ types.Object → ErrorInEntryCount v w c → LengthRefused types.Object (entry_total v) kind w (errors.CorruptedValue c)
count_refused v kind w c is (in_count_number f) = in_length is f
count_refused v kind w _ is (odd_count_number n prefix rest joined number none) = no_total n prefix rest is joined number none

pub entries_read : {S : Type 0} {is_known : S → Type 0} {left : S → List ℕ} {failures : S → Failures} {s : S} {k : ℕ} {answer : Result ℕ ReadError} (old mid new : StoreReader S) (result : Result ℕ DeserializeError) (kind : ValueType)
    → ((source : S) → is_known source → AllBytes (left source)) → kind ≡ types.Object → old.has_failed ≡ false → mid.source ≡ old.source → mid.count ≡ old.count → mid.version ≡ old.version → mid.levels ≡ old.levels
    → TakesIf MayStop is_known left failures mid.source mid.count s k (λ x. x) answer (entry_count_at (version_of mid.version)) → new.source ≡ s → new.count ≡ k → new.version ≡ mid.version → new.levels ≡ mid.levels → new.has_failed ≡ is_err result → result ≡ raised answer
    → ReadsIf StoreMayStop is_known left failures old new result (Length types.Object (entry_total (version_of old.version)) kind) (LengthRefused types.Object (entry_total (version_of old.version)) kind)
entries_read {is_known = is_known} {left = left} {failures = failures} {s = s} {k = k} {answer = answer} old mid new result kind are_bytes is is_open source count version levels part source_new count_new version_new levels_new marks told =
    let v = version_of old.version in
    reads_then old mid new result (Length types.Object (entry_total v) kind) (LengthRefused types.Object (entry_total v) kind) are_bytes (entry_count_agrees v)
    (λ a x h. (is, h)) (λ w c f. count_refused v kind w c is f)
    is_open source count version levels (subst (λ z. TakesIf MayStop is_known left failures mid.source mid.count s k (λ x. x) answer (entry_count_at (version_of z))) version part) source_new count_new version_new levels_new marks told

-- ---- keys

pub key_reads : {S : Type 0} {is_known : S → Type 0} {left : S → List ℕ} {failures : S → Failures} {s : S} {k : ℕ} (old new : StoreReader S) (result : Result (String Global) DeserializeError)
    → old.has_failed ≡ false → FindsIf StoreMayStopRoomy is_known left failures old.source old.count s k result (λ b key. Key (version_of old.version) b (string_bytes key)) (ErrorInKey (version_of old.version)) → new.source ≡ s → new.count ≡ k → new.version ≡ old.version → new.levels ≡ old.levels → new.has_failed ≡ is_err result
    → ReadsIf StoreMayStop is_known left failures old new result (λ b key. Key (version_of old.version) b (string_bytes key)) (KeyRefused (version_of old.version))
key_reads old new result is_open h source count version levels marks =
    told_reads old new result (λ b key. Key (version_of old.version) b (string_bytes key)) (ErrorInKey (version_of old.version)) is_open h source count version levels marks

-- ---- no bytes

no_cons : {b : ℕ} {rest : List ℕ} → b ∷ rest ≡ [] → ⊥
no_cons e = absurd cc

code_ended : {w : List ℕ} {c : Cause} → w ≡ [] → ErrorInCode w c → c ≡ UnexpectedEnd
code_ended e no_code = refl
code_ended e (unknown_type h) = absurd (no_cons e)
code_ended e float_type = absurd (no_cons e)
code_ended e no_extension_code = absurd (no_cons e)
code_ended e (unknown_extension h) = absurd (no_cons e)

coded_some : (kind : ValueType) (b : List ℕ) → [] ≡ type_prefix kind ++ b → ⊥
coded_some kind b e = no_last b 1 (sym (same_coded kind types.U64 (b ++ 1 ∷ []) [] (sym (append_assoc (type_prefix kind) b (1 ∷ [])) ∙ ap (λ l. l ++ 1 ∷ []) (sym e))).1)

-- where there are no bytes, their end is the refusal
pub next_ended : (refused : Version → ValueType → List ℕ → DeserializeError → Type 0) (v : Version) (e : DeserializeError) → NextRefused refused v [] e → e ≡ end
next_ended refused v _ (inl (in_code f)) = ap (λ c. errors.CorruptedValue c) (code_ended refl f)
next_ended refused v e (inr p) = absurd (coded_some p.0 p.1.rest (p.1.joined ∙ ap (λ l. l ++ p.1.rest) p.1.first))

-- ---- entries

-- what a call promises in the version that the reader had before
pub at_version : {S X : Type 0} {is_known : S → Type 0} {left : S → List ℕ} {failures : S → Failures} {mid new : StoreReader S} {result : Result X DeserializeError} (Item : Version → List ℕ → X → Type 0) (Refused : Version → List ℕ → DeserializeError → Type 0) (version : DocStoreVersion) → mid.version ≡ version
    → DeserializesBy is_known left failures mid new result (Item (version_of mid.version)) (Refused (version_of mid.version)) → DeserializesBy is_known left failures mid new result (Item (version_of version)) (Refused (version_of version))
at_version {is_known = is_known} {left = left} {failures = failures} {mid = mid} {new = new} {result = result} Item Refused version same h = subst (λ z. DeserializesBy is_known left failures mid new result (Item (version_of z)) (Refused (version_of z))) same h

pub entry_found : {S X : Type 0} {is_known : S → Type 0} {left : S → List ℕ} {failures : S → Failures} {old mid new : StoreReader S} {key : String Global} {value : X} (is : Tree → X → Type 0) (refused : Version → ValueType → List ℕ → DeserializeError → Type 0)
    → ReadsIf StoreMayStop is_known left failures old mid (Ok key) (λ b key. Key (version_of old.version) b (string_bytes key)) (KeyRefused (version_of old.version)) → DeserializesBy is_known left failures mid new (Ok value) (EncodesAs is (version_of mid.version)) (NextRefused refused (version_of mid.version))
    → DeserializesBy is_known left failures old new (Ok (key, value)) (EncodesEntry is (version_of old.version)) (EntryRefused refused (version_of old.version))
entry_found {old = old} {key = key} {value = value} is refused p h =
    let v = version_of old.version in
    goes_as (key, value) (EncodesEntry is v) (EntryRefused refused v) (λ a s. s)
    (goes_then (λ b x. EncodesEntry is v b (key, x)) (λ w r. Unit {0}) (λ a b x r s. record { prefix = a; rest = b; joined = refl; first = r; second = s }) (λ a w c r f. tt) (λ a f r _ _ start byte last. tt)
    (deserializes (λ b key. Key v b (string_bytes key)) (λ b x q. q) p) (at_version (EncodesAs is) (NextRefused refused) old.version p.same_version h))

pub entry_key_fails : {S X : Type 0} {is_known : S → Type 0} {left : S → List ℕ} {failures : S → Failures} {old new : StoreReader S} {e : DeserializeError} (is : Tree → X → Type 0) (refused : Version → ValueType → List ℕ → DeserializeError → Type 0)
    → ReadsIf {X = String Global} StoreMayStop is_known left failures old new (Err e) (λ b key. Key (version_of old.version) b (string_bytes key)) (KeyRefused (version_of old.version))
    → DeserializesBy {X = String Global × X} is_known left failures old new (Err e) (EncodesEntry is (version_of old.version)) (EntryRefused refused (version_of old.version))
entry_key_fails {old = old} is refused p =
    let v = version_of old.version in
    goes_fails (EncodesEntry is v) (EntryRefused refused v) (λ w c f. inl f) (deserializes (λ b key. Key v b (string_bytes key)) (λ b x q. q) p)

pub entry_value_fails : {S X : Type 0} {is_known : S → Type 0} {left : S → List ℕ} {failures : S → Failures} {old mid new : StoreReader S} {key : String Global} {e : DeserializeError} (is : Tree → X → Type 0) (refused : Version → ValueType → List ℕ → DeserializeError → Type 0)
    → ReadsIf StoreMayStop is_known left failures old mid (Ok key) (λ b key. Key (version_of old.version) b (string_bytes key)) (KeyRefused (version_of old.version)) → DeserializesBy {X = X} is_known left failures mid new (Err e) (EncodesAs is (version_of mid.version)) (NextRefused refused (version_of mid.version))
    → DeserializesBy {X = String Global × X} is_known left failures old new (Err e) (EncodesEntry is (version_of old.version)) (EntryRefused refused (version_of old.version))
entry_value_fails {old = old} {key = key} is refused p h =
    let v = version_of old.version in
    goes_then (EncodesEntry is v) (EntryRefused refused v) (λ a b x r s. absurd s)
    (λ a w c r f. inr (string_bytes key, record { prefix = a; rest = w; joined = refl; first = r; second = f }))
    (λ a f r other nothing start byte last. absurd (other (next_ended refused v f nothing)))
    (deserializes (λ b key. Key v b (string_bytes key)) (λ b x q. q) p) (goes_fails (λ b z. ⊥) (NextRefused refused v) (λ w c f. f) (at_version (EncodesAs is) (NextRefused refused) old.version p.same_version h))

told_ended : (e : DeserializeError) (r : Refusal) → IsRefusal e r → r ≡ corrupted UnexpectedEnd → e ≡ end
told_ended _ _ is_corrupted is = cc
told_ended _ _ is_no_text is = cc

pub entry_ended : (refused : Version → ValueType → List ℕ → DeserializeError → Type 0) (version : DocStoreVersion) (e : DeserializeError) → EntryRefused refused (version_of version) [] e → e ≡ end
entry_ended refused version e (inl f) = told_ended e f.refusal f.told (key_error_ended (version_of version) [] f.refusal refl f.error)
entry_ended refused version e (inr f) = next_ended refused (version_of version) e (subst (λ w. NextRefused refused (version_of version) w e) (no_rest f.1.prefix f.1.rest f.1.joined) f.1.second)
