-- Legacy objects as lists and maps: a code and the object after it are read, and then the encoding of its tree.
use Rattle.std.proofs.Common.{◌≡◌, ◌≢◌, ℕ, ◌-◌, ◌^◌, ◌<◌, Bool, true, false, List, [], ◌∷◌, ◌++◌, Some, None, Result, Ok, Err, refl, sym, ap, subst, ◌∙◌, length, length-append, arith, inl, inr}
use Rattle.std.specs.Prelude.{OnOk}
use Rattle.std.specs.declared.io.ErrorKind.{ErrorKind}
use Rattle.std.proofs.lemmas.List.{append-nil}
use Rattle.tv_base.specs.declared.cause.Cause.TheVariants.{UnexpectedEnd, TooLong}
use Rattle.tv_base.specs.Source.{Failures}
use Rattle.tv_base.specs.Stop.{Stop, CountsStop, Counts, Taken}
use Rattle.tv_base.specs.Stop.Stop.{InputError, Uncounted, Failed, Short, Never}
use Rattle.tv_base.proofs.TakeSteps.{Taken_none}
use Rattle.tv_reader.specs.Legacy.{Legacy}
use Rattle.tv_reader.proofs.UniqueLegacy.{one_legacy}
use Rattle.tv_format.specs.InputError.{corrupted}
use Rattle.tv_value.specs.Owned.{owned_tree}
use Rattle.tv_format.specs.Short.{short, IsValue}
use Rattle.tv_format.specs.Encoding.{Encodes}
use Rattle.tv_format.specs.Tree.{Tree}
use Rattle.tv_format.specs.Version.{Version, V2}
use Rattle.tv_value.specs.declared.owned_value.OwnedValue.{OwnedValue}
use Rattle.tv_format.proofs.ShortEncodings.{short_encodes}
use Rattle.tv_format.proofs.Trees.{one_tree}
use Rattle.tv_reader.specs.Error.{is_corrupted, StoreMayStop}
use Rattle.tv_reader.specs.Finds.{GivesStop, Found}
use Rattle.tv_reader.specs.Trees.{EncodesBehind}
use Rattle.tv_reader.specs.Version.{version_of}
use Rattle.tv_reader.specs.declared.error.DeserializeError.{DeserializeError}
use Rattle.tv_reader.specs.declared.error.DeserializeError.TheVariants as errors
use Rattle.tv_reader.specs.declared.value_type.ValueType.{ValueType}
use Rattle.tv_reader.specs.declared.value_type.ValueType.TheVariants as types
use Rattle.tv_reader.specs.declared.version.DocStoreVersion.{DocStoreVersion}
use Rattle.tv_reader.specs.declared.version.DocStoreVersion.TheVariants as stores
use Rattle.tv_reader.proofs.Finding.{stop_map}
use Rattle.tv_typed.specs.LegacyObjects.{Retold, as_it_is, past_the_end, EncodingRefused, ToldOf, OfEncoding, LegacyRefused, MembersRefused, in_legacy_object}
use Rattle.tv_typed.specs.Typed.{typed_stop, ReadsIf, DeserializesBy}
use Rattle.tv_typed.specs.Values.{EncodesAs, EncodedAs, TreeRefused, NextRefused}
use Rattle.tv_typed.specs.declared.store_reader.StoreReader.{StoreReader}
use Rattle.tv_typed.proofs.DeserializeSteps.{end, deserializes, goes_then, goes_fails, goes_short}
use Rattle.tv_typed.proofs.TreeTypeSteps.{early_behind}

-- ---- what an encoding gives

-- no read of one fails
abbrev pub no_failures : Failures
no_failures = record { number = 0; last = None }

no_io : (e : DeserializeError) (kind : ErrorKind) → CountsStop (typed_stop e) no_failures no_failures → e ≢ errors.Io kind
no_io e kind h is = let f = subst (λ z. CountsStop (typed_stop z) no_failures no_failures) is h in let last : None ≡ Some kind = f.kept in absurd cc

-- a refusal, retold
of_told : (Q : List ℕ → DeserializeError → Type 0) (e told : DeserializeError) (old new : List ℕ) (count : ℕ) → ((kind : ErrorKind) → e ≢ errors.Io kind) → Retold e told → count < 2 ^ 64 - 1 → GivesStop end Q old new count (typed_stop e) → ToldOf Q old (typed_stop told)
of_told Q (errors.CorruptedValue TooLong) _ old new count calm (as_it_is other) few h = absurd (omega (arith, few, h.0))
of_told Q (errors.CorruptedValue c) _ old new count calm (as_it_is other) few h = (errors.CorruptedValue c, h.stands, as_it_is other)
of_told Q (errors.TypeMismatch expected actual) _ old new count calm (as_it_is other) few h = (errors.TypeMismatch expected actual, h.stands, as_it_is other)
of_told Q (errors.UnsupportedType t) _ old new count calm (as_it_is other) few h = (errors.UnsupportedType t, h.stands, as_it_is other)
of_told Q (errors.Custom s) _ old new count calm (as_it_is other) few h = (errors.Custom s, h.stands, as_it_is other)
of_told Q (errors.Io k) _ old new count calm (as_it_is other) few h = absurd (calm k refl)
of_told Q errors.Memory _ old new count calm (as_it_is other) few h = tt
of_told Q errors.TooDeep _ old new count calm (as_it_is other) few h = tt
of_told Q errors.HeapFull _ old new count calm (as_it_is other) few h = h
of_told Q (errors.UnsupportedVersion m n) _ old new count calm (as_it_is other) few h = h
of_told Q errors.AlreadyFailed _ old new count calm (as_it_is other) few h = h
of_told Q e _ old new count calm (past_the_end same) few h =
    let at_end : GivesStop end Q old new count (typed_stop end) = subst (λ z. GivesStop end Q old new count (typed_stop z)) same h in
    (end, at_end.stands, past_the_end refl)

pub encoding_refused : {X : Type 0} (Made : Version → List ℕ → X → Type 0) (Q : Version → List ℕ → DeserializeError → Type 0) (version : DocStoreVersion) (e told : DeserializeError) (content old new : List ℕ) (count : ℕ) → version ≡ stores.V2 → old ≡ content → Retold e told → count < 2 ^ 64 - 1 → CountsStop (typed_stop e) no_failures no_failures
    → Found {X = X} typed_stop end (Made (version_of version)) (Q (version_of version)) old new count (Err e) → OfEncoding {X = X} (Made V2) (Q V2) content (Err told)
encoding_refused Made Q version e told content old new count second same retold few counted h =
    subst (λ (l : List ℕ). ToldOf (Q V2) l (typed_stop told)) same
    (of_told (Q V2) e told old new count (λ kind. no_io e kind counted) retold few (subst (λ z. GivesStop end (Q (version_of z)) old new count (typed_stop e)) second h))

-- fewer bytes are taken than are counted
pub few_taken : (old new : List ℕ) (count now : ℕ) → Taken old new count now → count ≡ 0 → length old < 2 ^ 63 → now < 2 ^ 64 - 1
few_taken old new count now t none small = omega (arith, t.counted, none, ap length t.joined, length-append t.prefix new, small)

-- ---- the object, and then its encoding

not_end : (e told : DeserializeError) → Retold e told → told ≢ end
not_end e _ (as_it_is other) same = other same
not_end e _ (past_the_end at_end) same = absurd cc

no_last : (start : List ℕ) (byte : ℕ) → [] ≢ start ++ byte ∷ []
no_last [] byte e = absurd cc
no_last (n ∷ start) byte e = absurd cc

-- nothing more is taken
stop_here : (Q : List ℕ → DeserializeError → Type 0) (t : Tree) (content left : List ℕ) (count : ℕ) (s : Stop DeserializeError) → content ≡ short V2 t → ToldOf Q content s → GivesStop end (λ w told. EncodingRefused Q t told) left left count s
stop_here Q t content left count (InputError told) same h =
    let refused : EncodingRefused Q t told = (h.0, subst (λ (l : List ℕ). Q l h.0) same h.1, h.2) in
    record {
      stands = refused;
      shows = record { taken = []; joined = refl; shown = refused; all = λ at_end. absurd (not_end h.0 told h.2 at_end); early = λ other start byte last. absurd (no_last start byte last) };
    }
stop_here Q t content left count (Uncounted e) same h = absurd h
stop_here Q t content left count (Failed kind) same h = absurd h
stop_here Q t content left count Short same h = tt
stop_here Q t content left count Never same h = h

-- the value is of the object's own tree
of_tree : {X : Type 0} (is : Tree → X → Type 0) (t : Tree) (x : X) (content rest prefix : List ℕ) → content ≡ short V2 t → IsValue t → content ≡ prefix ++ rest → EncodesAs is V2 prefix x → is t x
of_tree is t x content rest prefix same valid joined s =
    let whole : short V2 t ++ [] ≡ prefix ++ rest = append-nil (short V2 t) ∙ sym same ∙ joined in
    let one = one_tree Legacy V2 one_legacy (short V2 t) prefix [] rest t s.0 (short_encodes Legacy V2 tt t valid) s.1 whole in
    subst (λ z. is z x) (sym one.1) s.2

found_here : {X : Type 0} (is : Tree → X → Type 0) (Q : List ℕ → DeserializeError → Type 0) (t : Tree) (content left : List ℕ) (count : ℕ) (result : Result X DeserializeError) → content ≡ short V2 t → IsValue t → OfEncoding (EncodesAs is V2) Q content result
    → Found typed_stop end (λ b x. (b ≡ []) × is t x) (λ w told. EncodingRefused Q t told) left left count result
found_here is Q t content left count (Ok x) same valid h = record { prefix = []; joined = refl; encoded = (refl, of_tree is t x content h.0 h.1.prefix same valid h.1.joined h.1.encoded) }
found_here is Q t content left count (Err told) same valid h = stop_here Q t content left count (typed_stop told) same h

-- no read fails
stop_counts : (Q : List ℕ → DeserializeError → Type 0) (content : List ℕ) (s : Stop DeserializeError) (f : Failures) → ToldOf Q content s → CountsStop s f f
stop_counts Q content (InputError told) f h = refl
stop_counts Q content (Uncounted e) f h = absurd h
stop_counts Q content (Failed kind) f h = absurd h
stop_counts Q content Short f h = refl
stop_counts Q content Never f h = absurd h

pub counts_here : {X : Type 0} (Made : List ℕ → X → Type 0) (Q : List ℕ → DeserializeError → Type 0) (content : List ℕ) (result : Result X DeserializeError) (f : Failures) → OfEncoding Made Q content result → Counts typed_stop result f f
counts_here Made Q content (Ok x) f h = refl
counts_here Made Q content (Err told) f h = stop_counts Q content (typed_stop told) f h

both : false ≡ true → ⊥
both e = absurd cc

-- what is read of another source, or returned by a visitor, changes no mark
pub unmarked_still : {X : Type 0} (result : Result X DeserializeError) (b : Bool) → b ≡ false → OnOk result (b ≡ false)
unmarked_still (Ok x) b e = e
unmarked_still (Err e) b h = tt

pub legacy_then : {S X : Type 0} {is_known : S → Type 0} {left : S → List ℕ} {failures : S → Failures} {old new : StoreReader S} {tree : OwnedValue} {content : List ℕ} {result : Result X DeserializeError} (is : Tree → X → Type 0) (refused : Version → ValueType → List ℕ → DeserializeError → Type 0) (v : Version)
    → ReadsIf StoreMayStop is_known left failures old new (Ok tree) (EncodesBehind v types.JSONObject) (TreeRefused v types.JSONObject) → content ≡ short V2 (owned_tree tree) → IsValue (owned_tree tree) → OfEncoding (EncodesAs is V2) (NextRefused refused V2) content result
    → DeserializesBy is_known left failures old new result (EncodedAs is v types.JSONObject) (LegacyRefused refused v)
legacy_then {is_known = is_known} {left = left} {failures = failures} {new = new} {tree = tree} {content = content} {result = result} is refused v p same valid h =
    let t = owned_tree tree in
    goes_then {A = λ b x. (b ≡ []) × is t x} {P = λ w told. EncodingRefused (NextRefused refused V2) t told} (EncodedAs is v types.JSONObject) (LegacyRefused refused v)
    (λ a b x r s. (t, subst (λ (l : List ℕ). Encodes Legacy v (8 ∷ l) t) (sym (ap (λ (l : List ℕ). a ++ l) s.0 ∙ append-nil a)) r, s.1))
    (λ a w c r f. inr (t, record { prefix = a; rest = w; joined = refl; first = r; second = f }))
    (λ a f r _ _ start byte last. inl (record { refusal = corrupted UnexpectedEnd; told = is_corrupted; error = early_behind v types.JSONObject t a start byte r last }))
    (deserializes (λ b x. Encodes Legacy v (8 ∷ b) (owned_tree x)) (λ b x q. q) p)
    (record {
      closed = λ failed. absurd (both (sym p.marks_failure ∙ failed));
      unmarked = unmarked_still result new.has_failed p.marks_failure;
      found = λ _ told. found_here is (NextRefused refused V2) t content (left new.source) new.count result same valid h;
      taken = λ _ told. Taken_none (left new.source) new.count;
      stays_known = λ _ told. told;
      counts = λ _. counts_here (EncodesAs is V2) (NextRefused refused V2) content result (failures new.source) h;
      same_version = refl;
      same_levels = refl;
    })

pub legacy_fails : {S X : Type 0} {is_known : S → Type 0} {left : S → List ℕ} {failures : S → Failures} {old new : StoreReader S} {e : DeserializeError} (is : Tree → X → Type 0) (refused : Version → ValueType → List ℕ → DeserializeError → Type 0) (v : Version)
    → ReadsIf {X = OwnedValue} StoreMayStop is_known left failures old new (Err e) (EncodesBehind v types.JSONObject) (TreeRefused v types.JSONObject) → DeserializesBy {X = X} is_known left failures old new (Err e) (EncodedAs is v types.JSONObject) (LegacyRefused refused v)
legacy_fails is refused v p = goes_fails (EncodedAs is v types.JSONObject) (LegacyRefused refused v) (λ w c f. inl f) (deserializes (EncodesBehind v types.JSONObject) (λ b x q. q) p)

pub legacy_short : {S X : Type 0} {is_known : S → Type 0} {left : S → List ℕ} {failures : S → Failures} {old new : StoreReader S} {tree : OwnedValue} (is : Tree → X → Type 0) (refused : Version → ValueType → List ℕ → DeserializeError → Type 0) (v : Version)
    → ReadsIf StoreMayStop is_known left failures old new (Ok tree) (EncodesBehind v types.JSONObject) (TreeRefused v types.JSONObject) → DeserializesBy {X = X} is_known left failures old new (Err errors.Memory) (EncodedAs is v types.JSONObject) (LegacyRefused refused v)
legacy_short is refused v p = goes_short (EncodedAs is v types.JSONObject) (LegacyRefused refused v) (deserializes (EncodesBehind v types.JSONObject) (λ b x q. q) p)

-- ---- legacy objects among others

found_more : {X : Type 0} (A : List ℕ → X → Type 0) (P Q : List ℕ → DeserializeError → Type 0) (result : Result X DeserializeError) (old new : List ℕ) (count : ℕ) → ((w : List ℕ) (c : DeserializeError) → P w c → Q w c) → Found typed_stop end A P old new count result → Found typed_stop end A Q old new count result
found_more A P Q (Ok x) old new count map h = h
found_more A P Q (Err e) old new count map h = stop_map end P Q (typed_stop e) old new count map h

pub goes_more : {S X : Type 0} {is_known : S → Type 0} {left : S → List ℕ} {failures : S → Failures} {old new : StoreReader S} {result : Result X DeserializeError} {A : List ℕ → X → Type 0} {P : List ℕ → DeserializeError → Type 0} (Q : List ℕ → DeserializeError → Type 0)
    → ((w : List ℕ) (c : DeserializeError) → P w c → Q w c) → DeserializesBy is_known left failures old new result A P → DeserializesBy is_known left failures old new result A Q
goes_more {left = left} {old = old} {new = new} {result = result} {A = A} {P = P} Q map p = record {
  closed = p.closed;
  unmarked = p.unmarked;
  found = λ is_open t. found_more A P Q result (left old.source) (left new.source) new.count map (p.found is_open t);
  taken = p.taken;
  stays_known = p.stays_known;
  counts = p.counts;
  same_version = p.same_version;
  same_levels = p.same_levels;
}

pub legacy_among : {S X : Type 0} {is_known : S → Type 0} {left : S → List ℕ} {failures : S → Failures} {old new : StoreReader S} {result : Result X DeserializeError} (is : Tree → X → Type 0) (refused : Version → ValueType → List ℕ → DeserializeError → Type 0) (v : Version) (kind : ValueType) → kind ≡ types.JSONObject
    → DeserializesBy is_known left failures old new result (EncodedAs is v types.JSONObject) (LegacyRefused refused v) → DeserializesBy is_known left failures old new result (EncodedAs is v kind) (MembersRefused refused v kind)
legacy_among {is_known = is_known} {left = left} {failures = failures} {old = old} {new = new} {result = result} is refused v kind same p =
    goes_more (MembersRefused refused v kind) (λ w c f. in_legacy_object same f) (subst (λ k. DeserializesBy is_known left failures old new result (EncodedAs is v k) (LegacyRefused refused v)) (sym same) p)
