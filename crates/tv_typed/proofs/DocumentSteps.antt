-- Pairs of a document by their parts.
use Rattle.std.proofs.Common.{◌≡◌, ℕ, ◌<◌, true, false, List, Result, Ok, Err, refl, sym, subst, ◌∙◌, inl, inr}
use Rattle.std.specs.Prelude.{is_err}
use Rattle.tv_base.specs.ErrorInPart.{ErrorInBytes}
use Rattle.tv_base.specs.Number.{Fixed}
use Rattle.tv_base.specs.Source.{AllBytes, Failures}
use Rattle.tv_format.specs.InputError.{Corrupt}
use Rattle.tv_format.specs.Tree.{Tree}
use Rattle.tv_format.specs.Version.{Version}
use Rattle.tv_value.specs.declared.field.Field.{Field}
use Rattle.tv_reader.specs.Error as stores
use Rattle.tv_reader.specs.Fields.{field_at}
use Rattle.tv_reader.specs.Finds.{FindsIf}
use Rattle.tv_reader.specs.Version.{version_of}
use Rattle.tv_reader.specs.declared.error.DeserializeError.{DeserializeError}
use Rattle.tv_reader.specs.declared.error.DeserializeError.TheVariants as errors
use Rattle.tv_reader.specs.declared.value_type.ValueType.{ValueType}
use Rattle.tv_reader.proofs.AgreeField.{field_agrees}
use Rattle.tv_reader.proofs.DepthSteps.{err_of}
use Rattle.tv_reader.proofs.Finding.{finds_as, finds_read, finds_read_fails, finds_any}
use Rattle.tv_typed.specs.Depths.{AtField, WhereTooDeepBy}
use Rattle.tv_typed.specs.Documents.{EncodesField, FieldEnds, FieldRefused, GivesPair, RefusesPairBy}
use Rattle.tv_typed.specs.Lists.{NextItemRefused}
use Rattle.tv_typed.specs.Typed.{ReadsIf, DeserializesBy}
use Rattle.tv_typed.specs.Values.{EncodesAs, NextRefused}
use Rattle.tv_typed.specs.declared.store_reader.StoreReader.{StoreReader}
use Rattle.tv_typed.proofs.DeserializeSteps.{deserializes, goes_then, goes_as, goes_fails}
use Rattle.tv_typed.proofs.ListSteps.{at_version, next_ended}
use Rattle.tv_typed.proofs.TypedSteps.{told_reads}
use Rattle.tv_reader.specs.Error.{StoreMayStopRoomy, StoreMayStop}

-- ---- fields

field_found : {S : Type 0} {is_known : S → Type 0} {left : S → List ℕ} {failures : S → Failures} {old new : S} {i k : ℕ} (result : Result ℕ DeserializeError) → ((source : S) → is_known source → AllBytes (left source))
    → stores.StoreTakesIf stores.StoreMayStopLean is_known left failures old i new k (λ x. x) result field_at → FindsIf StoreMayStopRoomy is_known left failures old i new k result (Fixed 4) (Corrupt (ErrorInBytes 4))
field_found (Ok x) are_bytes h = finds_as x (Fixed 4) (Corrupt (ErrorInBytes 4)) (λ a p. p) (finds_read are_bytes field_agrees h)
field_found (Err e) are_bytes h = finds_any (λ e n may. may.0) (finds_read_fails (Fixed 4) (Corrupt (ErrorInBytes 4)) are_bytes field_agrees (λ w r f. f) h)

pub field_reads : {S : Type 0} {is_known : S → Type 0} {left : S → List ℕ} {failures : S → Failures} {s : S} {k : ℕ} (old new : StoreReader S) (result : Result ℕ DeserializeError) → ((source : S) → is_known source → AllBytes (left source))
    → old.has_failed ≡ false → stores.StoreTakesIf stores.StoreMayStopLean is_known left failures old.source old.count s k (λ x. x) result field_at → new.source ≡ s → new.count ≡ k → new.version ≡ old.version → new.levels ≡ old.levels → new.has_failed ≡ is_err result
    → ReadsIf StoreMayStop is_known left failures old new result (Fixed 4) FieldEnds
field_reads old new result are_bytes is_open h source count version levels marks = told_reads old new result (Fixed 4) (Corrupt (ErrorInBytes 4)) is_open (field_found result are_bytes h) source count version levels marks

-- ---- pairs

pub pair_found : {S X : Type 0} {is_known : S → Type 0} {left : S → List ℕ} {failures : S → Failures} {old mid new : StoreReader S} {n : ℕ} {value : X} (is : Tree → X → Type 0) (refused : Version → ValueType → List ℕ → DeserializeError → Type 0) (field : Field) → field.id ≡ n
    → ReadsIf StoreMayStop is_known left failures old mid (Ok n) (Fixed 4) FieldEnds → DeserializesBy is_known left failures mid new (Ok value) (EncodesAs is (version_of mid.version)) (NextRefused refused (version_of mid.version))
    → DeserializesBy is_known left failures old new (Ok (field, value)) (EncodesField is (version_of old.version)) (FieldRefused refused (version_of old.version))
pair_found {old = old} {value = value} is refused field same p h =
    let v = version_of old.version in
    goes_as (field, value) (EncodesField is v) (FieldRefused refused v) (λ a s. s)
    (goes_then (λ b x. EncodesField is v b (field, x)) (λ w r. Unit {0}) (λ a b x r s. record { prefix = a; rest = b; joined = refl; first = subst (Fixed 4 a) (sym same) r; second = s }) (λ a w c r f. tt) (λ a f r _ _ start byte last. tt)
    (deserializes (Fixed 4) (λ b x q. q) p) (at_version (EncodesAs is) (NextRefused refused) old.version p.same_version h))

pub pair_field_fails : {S X : Type 0} {is_known : S → Type 0} {left : S → List ℕ} {failures : S → Failures} {old new : StoreReader S} {e : DeserializeError} (is : Tree → X → Type 0) (refused : Version → ValueType → List ℕ → DeserializeError → Type 0) (v : Version)
    → ReadsIf {X = ℕ} StoreMayStop is_known left failures old new (Err e) (Fixed 4) FieldEnds → DeserializesBy {X = Field × X} is_known left failures old new (Err e) (EncodesField is v) (FieldRefused refused v)
pair_field_fails is refused v p = goes_fails (EncodesField is v) (FieldRefused refused v) (λ w c f. inl f) (deserializes (Fixed 4) (λ b x q. q) p)

pub pair_value_fails : {S X : Type 0} {is_known : S → Type 0} {left : S → List ℕ} {failures : S → Failures} {old mid new : StoreReader S} {n : ℕ} {e : DeserializeError} (is : Tree → X → Type 0) (refused : Version → ValueType → List ℕ → DeserializeError → Type 0)
    → ReadsIf StoreMayStop is_known left failures old mid (Ok n) (Fixed 4) FieldEnds → DeserializesBy {X = X} is_known left failures mid new (Err e) (EncodesAs is (version_of mid.version)) (NextRefused refused (version_of mid.version))
    → DeserializesBy {X = Field × X} is_known left failures old new (Err e) (EncodesField is (version_of old.version)) (FieldRefused refused (version_of old.version))
pair_value_fails {old = old} {n = n} is refused p h =
    let v = version_of old.version in
    goes_then (EncodesField is v) (FieldRefused refused v) (λ a b x r s. absurd s)
    (λ a w c r f. inr (n, record { prefix = a; rest = w; joined = refl; first = r; second = f }))
    (λ a f r other nothing start byte last. absurd (other (next_ended refused v f nothing)))
    (deserializes (Fixed 4) (λ b x q. q) p) (goes_fails (λ b z. ⊥) (NextRefused refused v) (λ w c f. f) (at_version (EncodesAs is) (NextRefused refused) old.version p.same_version h))

-- ---- what gives pairs

pub pair_given : {S X : Type 0} {is_known : S → Type 0} {left : S → List ℕ} {failures : S → Failures} {old new : StoreReader S} {p : Field × X} {Q : List ℕ → DeserializeError → Type 0} (is : Tree → X → Type 0) → old.has_failed ≡ false → DeserializesBy is_known left failures old new (Ok p) (EncodesField is (version_of old.version)) Q
    → is_known old.source → is_known new.source × ((t : Tree) × GivesPair left old (p.0.id, t) new × is t p.1)
pair_given is is_open h told =
    let b = h.found is_open told in
    let s = b.encoded in (
      h.stays_known is_open told,
      (
        s.second.0,
        record {
          was_open = is_open;
          is_open = h.unmarked;
          same_version = h.same_version;
          same_levels = h.same_levels;
          encodes = record { prefix = b.prefix; joined = b.joined; encoded = record { prefix = s.prefix; rest = s.rest; joined = s.joined; first = s.first; second = s.second.1 } };
        },
        s.second.2,
      ),
    )

pub pair_refused : {S X : Type 0} {is_known : S → Type 0} {left : S → List ℕ} {failures : S → Failures} {old new : StoreReader S} {e : DeserializeError} (is : Tree → X → Type 0) (refused : Version → ValueType → List ℕ → DeserializeError → Type 0) (deep : Version → ℕ → ValueType → List ℕ → List ℕ → Type 0) (position announced : ℕ) → position < announced
    → DeserializesBy {X = Field × X} is_known left failures old new (Err e) (EncodesField is (version_of old.version)) (FieldRefused refused (version_of old.version)) → WhereTooDeepBy {X = Field × X} is_known left old new (Err e) (AtField deep)
    → RefusesPairBy is_known left failures position announced old refused deep e
pair_refused {old = old} {new = new} {e = e} is refused deep position announced fewer h d = record {
  new = new;
  deserializes = goes_fails (λ b x. ⊥) (NextItemRefused (FieldRefused refused (version_of old.version)) position announced) (λ w c f. (fewer, f)) h;
  too_deep = λ is_open told is. (fewer, d is_open told (err_of e _ is));
}

both : false ≡ true → ⊥
both e = absurd cc

pub closed_refused : {S : Type 0} (is_known : S → Type 0) (left : S → List ℕ) (failures : S → Failures) (old : StoreReader S) (refused : Version → ValueType → List ℕ → DeserializeError → Type 0) (deep : Version → ℕ → ValueType → List ℕ → List ℕ → Type 0) (position announced : ℕ)
    → old.has_failed ≡ true → RefusesPairBy is_known left failures position announced old refused deep errors.AlreadyFailed
closed_refused is_known left failures old refused deep position announced failed = record {
  new = old;
  deserializes = record {
    closed = λ _. (refl, refl, refl);
    unmarked = tt;
    found = λ is_open t. absurd (both (sym is_open ∙ failed));
    taken = λ is_open t. absurd (both (sym is_open ∙ failed));
    stays_known = λ is_open t. t;
    counts = λ is_open. absurd (both (sym is_open ∙ failed));
    same_version = refl;
    same_levels = refl;
  };
  too_deep = λ is_open t is. absurd (both (sym is_open ∙ failed));
}
