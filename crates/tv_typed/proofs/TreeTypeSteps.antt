-- Types whose values are made of trees that were read whole: a tree is read, and refused.
use Rattle.std.proofs.Common.{◌≡◌, ◌≢◌, ℕ, false, true, List, [], ◌∷◌, ◌++◌, Ok, Err, refl, sym, ap, subst, ◌∙◌, append_assoc, inl, inr}
use Rattle.tv_base.specs.declared.cause.Cause.TheVariants.{UnexpectedEnd}
use Rattle.tv_base.specs.Source.{Failures}
use Rattle.tv_base.specs.Stop.{Stop, CountsStop}
use Rattle.tv_base.specs.Stop.Stop.{InputError}
use Rattle.tv_base.proofs.Agrees.{no_last}
use Rattle.tv_base.proofs.TakeSteps.{Taken_none}
use Rattle.tv_format.specs.Encoding.{Encodes}
use Rattle.tv_format.specs.InputError.{corrupted}
use Rattle.tv_format.specs.Tree.{Tree}
use Rattle.tv_format.specs.Version.{Version}
use Rattle.tv_reader.specs.Legacy.{Legacy, ErrorInLegacy}
use Rattle.tv_reader.proofs.EarlyObjects.{early_legacy}
use Rattle.tv_reader.proofs.EarlyTrees.{early_value}
use Rattle.tv_reader.specs.Error.{is_corrupted}
use Rattle.tv_reader.specs.Finds.{GivesStop}
use Rattle.tv_reader.specs.Trees.{EncodesBehind, NoneBehind}
use Rattle.tv_reader.specs.ValueType.{type_prefix}
use Rattle.tv_reader.specs.declared.error.DeserializeError.{DeserializeError}
use Rattle.tv_reader.specs.declared.value_type.ValueType.{ValueType}
use Rattle.tv_typed.specs.TreeTypes.{TreeTypeRefused}
use Rattle.tv_typed.specs.Typed.{typed_stop, ReadsIf, DeserializesBy}
use Rattle.tv_typed.specs.Values.{EncodedAs, TreeRefused}
use Rattle.tv_typed.specs.declared.store_reader.StoreReader.{StoreReader}
use Rattle.tv_value.specs.Owned.{owned_tree}
use Rattle.tv_value.specs.declared.owned_value.OwnedValue.{OwnedValue}
use Rattle.tv_typed.proofs.DeserializeSteps.{end, deserializes, goes_then, goes_fails}

-- without its last byte a value after its code ends too early
pub early_behind : (v : Version) (kind : ValueType) (t : Tree) (a start : List ℕ) (byte : ℕ) → Encodes Legacy v (type_prefix kind ++ a) t → a ≡ start ++ byte ∷ [] → NoneBehind v kind start (corrupted UnexpectedEnd)
early_behind v kind t a start byte p last =
    (early_value Legacy ErrorInLegacy v early_legacy t).early (type_prefix kind ++ a) (type_prefix kind ++ start) (byte ∷ []) p
    (ap (λ (l : List ℕ). type_prefix kind ++ l) last ∙ sym (append_assoc (type_prefix kind) start (byte ∷ []))) (λ none. absurd cc)

-- nothing more is taken
refused_here : (Q : List ℕ → DeserializeError → Type 0) (e : DeserializeError) (left : List ℕ) (count : ℕ) (s : Stop DeserializeError) → s ≡ InputError e → e ≢ end → Q left e → Q [] e → GivesStop end Q left left count s
refused_here Q e left count s stop other whole none =
    subst (GivesStop end Q left left count) (sym stop)
    (record { stands = whole; shows = record { taken = []; joined = refl; shown = none; all = λ at_end. absurd (other at_end); early = λ _ start byte last. absurd (no_last start byte last) } })

both : false ≡ true → ⊥
both e = absurd cc

counts_none : (s : Stop DeserializeError) (e : DeserializeError) (f : Failures) → s ≡ InputError e → CountsStop s f f
counts_none s e f stop = subst (λ z. CountsStop z f f) (sym stop) refl

-- A tree was read, and it is refused with an error that is reported of the bytes.
pub tree_type_refuses : {May : DeserializeError → ℕ → Type 0} {S X : Type 0} {is_known : S → Type 0} {left : S → List ℕ} {failures : S → Failures} {old new : StoreReader S} {tree : OwnedValue} (is : Tree → X → Type 0) (Refuses : ValueType → Tree → DeserializeError → Type 0) (v : Version) (kind : ValueType) (e : DeserializeError)
    → typed_stop e ≡ InputError e → e ≢ end → Refuses kind (owned_tree tree) e
    → ReadsIf May is_known left failures old new (Ok tree) (EncodesBehind v kind) (TreeRefused v kind) → DeserializesBy {X = X} is_known left failures old new (Err e) (EncodedAs is v kind) (TreeTypeRefused Refuses v kind)
tree_type_refuses {X = X} {left = left} {failures = failures} {new = new} {tree = tree} is Refuses v kind e stop other refused p =
    let t = owned_tree tree in
    goes_then {A = λ b (x : X). ⊥} {P = λ w f. Refuses kind t f} (EncodedAs is v kind) (TreeTypeRefused Refuses v kind)
    (λ a b x r s. absurd s)
    (λ a w c r f. inr (t, record { prefix = a; rest = w; joined = refl; first = r; second = f }))
    (λ a f r _ _ start byte last. inl (record { refusal = corrupted UnexpectedEnd; told = is_corrupted; error = early_behind v kind t a start byte r last }))
    (deserializes (λ b x. Encodes Legacy v (type_prefix kind ++ b) (owned_tree x)) (λ b x q. q) p)
    (record {
      closed = λ failed. absurd (both (sym p.marks_failure ∙ failed));
      unmarked = tt;
      found = λ _ told. refused_here (λ w f. Refuses kind t f) e (left new.source) new.count (typed_stop e) stop other refused refused;
      taken = λ _ told. Taken_none (left new.source) new.count;
      stays_known = λ _ told. told;
      counts = λ _. counts_none (typed_stop e) e (failures new.source) stop;
      same_version = refl;
      same_levels = refl;
    })

-- No tree was read.
pub tree_type_fails : {May : DeserializeError → ℕ → Type 0} {S X : Type 0} {is_known : S → Type 0} {left : S → List ℕ} {failures : S → Failures} {old new : StoreReader S} {e : DeserializeError} (is : Tree → X → Type 0) (Refuses : ValueType → Tree → DeserializeError → Type 0) (v : Version) (kind : ValueType)
    → ReadsIf {X = OwnedValue} May is_known left failures old new (Err e) (EncodesBehind v kind) (TreeRefused v kind) → DeserializesBy {X = X} is_known left failures old new (Err e) (EncodedAs is v kind) (TreeTypeRefused Refuses v kind)
tree_type_fails is Refuses v kind p = goes_fails (EncodedAs is v kind) (TreeTypeRefused Refuses v kind) (λ w c f. inl f) (deserializes (EncodesBehind v kind) (λ b x q. q) p)
