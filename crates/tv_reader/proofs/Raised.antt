-- What a reader of a lower layer takes, said by an error of the store.
use Rattle.std.proofs.Common.{◌≡◌, ◌≢◌, ℕ, List, Result, Ok, Err, refl, ap}
use Rattle.tv_base.specs.declared.cause.Cause.{Cause}
use Rattle.tv_base.specs.declared.cause.Cause.TheVariants.{TooLong}
use Rattle.tv_base.specs.declared.cause.ReadError.{ReadError}
use Rattle.tv_base.specs.declared.cause.ReadError.TheVariants as reads
use Rattle.tv_base.specs.Source.{Failures}
use Rattle.tv_base.specs.Stop.{Stops, Takes, lifted}
use Rattle.tv_base.specs.Take.{MayStopLean, read_stop}
use Rattle.tv_base.proofs.TakeSteps.{SoFar, SoFar-fails, SoFar-is, SoFar-refuses, SoFar-start, SoFar-step, SoFar-then}
use Rattle.tv_format.specs.InputError.{corrupted, no_text_key}
use Rattle.tv_reader.specs.Error.{StoreMayStopLean, read_error, store_stop}
use Rattle.tv_reader.specs.HeadReading.{coded_text_by, text_by}
use Rattle.tv_reader.specs.Kinds.{kind_at}
use Rattle.tv_reader.specs.ValueType.{value_type_code}
use Rattle.tv_reader.specs.declared.error.DeserializeError.{DeserializeError}
use Rattle.tv_reader.specs.declared.error.DeserializeError.TheVariants as errors
use Rattle.tv_reader.specs.declared.value_type.ValueType.{ValueType}
use Rattle.tv_reader.specs.declared.value_type.ValueType.TheVariants as types
use Rattle.tv_reader.proofs.Finding.{raised_counts}

raised_stops : {Y : Type 0} (e : ReadError) (reading : List ℕ → Result (Y × List ℕ) (Cause × List ℕ)) (taken rest : List ℕ) (count : ℕ) → Stops (read_stop e) reading taken rest count → Stops (store_stop (read_error e)) (λ w. lifted corrupted (reading w)) taken rest count
raised_stops (reads.Corrupted TooLong) reading taken rest count h = (h.0, ap (λ r. lifted corrupted r) h.1)
raised_stops (reads.Corrupted c) reading taken rest count h = ap (λ r. lifted corrupted r) h
raised_stops (reads.Io kind) reading taken rest count h = tt
raised_stops reads.Memory reading taken rest count h = tt

pub raised_ok : {P X Y : Type 0} {May : ReadError → ℕ → Type 0} {StoreMay : DeserializeError → ℕ → Type 0} {is_known : P → Type 0} {left : P → List ℕ} {count : P → ℕ} {failures : P → Failures} {old new : P} {view : X → Y} {x : X} {reading : List ℕ → Result (Y × List ℕ) (Cause × List ℕ)}
    → Takes read_stop May is_known left count failures old new view (Ok x) reading → Takes store_stop StoreMay is_known left count failures old new view (Ok x) (λ w. lifted corrupted (reading w))
raised_ok h = record { gives = λ told taken joined behind. ap (λ r. lifted corrupted r) (h.gives told taken joined behind); taken = h.taken; stays_known = h.stays_known; counts = h.counts; count_grows = h.count_grows; may_stop = tt }

pub raised_fails : {P X Y : Type 0} {May : ReadError → ℕ → Type 0} {StoreMay : DeserializeError → ℕ → Type 0} {is_known : P → Type 0} {left : P → List ℕ} {count : P → ℕ} {failures : P → Failures} {old new : P} {view : X → Y} {e : ReadError} {reading : List ℕ → Result (Y × List ℕ) (Cause × List ℕ)}
    → ((e : ReadError) (n : ℕ) → May e n → StoreMay (read_error e) n) → Takes read_stop May is_known left count failures old new view (Err e) reading → Takes store_stop StoreMay is_known left count failures old new view (Err (read_error e)) (λ w. lifted corrupted (reading w))
raised_fails {left = left} {count = count} {failures = failures} {old = old} {new = new} {e = e} {reading = reading} raise h = record {
  gives = λ told taken joined. raised_stops e reading taken (left new) (count new) (h.gives told taken joined);
  taken = h.taken;
  stays_known = h.stays_known;
  counts = raised_counts e (failures old) (failures new) h.counts;
  count_grows = h.count_grows;
  may_stop = raise e (count new) h.may_stop;
}

-- a value of another type is no text
no_text : {A : Type 0} (reading : List ℕ → Result (A × List ℕ) (Cause × List ℕ)) (kind : ValueType) (w : List ℕ) → kind ≢ types.String → text_by reading kind w ≡ Err (no_text_key (value_type_code kind), w)
no_text reading types.String w other = absurd (other refl)
no_text reading _ w other = refl

-- ---- a text after its code

-- the code was read
coded : {P Y : Type 0} {is_known : P → Type 0} {left : P → List ℕ} {count : P → ℕ} {failures : P → Failures} {old mid : P} {kind : ValueType} (reading : List ℕ → Result (Y × List ℕ) (Cause × List ℕ))
    → Takes read_stop MayStopLean is_known left count failures old mid (λ x. x) (Ok kind) kind_at → SoFar is_known left count failures old mid (coded_text_by reading) (text_by reading kind)
unfolding coded_text_by
coded reading h = SoFar-step (λ x. text_by reading x.0 x.1) (λ _. refl) (SoFar-start _ _ _ _ _ (coded_text_by reading) (coded_text_by reading) (λ _. refl)) (raised_ok {StoreMay = StoreMayStopLean} h)

pub code_fails : {P X Y : Type 0} {StoreMay : DeserializeError → ℕ → Type 0} {is_known : P → Type 0} {left : P → List ℕ} {count : P → ℕ} {failures : P → Failures} {old new : P} {e : ReadError} (view : X → Y) (reading : List ℕ → Result (Y × List ℕ) (Cause × List ℕ))
    → ((e : ReadError) (n : ℕ) → MayStopLean e n → StoreMay (read_error e) n) → Takes {X = ValueType} read_stop MayStopLean is_known left count failures old new (λ x. x) (Err e) kind_at → Takes store_stop StoreMay is_known left count failures old new view (Err (read_error e)) (coded_text_by reading)
unfolding coded_text_by
code_fails {e = e} view reading raise h = SoFar-fails view (read_error e) (λ x. text_by reading x.0 x.1) (λ _. refl) (SoFar-start _ _ _ _ _ (coded_text_by reading) (coded_text_by reading) (λ _. refl)) (raised_fails raise h)

-- then the text is
is_text : {P Y : Type 0} {is_known : P → Type 0} {left : P → List ℕ} {count : P → ℕ} {failures : P → Failures} {old mid : P} {kind : ValueType} (reading : List ℕ → Result (Y × List ℕ) (Cause × List ℕ)) → kind ≡ types.String
    → Takes read_stop MayStopLean is_known left count failures old mid (λ x. x) (Ok kind) kind_at → SoFar is_known left count failures old mid (coded_text_by reading) (λ w. lifted corrupted (reading w))
is_text reading is h = SoFar-is (λ w. lifted corrupted (reading w)) (λ w. ap (λ t. text_by reading t w) is) (coded reading h)

pub text_found : {P X Y : Type 0} {May : ReadError → ℕ → Type 0} {StoreMay : DeserializeError → ℕ → Type 0} {is_known : P → Type 0} {left : P → List ℕ} {count : P → ℕ} {failures : P → Failures} {old mid new : P} {kind : ValueType} {x : X} (view : X → Y) (reading : List ℕ → Result (Y × List ℕ) (Cause × List ℕ)) → kind ≡ types.String
    → Takes read_stop MayStopLean is_known left count failures old mid (λ x. x) (Ok kind) kind_at → Takes read_stop May is_known left count failures mid new view (Ok x) reading → Takes store_stop StoreMay is_known left count failures old new view (Ok x) (coded_text_by reading)
text_found view reading is h text = SoFar-then (is_text reading is h) (raised_ok text)

pub text_fails : {P X Y : Type 0} {May : ReadError → ℕ → Type 0} {StoreMay : DeserializeError → ℕ → Type 0} {is_known : P → Type 0} {left : P → List ℕ} {count : P → ℕ} {failures : P → Failures} {old mid new : P} {kind : ValueType} {e : ReadError} (view : X → Y) (reading : List ℕ → Result (Y × List ℕ) (Cause × List ℕ)) → ((e : ReadError) (n : ℕ) → May e n → StoreMay (read_error e) n) → kind ≡ types.String
    → Takes read_stop MayStopLean is_known left count failures old mid (λ x. x) (Ok kind) kind_at → Takes read_stop May is_known left count failures mid new view (Err e) reading → Takes store_stop StoreMay is_known left count failures old new view (Err (read_error e)) (coded_text_by reading)
text_fails view reading raise is h text = SoFar-then (is_text reading is h) (raised_fails raise text)

-- or a value of another type stands there
pub text_refused : {P X Y : Type 0} {StoreMay : DeserializeError → ℕ → Type 0} {is_known : P → Type 0} {left : P → List ℕ} {count : P → ℕ} {failures : P → Failures} {old mid : P} {kind : ValueType} (view : X → Y) (reading : List ℕ → Result (Y × List ℕ) (Cause × List ℕ)) → StoreMay (errors.TypeMismatch types.String kind) (count mid) → kind ≢ types.String
    → Takes read_stop MayStopLean is_known left count failures old mid (λ x. x) (Ok kind) kind_at → Takes store_stop StoreMay is_known left count failures old mid view (Err (errors.TypeMismatch types.String kind)) (coded_text_by reading)
text_refused {kind = kind} view reading may other h = SoFar-refuses store_stop view (errors.TypeMismatch types.String kind) (no_text_key (value_type_code kind)) refl may (λ w. no_text reading kind w other) (coded reading h)
