-- Calls that read values through a reader, one after the other, whoever wrote them.
use Rattle.std.proofs.Common.{◌≡◌, ◌≢◌, ℕ, ◌+◌, ◌-◌, ◌^◌, ◌<◌, Bool, true, false, List, [], ◌∷◌, ◌++◌, length, Result, Ok, Err, refl, sym, ap, subst, ◌∙◌, arith, append_assoc, length-append, inl, inr}
use Rattle.std.specs.Prelude.{is_err, IfErr, OnOk, IsErrOf}
use Rattle.std.proofs.lemmas.List.{append_cancel_left}
use Rattle.tv_base.specs.declared.cause.Cause.TheVariants.{UnexpectedEnd}
use Rattle.tv_base.specs.Source.{Failures}
use Rattle.tv_base.specs.Stop.{Stop, Counts, Taken}
use Rattle.tv_base.specs.Stop.Stop.{InputError, Uncounted, Failed, Short, Never}
use Rattle.tv_base.proofs.TakeSteps.{Taken_then}
use Rattle.tv_reader.specs.Legacy.{Legacy}
use Rattle.tv_reader.proofs.UniqueLegacy.{one_legacy}
use Rattle.tv_format.specs.Encoding.{Encodes, NoLegacy}
use Rattle.tv_value.specs.Owned.{owned_tree}
use Rattle.tv_format.specs.Tree.{Leaf, Tree, leaf}
use Rattle.tv_format.specs.Version.{Version}
use Rattle.tv_value.specs.declared.owned_value.OwnedValue.{OwnedValue}
use Rattle.tv_format.proofs.Trees.{one_tree}
use Rattle.tv_reader.specs.Finds.{GivesStop, Found}
use Rattle.tv_reader.specs.Trees.{EncodesBehind}
use Rattle.tv_reader.specs.ValueType.{leaf_type as held_type, IsCoded, type_prefix, no_code, no_extension_code}
use Rattle.tv_reader.specs.Version.{version_of}
use Rattle.tv_reader.specs.Error.{StoreMayStop}
use Rattle.tv_reader.specs.declared.error.DeserializeError.{DeserializeError}
use Rattle.tv_reader.specs.declared.error.DeserializeError.TheVariants as errors
use Rattle.tv_reader.specs.declared.value_type.ValueType.{ValueType}
use Rattle.tv_reader.proofs.BehindKinds.{kind_edge}
use Rattle.tv_reader.proofs.Finding.{found_behind, stop_map}
use Rattle.tv_reader.proofs.DepthSteps.{err_of}
use Rattle.tv_typed.specs.Typed.{typed_stop, ReadsIf, DeserializesBy}
use Rattle.tv_typed.specs.Excluding.{type_of_leaf, leaf_excludes, tree_excludes, next_excludes, with_legacy}
use Rattle.tv_typed.specs.Values.{EncodesAs, EncodedAs, IsFixed, ReadsLeafBy, IsLeafOf, IsTree, EncodesLeaf, LeafRefused, TreeRefused, CodeRefused, in_code, NextRefused, RefusalsExclude, SparesBytes, IsReadOf, OnlyBy}
use Rattle.tv_typed.specs.declared.store_reader.StoreReader.{StoreReader}

abbrev pub end : DeserializeError
end = errors.CorruptedValue UnexpectedEnd

-- ---- one call

unmarked_by : {X : Type 0} (result : Result X DeserializeError) (b : Bool) → b ≡ is_err result → OnOk result (b ≡ false)
unmarked_by (Ok x) b e = e
unmarked_by (Err e) b h = tt

found_map : {X : Type 0} (B C : List ℕ → X → Type 0) (Q : List ℕ → DeserializeError → Type 0) (result : Result X DeserializeError) (old new : List ℕ) (count : ℕ) → ((b : List ℕ) (x : X) → B b x → C b x) → Found typed_stop end B Q old new count result → Found typed_stop end C Q old new count result
found_map B C Q (Ok x) old new count map h = record { prefix = h.prefix; joined = h.joined; encoded = map h.prefix x h.encoded }
found_map B C Q (Err e) old new count map h = h

-- what is promised of a call that anyone writes, in the words of its type
pub deserializes : {May : DeserializeError → ℕ → Type 0} {S X : Type 0} {is_known : S → Type 0} {left : S → List ℕ} {failures : S → Failures} {old new : StoreReader S} {result : Result X DeserializeError} {B : List ℕ → X → Type 0} {Q : List ℕ → DeserializeError → Type 0} (C : List ℕ → X → Type 0)
    → ((b : List ℕ) (x : X) → B b x → C b x) → ReadsIf May is_known left failures old new result B Q → DeserializesBy is_known left failures old new result C Q
deserializes {left = left} {old = old} {new = new} {result = result} {B = B} {Q = Q} C map h = record {
  closed = h.closed;
  unmarked = unmarked_by result _ h.marks_failure;
  found = λ is_open t. found_map B C Q result (left old.source) (left new.source) new.count map ((h.finds is_open).found t);
  taken = λ is_open. (h.finds is_open).taken;
  stays_known = λ is_open. (h.finds is_open).stays_known;
  counts = λ is_open. (h.finds is_open).counts;
  same_version = h.same_version;
  same_levels = h.same_levels;
}

-- ---- one call after the other

not_ok : {X : Type 0} (x : X) → IsErrOf {T = X} (Ok x) errors.AlreadyFailed → ⊥
not_ok x e = absurd cc

pub goes_then : {S X Y : Type 0} {is_known : S → Type 0} {left : S → List ℕ} {failures : S → Failures} {old mid new : StoreReader S} {x : X} {result : Result Y DeserializeError} {R : List ℕ → X → Type 0} {I : List ℕ → DeserializeError → Type 0} {A : List ℕ → Y → Type 0} {P : List ℕ → DeserializeError → Type 0}
    (B : List ℕ → Y → Type 0) (Q : List ℕ → DeserializeError → Type 0)
    → ((a b : List ℕ) (y : Y) → R a x → A b y → B (a ++ b) y) → ((a w : List ℕ) (c : DeserializeError) → R a x → P w c → Q (a ++ w) c)
    → ((a : List ℕ) (f : DeserializeError) → R a x → f ≢ end → P [] f → (start : List ℕ) (byte : ℕ) → a ≡ start ++ byte ∷ [] → Q start end)
    → DeserializesBy is_known left failures old mid (Ok x) R I → DeserializesBy is_known left failures mid new result A P → DeserializesBy is_known left failures old new result B Q
goes_then {left = left} {failures = failures} {old = old} {mid = mid} {new = new} {x = x} {result = result} {R = R} {A = A} {P = P} B Q join behind edge p h = record {
  closed = λ failed. absurd (not_ok x (p.closed failed).0);
  unmarked = h.unmarked;
  found = λ is_open t. found_behind typed_stop end R P Q A B x result (left old.source) (left mid.source) (left new.source) new.count join behind edge (p.found is_open t) (h.found p.unmarked (p.stays_known is_open t));
  taken = λ is_open t. Taken_then (p.taken is_open t) (h.taken p.unmarked (p.stays_known is_open t));
  stays_known = λ is_open t. h.stays_known p.unmarked (p.stays_known is_open t);
  counts = λ is_open. subst (λ z. Counts typed_stop result z (failures new.source)) (p.counts is_open) (h.counts p.unmarked);
  same_version = h.same_version ∙ p.same_version;
  same_levels = h.same_levels ∙ p.same_levels;
}

-- the same of what is read, in other words
pub goes_as : {S X Y : Type 0} {is_known : S → Type 0} {left : S → List ℕ} {failures : S → Failures} {old new : StoreReader S} {x : X} {R : List ℕ → X → Type 0} {I : List ℕ → DeserializeError → Type 0} (y : Y) (B : List ℕ → Y → Type 0) (Q : List ℕ → DeserializeError → Type 0)
    → ((a : List ℕ) → R a x → B a y) → DeserializesBy is_known left failures old new (Ok x) R I → DeserializesBy is_known left failures old new (Ok y) B Q
goes_as {x = x} y B Q map p = record {
  closed = λ failed. absurd (not_ok x (p.closed failed).0);
  unmarked = p.unmarked;
  found = λ is_open t. let h = p.found is_open t in record { prefix = h.prefix; joined = h.joined; encoded = map h.prefix h.encoded };
  taken = p.taken;
  stays_known = p.stays_known;
  counts = p.counts;
  same_version = p.same_version;
  same_levels = p.same_levels;
}

-- a refusal of a part is one of the whole
pub goes_fails : {S X Y : Type 0} {is_known : S → Type 0} {left : S → List ℕ} {failures : S → Failures} {old new : StoreReader S} {e : DeserializeError} {R : List ℕ → X → Type 0} {P : List ℕ → DeserializeError → Type 0} (B : List ℕ → Y → Type 0) (Q : List ℕ → DeserializeError → Type 0)
    → ((w : List ℕ) (c : DeserializeError) → P w c → Q w c) → DeserializesBy {X = X} is_known left failures old new (Err e) R P → DeserializesBy {X = Y} is_known left failures old new (Err e) B Q
goes_fails {left = left} {old = old} {new = new} {e = e} {P = P} B Q map p = record {
  closed = λ failed. let c = p.closed failed in (err_of e errors.AlreadyFailed c.0, c.1, c.2);
  unmarked = tt;
  found = λ is_open t. stop_map end P Q (typed_stop e) (left old.source) (left new.source) new.count map (p.found is_open t);
  taken = p.taken;
  stays_known = p.stays_known;
  counts = p.counts;
  same_version = p.same_version;
  same_levels = p.same_levels;
}

-- what was read can't be kept, for want of memory
pub goes_short : {S X Y : Type 0} {is_known : S → Type 0} {left : S → List ℕ} {failures : S → Failures} {old new : StoreReader S} {x : X} {R : List ℕ → X → Type 0} {I : List ℕ → DeserializeError → Type 0} (B : List ℕ → Y → Type 0) (Q : List ℕ → DeserializeError → Type 0)
    → DeserializesBy is_known left failures old new (Ok x) R I → DeserializesBy {X = Y} is_known left failures old new (Err errors.Memory) B Q
goes_short {x = x} B Q p = record {
  closed = λ failed. absurd (not_ok x (p.closed failed).0);
  unmarked = tt;
  found = λ is_open t. tt;
  taken = p.taken;
  stays_known = p.stays_known;
  counts = p.counts;
  same_version = p.same_version;
  same_levels = p.same_levels;
}

kept : {X : Type 0} (b c : Bool) (result : Result X DeserializeError) → OnOk result (b ≡ false) → OnOk result (c ≡ b) → OnOk result (c ≡ false)
kept b c (Ok x) p q = q ∙ p
kept b c (Err e) p q = tt

-- a refusal was marked
pub goes_marked : {S X : Type 0} {is_known : S → Type 0} {left : S → List ℕ} {failures : S → Failures} {old new : StoreReader S} {result : Result X DeserializeError} {B : List ℕ → X → Type 0} {Q : List ℕ → DeserializeError → Type 0} (has_failed : Bool) → OnOk result (has_failed ≡ new.has_failed)
    → DeserializesBy is_known left failures old new result B Q → DeserializesBy is_known left failures old (record new { has_failed = has_failed }) result B Q
goes_marked {new = new} {result = result} has_failed keeps p = record {
  closed = p.closed;
  unmarked = kept new.has_failed has_failed result p.unmarked keeps;
  found = p.found;
  taken = p.taken;
  stays_known = p.stays_known;
  counts = p.counts;
  same_version = p.same_version;
  same_levels = p.same_levels;
}

-- whether there was a refusal was marked
pub goes_told : {S X : Type 0} {is_known : S → Type 0} {left : S → List ℕ} {failures : S → Failures} {old new : StoreReader S} {result : Result X DeserializeError} {B : List ℕ → X → Type 0} {Q : List ℕ → DeserializeError → Type 0} (has_failed : Bool) → has_failed ≡ is_err result
    → DeserializesBy is_known left failures old new result B Q → DeserializesBy is_known left failures old (record new { has_failed = has_failed }) result B Q
goes_told {result = result} has_failed marks p = record {
  closed = p.closed;
  unmarked = unmarked_by result has_failed marks;
  found = p.found;
  taken = p.taken;
  stays_known = p.stays_known;
  counts = p.counts;
  same_version = p.same_version;
  same_levels = p.same_levels;
}

-- ---- the next value

no_cons : (b : ℕ) (rest : List ℕ) → [] ≡ b ∷ rest → ⊥
no_cons b rest e = absurd cc

-- its code was taken, and then what stands after it
pub next_then : {S X : Type 0} {is_known : S → Type 0} {left : S → List ℕ} {failures : S → Failures} {old mid new : StoreReader S} {kind : ValueType} {result : Result X DeserializeError}
    (is : Tree → X → Type 0) (refused : Version → ValueType → List ℕ → DeserializeError → Type 0)
    → ReadsIf StoreMayStop is_known left failures old mid (Ok kind) IsCoded CodeRefused → DeserializesBy is_known left failures mid new result (EncodedAs is (version_of mid.version) kind) (refused (version_of mid.version) kind)
    → DeserializesBy is_known left failures old new result (EncodesAs is (version_of old.version)) (NextRefused refused (version_of old.version))
next_then {is_known = is_known} {left = left} {failures = failures} {old = old} {mid = mid} {new = new} {kind = kind} {result = result} is refused p g =
    let v = version_of old.version in
    let h = subst (λ z. DeserializesBy is_known left failures mid new result (EncodedAs is (version_of z) kind) (refused (version_of z) kind)) p.same_version g in
    goes_then (EncodesAs is v) (NextRefused refused v)
    (λ a b x code s. (s.0, subst (λ w. Encodes Legacy v (w ++ b) s.0) (sym code) s.1, s.2))
    (λ a w c code f. inr (kind, record { prefix = a; rest = w; joined = refl; first = code; second = f }))
    (λ a f code _ _ start byte last. kind_edge end (NextRefused refused v) (inl (in_code no_code)) (inl (in_code no_extension_code)) kind start byte (sym code ∙ last))
    (deserializes IsCoded (λ b k c. c) p) h

-- ---- what a type promises beside

spares : (C : List ℕ → DeserializeError → Type 0) (s : Stop DeserializeError) (old new : List ℕ) (count : ℕ) → count < 2 ^ 64 - 1 → ((e : DeserializeError) → C old e → ⊥) → GivesStop end C old new count s → SparesBytes s
spares C (InputError f) old new count few none h = none f h.stands
spares C (Uncounted f) old new count few none h = absurd (omega (arith, few, h.0))
spares C (Failed kind) old new count few none h = tt
spares C Short old new count few none h = tt
spares C Never old new count few none h = h

read_of : {X : Type 0} (is : Tree → X → Type 0) (v : Version) (code : List ℕ) (Q : List ℕ → DeserializeError → Type 0) (result : Result X DeserializeError) (old new : List ℕ) (count : ℕ) → count < 2 ^ 64 - 1
    → ((prefix rest : List ℕ) (e : DeserializeError) (t : Tree) (x : X) → Q (prefix ++ rest) e → Encodes NoLegacy v (code ++ prefix) t → is t x → ⊥)
    → Found typed_stop end (λ b x. EncodesAs is v (code ++ b) x) Q old new count result
    → (t : Tree) (x : X) (prefix rest : List ℕ) → old ≡ prefix ++ rest → Encodes NoLegacy v (code ++ prefix) t → is t x → IsReadOf is t rest result new
read_of is v code Q (Ok y) old new count few excludes h t x prefix rest joined encoded same =
    let there : (code ++ h.prefix) ++ new ≡ (code ++ prefix) ++ rest =
    append_assoc code h.prefix new ∙ ap (λ l. code ++ l) (sym h.joined ∙ joined) ∙ sym (append_assoc code prefix rest) in
    let one = one_tree Legacy v one_legacy (code ++ h.prefix) (code ++ prefix) new rest h.encoded.0 t h.encoded.1 (with_legacy v t (code ++ prefix) encoded) there in (
      subst (λ z. is z y) one.1 h.encoded.2,
      append_cancel_left (code ++ prefix) new rest (ap (λ l. l ++ new) (sym one.0) ∙ there),
    )
read_of is v code Q (Err e) old new count few excludes h t x prefix rest joined encoded same =
    spares Q (typed_stop e) old new count few (λ f q. excludes prefix rest f t x (subst (λ w. Q w f) joined q) encoded same) h

few_more : (old new : List ℕ) (count now : ℕ) → Taken old new count now → count + length old < 2 ^ 64 - 1 → now < 2 ^ 64 - 1
few_more old new count now t few = omega (arith, t.counted, ap length t.joined, length-append t.prefix new, few)

pub only_by : {S X : Type 0} {is_known : S → Type 0} {left : S → List ℕ} {failures : S → Failures} {old new : StoreReader S} {result : Result X DeserializeError} (is : Tree → X → Type 0) (v : Version) (code : List ℕ) (Q : List ℕ → DeserializeError → Type 0)
    → ((prefix rest : List ℕ) (e : DeserializeError) (t : Tree) (x : X) → Q (prefix ++ rest) e → Encodes NoLegacy v (code ++ prefix) t → is t x → ⊥)
    → DeserializesBy is_known left failures old new result (λ b x. EncodesAs is v (code ++ b) x) Q → OnlyBy is_known left old new result is v code
only_by {left = left} {old = old} {new = new} {result = result} is v code Q excludes h =
    λ is_open told few t x prefix rest joined encoded same.
    read_of is v code Q result (left old.source) (left new.source) new.count (few_more (left old.source) (left new.source) old.count new.count (h.taken is_open told) few) excludes (h.found is_open told) t x prefix rest joined encoded same

-- a leaf after the code of its type
pub leaf_deserializes : {S X : Type 0} {is_known : S → Type 0} {left : S → List ℕ} {failures : S → Failures} {old new : StoreReader S} {result : Result X DeserializeError} {Q : List ℕ → DeserializeError → Type 0} (make : X → Leaf) (v : Version) (kind : ValueType)
    → ReadsIf StoreMayStop is_known left failures old new result (EncodesLeaf v kind make) Q → DeserializesBy is_known left failures old new result (EncodedAs (IsLeafOf make) v kind) Q
leaf_deserializes make v kind h = deserializes (EncodedAs (IsLeafOf make) v kind) (λ b x p. (leaf (make x), p, refl)) h

closed_calm : {X : Type 0} (result : Result X DeserializeError) → IsErrOf result errors.AlreadyFailed → IsErrOf result errors.TooDeep → ⊥
closed_calm result is deep = let same = sym is ∙ deep in absurd cc

may_calm : {X : Type 0} (result : Result X DeserializeError) (count : ℕ) → IfErr result (λ e. StoreMayStop e count) → IsErrOf result errors.TooDeep → ⊥
may_calm (Ok x) count may is = absurd cc
may_calm (Err errors.TooDeep) count may is = may
may_calm (Err _) count may is = absurd cc

-- a read of no tree isn't too deep
pub reads_calm : {S X : Type 0} {is_known : S → Type 0} {left : S → List ℕ} {failures : S → Failures} {old new : StoreReader S} {result : Result X DeserializeError} {B : List ℕ → X → Type 0} {Q : List ℕ → DeserializeError → Type 0} (has_failed : Bool) → old.has_failed ≡ has_failed
    → ReadsIf StoreMayStop is_known left failures old new result B Q → IsErrOf result errors.TooDeep → ⊥
reads_calm {result = result} true failed h = closed_calm result (h.closed failed).0
reads_calm {new = new} {result = result} false is_open h = may_calm result new.count (h.finds is_open).may_stop

pub reads_leaf : {S X : Type 0} {is_known : S → Type 0} {left : S → List ℕ} {failures : S → Failures} {old new : StoreReader S} {result : Result X DeserializeError} (expected : ValueType) (make : X → Leaf) → ((x : X) → type_of_leaf (make x) ≡ expected) → (kind : ValueType)
    → ReadsIf StoreMayStop is_known left failures old new result (EncodesLeaf (version_of old.version) kind make) (LeafRefused expected (version_of old.version) kind) → (IsFixed (held_type expected) → ¬ IsErrOf result errors.Memory)
    → ReadsLeafBy is_known left failures expected make kind old new result
reads_leaf {old = old} expected make typed kind h spares =
    let v = version_of old.version in
    let as_type = leaf_deserializes make v kind h in
    record { reads = h; only = only_by (IsLeafOf make) v (type_prefix kind) (LeafRefused expected v kind) (leaf_excludes expected make typed v kind) as_type; deserializes = as_type; no_memory = spares; not_too_deep = reads_calm _ refl h }

-- a value of any type after its code
pub tree_deserializes : {May : DeserializeError → ℕ → Type 0} {S : Type 0} {is_known : S → Type 0} {left : S → List ℕ} {failures : S → Failures} {old new : StoreReader S} {result : Result OwnedValue DeserializeError} {Q : List ℕ → DeserializeError → Type 0} (v : Version) (kind : ValueType)
    → ReadsIf May is_known left failures old new result (EncodesBehind v kind) Q → DeserializesBy is_known left failures old new result (EncodedAs IsTree v kind) Q
tree_deserializes v kind h = deserializes (EncodedAs IsTree v kind) (λ b x p. (owned_tree x, p, refl)) h

pub tree_only : {May : DeserializeError → ℕ → Type 0} {S : Type 0} {is_known : S → Type 0} {left : S → List ℕ} {failures : S → Failures} {old new : StoreReader S} {result : Result OwnedValue DeserializeError} (v : Version) (kind : ValueType)
    → ReadsIf May is_known left failures old new result (EncodesBehind v kind) (TreeRefused v kind) → OnlyBy is_known left old new result IsTree v (type_prefix kind)
tree_only v kind h = only_by IsTree v (type_prefix kind) (TreeRefused v kind) (tree_excludes IsTree v kind) (tree_deserializes v kind h)

-- the next value
pub next_code_fails : {S X : Type 0} {is_known : S → Type 0} {left : S → List ℕ} {failures : S → Failures} {old new : StoreReader S} {e : DeserializeError} (is : Tree → X → Type 0) (refused : Version → ValueType → List ℕ → DeserializeError → Type 0) (v : Version)
    → ReadsIf {X = ValueType} StoreMayStop is_known left failures old new (Err e) IsCoded CodeRefused → DeserializesBy {X = X} is_known left failures old new (Err e) (EncodesAs is v) (NextRefused refused v)
next_code_fails is refused v p = goes_fails (EncodesAs is v) (NextRefused refused v) (λ w c f. inl f) (deserializes IsCoded (λ b k c. c) p)

pub next_only : {S X : Type 0} {is_known : S → Type 0} {left : S → List ℕ} {failures : S → Failures} {old new : StoreReader S} {result : Result X DeserializeError} (is : Tree → X → Type 0) (refused : Version → ValueType → List ℕ → DeserializeError → Type 0) → RefusalsExclude is refused → (v : Version)
    → DeserializesBy is_known left failures old new result (EncodesAs is v) (NextRefused refused v) → OnlyBy is_known left old new result is v []
next_only is refused excludes v h = only_by is v [] (NextRefused refused v) (λ prefix rest e t x r p same. next_excludes is refused excludes v (prefix ++ rest) prefix rest e t x r refl p same) h
