-- Values that are handed to visitors.
use Rattle.std.proofs.Common.{◌≡◌, ◌≢◌, ℕ, Bool, true, false, List, ◌++◌, Result, Ok, Err, refl, sym, ap, subst, ◌∙◌, inl, inr}
use Rattle.std.specs.Prelude.{is_err}
use Rattle.tv_base.specs.Source.{AllBytes, Failures}
use Rattle.tv_base.specs.declared.cause.Cause.{Cause}
use Rattle.tv_base.specs.declared.cause.ReadError.{ReadError}
use Rattle.tv_base.specs.Stop.{CountsStop, Counts, Takes}
use Rattle.tv_base.specs.Take.{MayStop, read_stop, TakesIf}
use Rattle.tv_base.proofs.EarlyNumbers.{number_early}
use Rattle.tv_format.specs.Encoding.{Encodes, NoLegacy}
use Rattle.tv_value.specs.Owned.{owned_tree}
use Rattle.tv_format.specs.Short.{short}
use Rattle.tv_format.specs.Tree.{Leaf, Tree, leaf, array, object}
use Rattle.tv_format.specs.Version.{Version, V2, entry_total}
use Rattle.tv_value.specs.declared.owned_value.OwnedValue.{OwnedValue}
use Rattle.tv_reader.specs.Leaves.{is_leaf_type, IsSingle, leaf_at}
use Rattle.tv_reader.specs.Trees.{EncodesBehind}
use Rattle.tv_reader.specs.ValueType.{type_prefix, IsCoded, no_code, no_extension_code}
use Rattle.tv_reader.specs.Version.{version_of}
use Rattle.tv_reader.specs.declared.error.DeserializeError.{DeserializeError}
use Rattle.tv_reader.specs.declared.value_type.ValueType.{ValueType}
use Rattle.tv_reader.specs.declared.value_type.ValueType.TheVariants as types
use Rattle.tv_reader.specs.declared.version.DocStoreVersion.TheVariants as stores
use Rattle.tv_reader.proofs.AgreeLeaves.{leaf_agrees}
use Rattle.tv_reader.proofs.BehindKinds.{kind_edge}
use Rattle.tv_typed.specs.Excluding.{malformed_behind}
use Rattle.tv_typed.specs.LegacyObjects.{OfEncoding}
use Rattle.tv_typed.specs.Typed.{typed_stop, raised, ReadsIf, DeserializesBy}
use Rattle.tv_typed.specs.Values.{CodeRefused, in_code, IsLeafOf, EncodesLeaf, LeafRefused, other_type, in_body, TreeRefused}
use Rattle.tv_typed.specs.Lists.{Length, LengthRefused, in_length, element_total}
use Rattle.tv_typed.specs.Visits.{single_leaf, Answered, VisitsBy, EncodesVisited, VisitRefused, Handed, VisitsItemsBy, EncodesNextVisited, NextVisitRefused, GivesEntries, TellsNoFailure, VisitsLegacyBy, VisitsKindBy}
use Rattle.tv_typed.specs.declared.store_reader.StoreReader.{StoreReader}
use Rattle.tv_typed.proofs.DeserializeSteps.{end, deserializes, goes_then, goes_fails, goes_told, only_by, leaf_deserializes}
use Rattle.tv_typed.proofs.LegacySteps.{counts_here}
use Rattle.tv_typed.proofs.ListSteps.{at_version}
use Rattle.tv_typed.proofs.TypedSteps.{leaf_reads}
use Rattle.tv_reader.specs.Error.{StoreMayStop}

-- ---- leaves

any_excluded : (v : Version) (kind : ValueType) (prefix rest : List ℕ) (e : DeserializeError) (t : Tree) → LeafRefused kind v kind (prefix ++ rest) e → Encodes NoLegacy v (type_prefix kind ++ prefix) t → ⊥
any_excluded v kind prefix rest e t (other_type other) p = absurd (other refl)
any_excluded v kind prefix rest e t (in_body {cause} same f) p = malformed_behind v kind prefix rest _ t f p

-- what was read, and the answer to it
pub visits : {S X : Type 0} {is_known : S → Type 0} {left : S → List ℕ} {failures : S → Failures} (old new : StoreReader S) (kind : ValueType) (answers : Leaf → Result X DeserializeError → Type 0) (result : Result X DeserializeError) (read : Result Leaf DeserializeError)
    → ReadsIf StoreMayStop is_known left failures old (record new { has_failed = is_err read }) read (EncodesLeaf (version_of old.version) kind (λ l. l)) (LeafRefused kind (version_of old.version) kind) → Answered answers read result → VisitsBy is_known left failures old new kind answers result
visits old new kind answers result read h a =
    let v = version_of old.version in
    record {
      read = read;
      reads = h;
      only = only_by (IsLeafOf (λ l. l)) v (type_prefix kind) (LeafRefused kind v kind) (λ prefix rest e t x r p same. any_excluded v kind prefix rest e t r p) (leaf_deserializes (λ l. l) v kind h);
      answered = a;
    }

single_is : (t : Tree) → IsSingle t → t ≡ leaf (single_leaf t)
single_is (leaf l) h = refl
single_is (array ts) h = absurd h
single_is (object es) h = absurd h

-- the value that was taken is a leaf, or none was taken
pub leaf_taken : {P : Type 0} {is_known : P → Type 0} {left : P → List ℕ} {count : P → ℕ} {failures : P → Failures} {old new : P} {value : OwnedValue} {reading : List ℕ → Result (Tree × List ℕ) (Cause × List ℕ)}
    → IsSingle (owned_tree value) → Takes read_stop MayStop is_known left count failures old new owned_tree (Ok value) reading → Takes read_stop MayStop is_known left count failures old new leaf (Ok (single_leaf (owned_tree value))) reading
leaf_taken {value = value} single h = record {
  gives = λ told taken joined behind. h.gives told taken joined behind ∙ ap (λ t. Ok (t, behind)) (single_is (owned_tree value) single);
  taken = h.taken;
  stays_known = h.stays_known;
  counts = h.counts;
  count_grows = h.count_grows;
  may_stop = tt;
}

pub none_taken : {P : Type 0} {is_known : P → Type 0} {left : P → List ℕ} {count : P → ℕ} {failures : P → Failures} {old new : P} {e : ReadError} {reading : List ℕ → Result (Tree × List ℕ) (Cause × List ℕ)}
    → Takes {X = OwnedValue} read_stop MayStop is_known left count failures old new owned_tree (Err e) reading → Takes read_stop MayStop is_known left count failures old new leaf (Err e) reading
none_taken h = record { gives = h.gives; taken = h.taken; stays_known = h.stays_known; counts = h.counts; count_grows = h.count_grows; may_stop = h.may_stop }

-- a leaf was taken, and this is the answer to it
pub leaf_visits : {S X : Type 0} {is_known : S → Type 0} {left : S → List ℕ} {failures : S → Failures} (old new : StoreReader S) (kind : ValueType) (answers : Leaf → Result X DeserializeError → Type 0) (result : Result X DeserializeError) (answer : Result Leaf ReadError)
    → ((source : S) → is_known source → AllBytes (left source)) → is_leaf_type kind ≡ true → old.has_failed ≡ false → TakesIf MayStop is_known left failures old.source old.count new.source new.count leaf answer (leaf_at (version_of old.version) kind)
    → new.version ≡ old.version → new.levels ≡ old.levels → Answered answers (raised answer) result → VisitsBy is_known left failures old new kind answers result
leaf_visits old new kind answers result answer are_bytes is_leaf is_open part version levels answered =
    let v = version_of old.version in
    let read = raised answer in
    visits old new kind answers result read
    (leaf_reads old old (record new { has_failed = is_err read }) read v kind kind (λ l. l) are_bytes (leaf_agrees v kind) (λ a x p. p) (λ w c f. f) is_leaf refl is_open refl refl refl refl part refl refl version levels refl refl)
    answered

-- ---- arrays and objects

-- their number is refused
pub items_refused : {S X : Type 0} {is_known : S → Type 0} {left : S → List ℕ} {failures : S → Failures} {old new : StoreReader S} {collection : ValueType} {total : ℕ → ℕ} {Made : ℕ → List ℕ → X → Type 0} {Refused : ℕ → List ℕ → DeserializeError → Type 0} {kind : ValueType} (e : DeserializeError)
    → ReadsIf {X = ℕ} StoreMayStop is_known left failures old new (Err e) (Length collection total kind) (LengthRefused collection total kind) → VisitsItemsBy is_known left failures old new collection total Made Refused kind (Err e)
items_refused {new = new} e h = record { behind_number = new; announced = Err e; reads = h; handed = (refl, refl) }

-- it was read, and this many values were handed on
pub items_visited : {S X : Type 0} {is_known : S → Type 0} {left : S → List ℕ} {failures : S → Failures} {old mid new : StoreReader S} {collection : ValueType} {total : ℕ → ℕ} {n : ℕ} {kind : ValueType} {result : Result X DeserializeError} (Made : Version → ℕ → List ℕ → X → Type 0) (Refused : Version → ℕ → List ℕ → DeserializeError → Type 0)
    → ReadsIf StoreMayStop is_known left failures old mid (Ok n) (Length collection total kind) (LengthRefused collection total kind) → DeserializesBy is_known left failures mid new result (Made (version_of mid.version) n) (Refused (version_of mid.version) n)
    → VisitsItemsBy is_known left failures old new collection total (Made (version_of old.version)) (Refused (version_of old.version)) kind result
items_visited {old = old} {mid = mid} {n = n} Made Refused h handed =
    record { behind_number = mid; announced = Ok n; reads = h; handed = at_version (λ v. Made v n) (λ v. Refused v n) old.version h.same_version handed }

-- what the visitor refused was marked
pub visits_marked : {S X : Type 0} {is_known : S → Type 0} {left : S → List ℕ} {failures : S → Failures} {old new : StoreReader S} {kind : ValueType} {answers : Leaf → Result X DeserializeError → Type 0} {result : Result X DeserializeError} (has_failed : Bool)
    → VisitsBy is_known left failures old new kind answers result → VisitsBy is_known left failures old (record new { has_failed = has_failed }) kind answers result
visits_marked has_failed h = record { read = h.read; reads = h.reads; only = h.only; answered = h.answered }

handed_marked : {S X : Type 0} (is_known : S → Type 0) (left : S → List ℕ) (failures : S → Failures) (mid new : StoreReader S) (Made : ℕ → List ℕ → X → Type 0) (Refused : ℕ → List ℕ → DeserializeError → Type 0) (announced : Result ℕ DeserializeError) (result : Result X DeserializeError) (has_failed : Bool)
    → has_failed ≡ is_err result → mid.has_failed ≡ is_err announced → Handed is_known left failures mid new Made Refused announced result → Handed is_known left failures mid (record new { has_failed = has_failed }) Made Refused announced result
handed_marked is_known left failures mid new Made Refused (Ok n) result has_failed told marks h = goes_told has_failed told h
handed_marked {S} is_known left failures mid new Made Refused (Err d) result has_failed told marks h =
    (h.0, ap (λ (r : StoreReader S). record r { has_failed = has_failed }) h.1 ∙ ap (λ b. record mid { has_failed = b }) (told ∙ ap is_err h.0 ∙ sym marks))

pub items_marked : {S X : Type 0} {is_known : S → Type 0} {left : S → List ℕ} {failures : S → Failures} {old new : StoreReader S} {collection : ValueType} {total : ℕ → ℕ} {Made : ℕ → List ℕ → X → Type 0} {Refused : ℕ → List ℕ → DeserializeError → Type 0} {kind : ValueType} {result : Result X DeserializeError} (has_failed : Bool) → has_failed ≡ is_err result
    → VisitsItemsBy is_known left failures old new collection total Made Refused kind result → VisitsItemsBy is_known left failures old (record new { has_failed = has_failed }) collection total Made Refused kind result
items_marked {is_known = is_known} {left = left} {failures = failures} {new = new} {Made = Made} {Refused = Refused} {result = result} has_failed told h =
    record { behind_number = h.behind_number; announced = h.announced; reads = h.reads; handed = handed_marked is_known left failures h.behind_number new Made Refused h.announced result has_failed told h.reads.marks_failure h.handed }

-- the number, and what was made of the values, as one
handed_deserialize : {S X : Type 0} (is_known : S → Type 0) (left : S → List ℕ) (failures : S → Failures) (old mid new : StoreReader S) (collection : ValueType) (total : ℕ → ℕ) (Made : ℕ → List ℕ → X → Type 0) (Refused : ℕ → List ℕ → DeserializeError → Type 0) (kind : ValueType) (announced : Result ℕ DeserializeError) (result : Result X DeserializeError)
    → ReadsIf StoreMayStop is_known left failures old mid announced (Length collection total kind) (LengthRefused collection total kind) → Handed is_known left failures mid new Made Refused announced result
    → DeserializesBy is_known left failures old new result (EncodesVisited collection total Made kind) (VisitRefused collection total Refused kind)
handed_deserialize is_known left failures old mid new collection total Made Refused kind (Ok n) result p h =
    goes_then (EncodesVisited collection total Made kind) (VisitRefused collection total Refused kind) (λ a b x r s. (n, record { prefix = a; rest = b; joined = refl; first = r; second = s }))
    (λ a w e r f. inr (n, record { prefix = a; rest = w; joined = refl; first = r; second = f }))
    (λ a f r _ _ start byte last. inl (in_length r.0 (number_early a (total n) r.1 start byte last)))
    (deserializes (Length collection total kind) (λ b k q. q) p) h
handed_deserialize {S} is_known left failures old mid new collection total Made Refused kind (Err e) result p h =
    subst (λ r. DeserializesBy is_known left failures old new r (EncodesVisited collection total Made kind) (VisitRefused collection total Refused kind)) (sym h.0)
    (subst (λ (m : StoreReader S). DeserializesBy is_known left failures old m (Err e) (EncodesVisited collection total Made kind) (VisitRefused collection total Refused kind)) (sym h.1)
    (goes_fails (EncodesVisited collection total Made kind) (VisitRefused collection total Refused kind) (λ w c f. inl f) (deserializes (Length collection total kind) (λ b k q. q) p)))

pub items_deserialize : {S X : Type 0} {is_known : S → Type 0} {left : S → List ℕ} {failures : S → Failures} {old new : StoreReader S} {collection : ValueType} {total : ℕ → ℕ} {Made : ℕ → List ℕ → X → Type 0} {Refused : ℕ → List ℕ → DeserializeError → Type 0} {kind : ValueType} {result : Result X DeserializeError}
    → VisitsItemsBy is_known left failures old new collection total Made Refused kind result → DeserializesBy is_known left failures old new result (EncodesVisited collection total Made kind) (VisitRefused collection total Refused kind)
items_deserialize {is_known = is_known} {left = left} {failures = failures} {old = old} {new = new} {collection = collection} {total = total} {Made = Made} {Refused = Refused} {kind = kind} {result = result} h =
    handed_deserialize is_known left failures old h.behind_number new collection total Made Refused kind h.announced result h.reads h.handed

-- ---- legacy objects

-- the code of an object in an encoding, and its entries
pub next_visited : {S X : Type 0} {is_known : S → Type 0} {left : S → List ℕ} {failures : S → Failures} {old mid new : StoreReader S} {kind : ValueType} {result : Result X DeserializeError} (Made : Version → ℕ → List ℕ → X → Type 0) (Refused : Version → ℕ → List ℕ → DeserializeError → Type 0) → old.version ≡ stores.V2
    → ReadsIf StoreMayStop is_known left failures old mid (Ok kind) IsCoded CodeRefused → VisitsItemsBy is_known left failures mid new types.Object (entry_total (version_of mid.version)) (Made (version_of mid.version)) (Refused (version_of mid.version)) kind result
    → DeserializesBy is_known left failures old new result (EncodesNextVisited (Made V2)) (NextVisitRefused (Refused V2))
next_visited {is_known = is_known} {left = left} {failures = failures} {mid = mid} {new = new} {kind = kind} {result = result} Made Refused second p h =
    goes_then (EncodesNextVisited (Made V2)) (NextVisitRefused (Refused V2)) (λ a b x r s. (kind, record { prefix = a; rest = b; joined = refl; first = r; second = s }))
    (λ a w c r f. inr (kind, record { prefix = a; rest = w; joined = refl; first = r; second = f }))
    (λ a f code _ _ start byte last. kind_edge end (NextVisitRefused (Refused V2)) (inl (in_code no_code)) (inl (in_code no_extension_code)) kind start byte (sym code ∙ last))
    (deserializes IsCoded (λ b k c. c) p)
    (subst (λ z. DeserializesBy is_known left failures mid new result (EncodesVisited types.Object (entry_total (version_of z)) (Made (version_of z)) kind) (VisitRefused types.Object (entry_total (version_of z)) (Refused (version_of z)) kind)) (p.same_version ∙ second) (items_deserialize h))

pub next_visit_fails : {S X : Type 0} {is_known : S → Type 0} {left : S → List ℕ} {failures : S → Failures} {old new : StoreReader S} {e : DeserializeError} (Made : ℕ → List ℕ → X → Type 0) (Refused : ℕ → List ℕ → DeserializeError → Type 0)
    → ReadsIf {X = ValueType} StoreMayStop is_known left failures old new (Err e) IsCoded CodeRefused → DeserializesBy {X = X} is_known left failures old new (Err e) (EncodesNextVisited Made) (NextVisitRefused Refused)
next_visit_fails Made Refused p = goes_fails (EncodesNextVisited Made) (NextVisitRefused Refused) (λ w c f. inl f) (deserializes IsCoded (λ b k c. c) p)

-- what the visitor refused was marked
pub legacy_marked : {S X : Type 0} {is_known : S → Type 0} {left : S → List ℕ} {failures : S → Failures} {old new : StoreReader S} {Made : ℕ → List ℕ → X → Type 0} {Refused : ℕ → List ℕ → DeserializeError → Type 0} {result : Result X DeserializeError} (has_failed : Bool)
    → VisitsLegacyBy is_known left failures old new Made Refused result → VisitsLegacyBy is_known left failures old (record new { has_failed = has_failed }) Made Refused result
legacy_marked has_failed h = record { behind_object = h.behind_object; read = h.read; reads = h.reads; gives = h.gives; same_source = h.same_source; same_count = h.same_count; same_version = h.same_version; same_levels = h.same_levels }

-- the object was refused
pub legacy_refused : {S X : Type 0} {is_known : S → Type 0} {left : S → List ℕ} {failures : S → Failures} {old new : StoreReader S} {Made : ℕ → List ℕ → X → Type 0} {Refused : ℕ → List ℕ → DeserializeError → Type 0} (e : DeserializeError)
    → ReadsIf {X = OwnedValue} StoreMayStop is_known left failures old new (Err e) (EncodesBehind (version_of old.version) types.JSONObject) (TreeRefused (version_of old.version) types.JSONObject) → VisitsLegacyBy is_known left failures old new Made Refused (Err e)
legacy_refused {new = new} e h = record { behind_object = new; read = Err e; reads = h; gives = refl; same_source = refl; same_count = refl; same_version = refl; same_levels = refl }

-- it was read
pub legacy_visited : {S X : Type 0} {is_known : S → Type 0} {left : S → List ℕ} {failures : S → Failures} {old new : StoreReader S} {Made : ℕ → List ℕ → X → Type 0} {Refused : ℕ → List ℕ → DeserializeError → Type 0} (tree : OwnedValue) (result : Result X DeserializeError)
    → ReadsIf StoreMayStop is_known left failures old new (Ok tree) (EncodesBehind (version_of old.version) types.JSONObject) (TreeRefused (version_of old.version) types.JSONObject) → OfEncoding (EncodesNextVisited Made) (NextVisitRefused Refused) (short V2 (owned_tree tree)) result
    → VisitsLegacyBy is_known left failures old new Made Refused result
legacy_visited {new = new} tree result h made = record { behind_object = new; read = Ok tree; reads = h; gives = made; same_source = refl; same_count = refl; same_version = refl; same_levels = refl }

-- ---- failed reads

-- an error that is reported in the same words
told_as : {X : Type 0} (e : DeserializeError) (result : Result X DeserializeError) (f g : Failures) → CountsStop (typed_stop e) f g → result ≡ Err e → Counts typed_stop result f g
told_as e result f g h is = subst (λ r. Counts typed_stop r f g) (sym is) h

leaf_counts : {X : Type 0} (answers : Leaf → Result X DeserializeError → Type 0) (read : Result Leaf DeserializeError) (result : Result X DeserializeError) (f g : Failures) → ((l : Leaf) (r : Result X DeserializeError) → answers l r → TellsNoFailure r)
    → Counts typed_stop read f g → Answered answers read result → Counts typed_stop result f g
leaf_counts answers (Ok l) result f g calm h a = subst (λ z. Counts typed_stop result f z) (sym h) (calm l result a f)
leaf_counts answers (Err e) result f g calm h a = told_as e result f g h a

pub visits_count : {S X : Type 0} {is_known : S → Type 0} {left : S → List ℕ} {failures : S → Failures} {old new : StoreReader S} {kind : ValueType} {answers : Leaf → Result X DeserializeError → Type 0} {result : Result X DeserializeError}
    → ((l : Leaf) (r : Result X DeserializeError) → answers l r → TellsNoFailure r) → old.has_failed ≡ false → VisitsBy is_known left failures old new kind answers result → Counts typed_stop result (failures old.source) (failures new.source)
visits_count {failures = failures} {old = old} {new = new} {answers = answers} {result = result} calm is_open h = leaf_counts answers h.read result (failures old.source) (failures new.source) calm (h.reads.finds is_open).counts h.answered

handed_counts : {S X : Type 0} (is_known : S → Type 0) (left : S → List ℕ) (failures : S → Failures) (old mid new : StoreReader S) (Made : ℕ → List ℕ → X → Type 0) (Refused : ℕ → List ℕ → DeserializeError → Type 0) (announced : Result ℕ DeserializeError) (result : Result X DeserializeError)
    → mid.has_failed ≡ is_err announced → Counts typed_stop announced (failures old.source) (failures mid.source) → Handed is_known left failures mid new Made Refused announced result → Counts typed_stop result (failures old.source) (failures new.source)
handed_counts is_known left failures old mid new Made Refused (Ok n) result is_open counts h = subst (λ f. Counts typed_stop result f (failures new.source)) counts (h.counts is_open)
handed_counts {S} is_known left failures old mid new Made Refused (Err e) result is_open counts h =
    subst (λ (r : StoreReader S). Counts typed_stop result (failures old.source) (failures r.source)) (sym h.1) (told_as e result (failures old.source) (failures mid.source) counts h.0)

pub items_count : {S X : Type 0} {is_known : S → Type 0} {left : S → List ℕ} {failures : S → Failures} {old new : StoreReader S} {collection : ValueType} {total : ℕ → ℕ} {Made : ℕ → List ℕ → X → Type 0} {Refused : ℕ → List ℕ → DeserializeError → Type 0} {kind : ValueType} {result : Result X DeserializeError}
    → old.has_failed ≡ false → VisitsItemsBy is_known left failures old new collection total Made Refused kind result → Counts typed_stop result (failures old.source) (failures new.source)
items_count {is_known = is_known} {left = left} {failures = failures} {old = old} {new = new} {Made = Made} {Refused = Refused} {result = result} is_open h =
    handed_counts is_known left failures old h.behind_number new Made Refused h.announced result h.reads.marks_failure (h.reads.finds is_open).counts h.handed

legacy_counts : {X : Type 0} (Made : ℕ → List ℕ → X → Type 0) (Refused : ℕ → List ℕ → DeserializeError → Type 0) (read : Result OwnedValue DeserializeError) (result : Result X DeserializeError) (f g : Failures) → Counts typed_stop read f g → GivesEntries Made Refused read result → Counts typed_stop result f g
legacy_counts Made Refused (Ok tree) result f g h made =
    subst (λ z. Counts typed_stop result f z) (sym h) (counts_here (EncodesNextVisited Made) (NextVisitRefused Refused) (short V2 (owned_tree tree)) result f made)
legacy_counts Made Refused (Err e) result f g h is = told_as e result f g h is

pub legacy_count : {S X : Type 0} {is_known : S → Type 0} {left : S → List ℕ} {failures : S → Failures} {old new : StoreReader S} {Made : ℕ → List ℕ → X → Type 0} {Refused : ℕ → List ℕ → DeserializeError → Type 0} {result : Result X DeserializeError}
    → old.has_failed ≡ false → VisitsLegacyBy is_known left failures old new Made Refused result → Counts typed_stop result (failures old.source) (failures new.source)
legacy_count {failures = failures} {old = old} {new = new} {Made = Made} {Refused = Refused} {result = result} is_open h =
    subst (λ z. Counts typed_stop result (failures old.source) (failures z)) (sym h.same_source) (legacy_counts Made Refused h.read result (failures old.source) (failures h.behind_object.source) (h.reads.finds is_open).counts h.gives)

-- ---- a value of any type

module _ {S X : Type 0} {is_known : S → Type 0} {left : S → List ℕ} {failures : S → Failures} {kind : ValueType} {answers : Leaf → Result X DeserializeError → Type 0} {of_array : Version → ℕ → List ℕ → X → Type 0} {array_refused : Version → ℕ → List ℕ → DeserializeError → Type 0} {of_object : Version → ℕ → List ℕ → X → Type 0} {object_refused : Version → ℕ → List ℕ → DeserializeError → Type 0} {old new : StoreReader S} {result : Result X DeserializeError} where
  pub any_array : kind ≡ types.Array → VisitsItemsBy is_known left failures old new types.Array element_total (of_array (version_of old.version)) (array_refused (version_of old.version)) kind result → VisitsKindBy is_known left failures kind answers of_array array_refused of_object object_refused old new result
  any_array is h = record { leaf = λ p. let e = ap is_leaf_type is in absurd cc; array = λ p. h; object = λ p. absurd cc; legacy = λ p. absurd cc; counts = λ is_open. items_count is_open h }

  pub any_object : kind ≡ types.Object → VisitsItemsBy is_known left failures old new types.Object (entry_total (version_of old.version)) (of_object (version_of old.version)) (object_refused (version_of old.version)) kind result → VisitsKindBy is_known left failures kind answers of_array array_refused of_object object_refused old new result
  any_object is h = record { leaf = λ p. let e = ap is_leaf_type is in absurd cc; array = λ p. absurd cc; object = λ p. h; legacy = λ p. absurd cc; counts = λ is_open. items_count is_open h }

  pub any_legacy : kind ≡ types.JSONObject → VisitsLegacyBy is_known left failures old new (of_object V2) (object_refused V2) result → VisitsKindBy is_known left failures kind answers of_array array_refused of_object object_refused old new result
  any_legacy is h = record { leaf = λ p. let e = ap is_leaf_type is in absurd cc; array = λ p. absurd cc; object = λ p. absurd cc; legacy = λ p. h; counts = λ is_open. legacy_count is_open h }

  pub any_leaf : ((l : Leaf) (r : Result X DeserializeError) → answers l r → TellsNoFailure r) → kind ≢ types.Array → kind ≢ types.Object → kind ≢ types.JSONObject → VisitsBy is_known left failures old new kind answers result → VisitsKindBy is_known left failures kind answers of_array array_refused of_object object_refused old new result
  any_leaf calm no_array no_object no_legacy h =
      record { leaf = λ p. h; array = λ p. absurd (no_array p); object = λ p. absurd (no_object p); legacy = λ p. absurd (no_legacy p); counts = λ is_open. visits_count calm is_open h }

  -- what the visitor refused was marked
  pub any_marked : (has_failed : Bool) → has_failed ≡ is_err result → VisitsKindBy is_known left failures kind answers of_array array_refused of_object object_refused old new result → VisitsKindBy is_known left failures kind answers of_array array_refused of_object object_refused old (record new { has_failed = has_failed }) result
  any_marked has_failed told h =
      record { leaf = λ p. visits_marked has_failed (h.leaf p); array = λ p. items_marked has_failed told (h.array p); object = λ p. items_marked has_failed told (h.object p); legacy = λ p. legacy_marked has_failed (h.legacy p); counts = h.counts }
