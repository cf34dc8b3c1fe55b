-- Steps that make a document.
use Rattle.std.proofs.Common.{◌≡◌, ◌≢◌, ℕ, ◌+◌, ◌-◌, ◌^◌, ◌%◌, ◌<◌, ◌≤◌, nat_eq, Bool, List, [], ◌∷◌, ◌++◌, length, Option, Some, None, Result, Ok, Err, refl, sym, ◌∙◌, ap, subst, append-nil, append_assoc, length-append, arith, inl, inr}
use Rattle.std.proofs.lemmas.Bool.Decides.{eqb_tells}
use Rattle.std.proofs.lemmas.Bool.{cond-true, cond-false}
use Rattle.tv_base.specs.declared.cause.Cause.TheVariants as causes
use Rattle.tv_base.specs.Number.{VNum}
use Rattle.tv_base.specs.ErrorInPart.{ErrorInNumber, number_ends, bytes_end}
use Rattle.tv_base.specs.Parts.{Each}
use Rattle.tv_base.specs.ReadsAs.{EndsEarly}
use Rattle.tv_base.specs.Source.{Failures}
use Rattle.tv_builder.specs.declared.kinds.Awaits.TheVariants as awaits
use Rattle.tv_builder.specs.declared.kinds.ListKind.{ListKind}
use Rattle.tv_builder.specs.declared.kinds.ListKind.TheVariants.{Array, Object}
use Rattle.tv_builder.specs.Behind.{pairs_parts, document_parts}
use Rattle.tv_builder.specs.Prefix.{EncodesPart, Encoded}
use Rattle.tv_builder.specs.State.{State, complete, in_lists, in_bytes, next_at, next_in, awaited}
use Rattle.tv_builder.specs.declared.heap_pairs.HeapPairs.{HeapPairs}
use Rattle.tv_builder.specs.HeldPairs.{document_of}
use Rattle.tv_builder.specs.Builder.{built, state_of}
use Rattle.tv_reader.specs.Legacy.{Legacy, ErrorInLegacy}
use Rattle.tv_reader.proofs.UniqueLegacy.{one_legacy, legacy_excludes, single_legacy}
use Rattle.tv_reader.specs.Finds.{FindsIf, Nothing}
use Rattle.tv_reader.specs.declared.error.DeserializeError.{DeserializeError}
use Rattle.tv_reader.specs.declared.error.DeserializeError.TheVariants as errors
use Rattle.tv_reader.proofs.Finding.{finds_then, finds_as, finds_fails}
use Rattle.tv_format.specs.InputError.{Refusal, corrupted, Corrupt, corrupt, ErrorInDocument, value_ends}
use Rattle.tv_format.specs.Encoding.{EncodesPair, EncodesDocument}
use Rattle.tv_format.specs.Tree.{Document}
use Rattle.tv_format.specs.Version.{Version}
use Rattle.tv_format.proofs.SingleTrees.{single_document}
use Rattle.tv_reading.specs.Buffered.{AddsBufferedPairs}
use Rattle.tv_reading.specs.Documents.{EncodesRead, EncodesRest, NoDocument}
use Rattle.tv_reading.specs.Prefix.{parts_at, parts_read, IsBetweenParts, IsPlace, IsSound, AllFinished, IsDone, LacksPair, HasField, IsMalformedNext, HasNoRoom, NoRoomBehind}
use Rattle.tv_reading.specs.Steps.{Advances, Stepped}
use Rattle.tv_reading.specs.declared.reading.Reading.{Reading}
use Rattle.tv_reading.proofs.BufferedPairs.{pairs_as_parts}
use Rattle.tv_reading.proofs.WithErrors.{number_at_error, field_at_error, value_at_error, key_at_error, end_at_error}
use Rattle.tv_reader.specs.Error.{StoreMayStop, StoreMayStopLean}
use Rattle.tv_reader.proofs.TreeSteps.{no_key}

abbrev end : Refusal
end = corrupted causes.UnexpectedEnd

-- ---- all pairs are finished

pairs_encode : (v : Version) (d : Document) (b : List ℕ) → Each (EncodesPart Legacy v) b (pairs_parts d) → Each (EncodesPair Legacy v) b d
pairs_encode v [] b h = h
pairs_encode v (p ∷ d) b h = record { prefix = h.prefix; rest = h.rest; joined = h.joined; first = h.first; second = pairs_encode v d h.rest h.second }

done_at : (v : Version) (a f : Option ℕ) (d : Document) (s : State) (finished : ℕ) (b : List ℕ) → finished ≡ length d → IsPlace a d f s → AllFinished a finished → Encoded Legacy v b (parts_at a d f s) → EncodesDocument Legacy v b d
done_at v None f d s finished b counted h done p = absurd done
done_at v (Some n) None d s finished b counted h done p =
    let many : n ≡ length d = sym done ∙ counted in
    record { prefix = p.prefix; rest = p.rest; joined = p.joined; first = subst (λ z. VNum p.prefix z) many p.first; second = pairs_encode v d p.rest p.second }
done_at v (Some n) (Some f) d s finished b counted h done p = absurd (omega (arith, h.0, done, counted))

pub done_encodes : (v : Version) (r : Reading) (document : HeapPairs) (b : List ℕ) → IsSound r → IsDone r → document_of document ≡ built r.builder → Encoded Legacy v b (parts_read r) → EncodesRead v b document
done_encodes v r document b sound done is p = subst (λ d. EncodesDocument Legacy v b d) (sym is) (done_at v r.announced r.field (built r.builder) (state_of r.builder) r.finished b sound.counted sound.place done p)

-- ---- at the end of the bytes more is awaited

pair_lacks : (a : Option ℕ) (d : Document) (finished : ℕ) (s : State) → finished ≡ length d → IsPlace a d None s → ¬ AllFinished a finished → a ≢ None → LacksPair a finished
pair_lacks None d finished s counted h more some = absurd (some refl)
pair_lacks (Some n) d finished s counted h more some = elim (eqb_tells finished n) [ inl p ↦ absurd (more p.1) | inr p ↦ omega (arith, p.1, counted, h.0) ]

value_ended_at : (v : Version) (r : Reading) → IsSound r → HasField r.field → (s : State) → state_of r.builder ≡ s → IsBetweenParts s → IsMalformedNext v r [] end
value_ended_at v r sound has (complete t) is lacks = absurd lacks
value_ended_at v r sound has (in_lists []) is lacks = value_at_error v r [] end (record { sound = sound; field = has; next = ap awaited is }) value_ends
value_ended_at v r sound has (in_lists (l ∷ ls)) is lacks = by_next l.kind refl
  where
    a_value : next_in (l ∷ ls) ≡ awaits.Value → IsMalformedNext v r [] end
    a_value e = value_at_error v r [] end (record { sound = sound; field = has; next = ap awaited is ∙ e }) value_ends

    a_key : next_in (l ∷ ls) ≡ awaits.Key → IsMalformedNext v r [] end
    a_key e = key_at_error v r [] end (record { sound = sound; field = has; next = ap awaited is ∙ e }) (no_key v)

    by_next : (kind : ListKind) → l.kind ≡ kind → IsMalformedNext v r [] end
    by_next Array e = a_value (ap (λ z. next_at z (length l.children)) e)
    by_next Object e = elim (eqb_tells (length l.children % 2) 0) [
      | inl p ↦ a_key (ap (λ z. next_at z (length l.children)) e ∙ cond-true (nat_eq (length l.children % 2) 0) awaits.Key awaits.Value p.0)
      | inr p ↦ a_value (ap (λ z. next_at z (length l.children)) e ∙ cond-false (nat_eq (length l.children % 2) 0) awaits.Key awaits.Value p.0)
    ]
value_ended_at v r sound has (in_bytes ls kind n bs) is lacks = end_at_error v r [] (n - length bs) (record { sound = sound; field = has; next = ap awaited is }) (omega (arith, lacks))

ended_at : (v : Version) (r : Reading) → IsSound r → ¬ IsDone r → (a f : Option ℕ) → r.announced ≡ a → r.field ≡ f → IsMalformedNext v r [] end
ended_at v r sound more None f ea ef = number_at_error v r [] end ea (corrupt (number_ends (omega arith) tt))
ended_at v r sound more (Some n) None ea ef =
    let place = subst (λ z. IsPlace r.announced (built r.builder) z (state_of r.builder)) ef sound.place in
    let some : r.announced ≢ None = λ e. (let g : Some n ≡ None = sym ea ∙ e in cc) in
    field_at_error v r [] end sound ef (pair_lacks r.announced (built r.builder) r.finished (state_of r.builder) sound.counted place more some) (corrupt (bytes_end (omega arith)))
ended_at v r sound more (Some n) (Some f) ea ef =
    let place = subst (λ z. IsPlace z (built r.builder) (Some f) (state_of r.builder)) ea (subst (λ z. IsPlace r.announced (built r.builder) z (state_of r.builder)) ef sound.place) in
    value_ended_at v r sound (subst HasField (sym ef) tt) (state_of r.builder) refl place.1

-- without a byte more, only the end is missing
pub ended : (v : Version) (r : Reading) (b : List ℕ) (f : Refusal) → IsSound r → ¬ IsDone r → Encoded Legacy v b (parts_read r) → IsMalformedNext v r [] f → f ≡ end
ended v r b f sound more p h = (single_document Legacy ErrorInLegacy v one_legacy legacy_excludes single_legacy).single (b ++ []) f end (h b p) (ended_at v r sound more r.announced r.field refl refl b p)

-- ---- steps, one after the other

abbrev pub Goes : Version → Reading → List ℕ → Reading → Type 0
Goes v begun b r = Advances Legacy v begun r b

pub two_steps : (v : Version) (a b c : Reading) (x y : List ℕ) → Advances Legacy v a b x → Advances Legacy v b c y → Advances Legacy v a c (x ++ y)
two_steps v a b c x y p q = λ bytes s. subst (λ z. Encoded Legacy v z (parts_read c)) (append_assoc bytes x y) (q (bytes ++ x) (p bytes s))

refused_behind : (v : Version) (a b : Reading) (x w : List ℕ) (f : Refusal) → Advances Legacy v a b x → IsMalformedNext v b w f → IsMalformedNext v a (x ++ w) f
refused_behind v a b x w f p q = λ bytes s. subst (λ z. ErrorInDocument Legacy ErrorInLegacy v z f) (append_assoc bytes x w) (q (bytes ++ x) (p bytes s))

module _ {S : Type 0} {is_known : S → Type 0} {left : S → List ℕ} {failures : S → Failures} (v : Version) (begun r : Reading) where
  pub step_more : {old mid new : S} {i j k : ℕ} (x : Unit {0}) (legacy : Bool) (after : Reading) → FindsIf StoreMayStop is_known left failures old i mid j (Ok r) (Goes v begun) Nothing → FindsIf StoreMayStop is_known left failures mid j new k (Ok x) (λ b _. Stepped v legacy r after b) (IsMalformedNext v r) → FindsIf StoreMayStop is_known left failures old i new k (Ok after) (Goes v begun) Nothing
  step_more x legacy after p h =
      finds_as after (Goes v begun) Nothing (λ a s. s)
      (finds_then (λ b z. Goes v begun b after) (λ w c. Unit {0}) (λ a b z q s. two_steps v begun r after a b q s.goes) (λ a w c q f. tt) (λ a f q _ _ start byte last. tt) p h)

  pub step_fails : {old mid new : S} {i j k : ℕ} (e : DeserializeError) (legacy : Bool) (after : Reading) → IsSound r → ¬ IsDone r → FindsIf StoreMayStop is_known left failures old i mid j (Ok r) (Goes v begun) Nothing → FindsIf {X = Unit {0}} StoreMayStop is_known left failures mid j new k (Err e) (λ b _. Stepped v legacy r after b) (IsMalformedNext v r)
      → FindsIf StoreMayStop is_known left failures old i new k (Err e) (EncodesRest v begun) (IsMalformedNext v begun)
  step_fails e legacy after sound more p h =
      finds_then (EncodesRest v begun) (IsMalformedNext v begun) (λ a b z q s. absurd s) (λ a w c q f. refused_behind v begun r a w c q f) (λ a f q other nothing start byte last. λ bytes s. absurd (other (ended v r (bytes ++ a) f sound more (q bytes s) nothing)))
      p (finds_fails (λ b z. ⊥) (IsMalformedNext v r) (λ w c f. f) h)

  -- and takes a byte
  pub step_takes : {mid new : S} {j k : ℕ} (x : Unit {0}) (legacy : Bool) (after : Reading) → FindsIf StoreMayStop is_known left failures mid j new k (Ok x) (λ b _. Stepped v legacy r after b) (IsMalformedNext v r) → is_known mid → j < k
  step_takes {mid = mid} {new = new} x legacy after h t =
      let f = h.found t in
      let g = h.taken t in
      omega (arith, f.encoded.some, g.counted, ap length f.joined, ap length g.joined, length-append f.prefix (left new), length-append g.prefix (left new))

  -- buffered pairs after them
  pub pairs_more : {old mid new : S} {i j k : ℕ} (after : Reading) → FindsIf StoreMayStop is_known left failures old i mid j (Ok r) (Goes v begun) Nothing → FindsIf StoreMayStop is_known left failures mid j new k (Ok after) (λ b z. Advances Legacy v r z b) Nothing → FindsIf StoreMayStop is_known left failures old i new k (Ok after) (Goes v begun) Nothing
  pairs_more after p h = finds_then (Goes v begun) Nothing (λ a b z q s. two_steps v begun r z a b q s) (λ a w c q f. f) (λ a f q _ none start byte last. none) p h

  -- all pairs are finished
  pub all_finished : {old mid : S} {i j : ℕ} (document : HeapPairs) → IsSound r → IsDone r → document_of document ≡ built r.builder → FindsIf StoreMayStop is_known left failures old i mid j (Ok r) (Goes v begun) Nothing
      → FindsIf StoreMayStop is_known left failures old i mid j (Ok document) (EncodesRest v begun) (IsMalformedNext v begun)
  all_finished document sound done is p = finds_as document (EncodesRest v begun) (IsMalformedNext v begun) (λ a s. λ bytes q. done_encodes v r document (bytes ++ a) sound done is (s bytes q)) p

  -- what has come has no room
  pub no_room : {old mid : S} {i j : ℕ} → FindsIf StoreMayStop is_known left failures old i mid j (Ok r) (Goes v begun) Nothing → is_known old → NoRoomBehind v r (left mid) → NoRoomBehind v begun (left old)
  no_room {old = old} {mid = mid} p t none = λ bytes q.
      let f = p.found t in
      let joined : (bytes ++ f.prefix) ++ left mid ≡ bytes ++ left old = append_assoc bytes f.prefix (left mid) ∙ ap (λ z. bytes ++ z) (sym f.joined) in
      subst (HasNoRoom v) joined (none (bytes ++ f.prefix) (f.encoded bytes q))

  -- more is awaited, so what was taken ends too early
  pub awaits_more : {old mid : S} {i j : ℕ} → IsSound r → ¬ IsDone r → FindsIf StoreMayStop is_known left failures old i mid j (Ok r) (Goes v begun) Nothing → is_known old → EndsEarly end (IsMalformedNext v begun) (left old) (left mid)
  awaits_more sound more p t =
      let f = p.found t in
      let early = refused_behind v begun r f.prefix [] end f.encoded (ended_at v r sound more r.announced r.field refl refl) in
      record { taken = f.prefix; joined = f.joined; shown = subst (λ z. IsMalformedNext v begun z end) (append-nil f.prefix) early }

  -- this many steps that no more can be counted
  pub too_many : {old mid : S} {i j : ℕ} (counter : ℕ) → IsSound r → ¬ IsDone r → j < 2 ^ 64 → 2 ^ 64 - 1 ≤ counter → (is_known old → counter + i ≤ j) → FindsIf StoreMayStop is_known left failures old i mid j (Ok r) (Goes v begun) Nothing
      → FindsIf {X = HeapPairs} StoreMayStop is_known left failures old i mid 18446744073709551615 (Err (errors.CorruptedValue causes.TooLong)) (EncodesRest v begun) (IsMalformedNext v begun)
  too_many counter sound more second many counts p = record {
    found = λ t. (refl, awaits_more sound more p t);
    taken = λ t. let g = p.taken t in record { prefix = g.prefix; joined = g.joined; counted = omega (arith, g.counted, counts t, many, second) };
    stays_known = p.stays_known;
    counts = p.counts;
    count_grows = omega (arith, p.count_grows, second);
    may_stop = refl;
  }

-- ---- the number, and buffered pairs after it

-- after the number these pairs are finished
abbrev Begun : Version → ℕ → HeapPairs → List ℕ → ℕ → Type 0
Begun v n document b finished = Encoded Legacy v b (document_parts n (document_of document)) × (length (document_of document) ≡ finished)

begun_encodes : (v : Version) (n m : ℕ) (empty document : HeapPairs) (a b : List ℕ) → document_of empty ≡ [] → VNum a n → AddsBufferedPairs v empty document b m → Begun v n document (a ++ b) m
begun_encodes v n m empty document a b none number h =
    let is : document_of document ≡ h.pairs = h.document ∙ ap (λ z. z ++ h.pairs) none in
    (record { prefix = a; rest = b; joined = refl; first = number; second = subst (λ z. Each (EncodesPart Legacy v) b (pairs_parts z)) (sym is) (pairs_as_parts Legacy v h.pairs b h.encoded) }, ap length is ∙ h.counted)

module _ {S : Type 0} {is_known : S → Type 0} {left : S → List ℕ} {failures : S → Failures} (v : Version) (n : ℕ) (empty document : HeapPairs) (none : document_of empty ≡ []) where
  pub begun_finds : {old mid new : S} {i j k : ℕ} (m : ℕ) → FindsIf StoreMayStopLean is_known left failures old i mid j (Ok n) VNum (Corrupt ErrorInNumber) → FindsIf StoreMayStop is_known left failures mid j new k (Ok m) (λ b z. AddsBufferedPairs v empty document b z) Nothing → FindsIf StoreMayStop is_known left failures old i new k (Ok m) (Begun v n document) Nothing
  begun_finds m p h = finds_then (Begun v n document) Nothing (λ a b z q s. begun_encodes v n z empty document a b none q s) (λ a w c q f. f) (λ a f q _ never start byte last. never) p h

  -- these are all
  pub begun_ends : {old new : S} {i k : ℕ} (m : ℕ) → m ≡ n → FindsIf StoreMayStop is_known left failures old i new k (Ok m) (Begun v n document) Nothing → FindsIf StoreMayStop is_known left failures old i new k (Ok document) (EncodesRead v) (NoDocument v)
  begun_ends m all p = finds_as document (EncodesRead v) (NoDocument v)
      (λ a s. record { prefix = s.0.prefix; rest = s.0.rest; joined = s.0.joined; first = subst (λ z. VNum s.0.prefix z) (sym (s.1 ∙ all)) s.0.first; second = pairs_encode v (document_of document) s.0.rest s.0.second }) p

  -- and the rest after them
  pub begun_then : {old mid new : S} {i j k : ℕ} (m : ℕ) (begun : Reading) (result : Result HeapPairs DeserializeError) → parts_read begun ≡ document_parts n (document_of document) → FindsIf StoreMayStop is_known left failures old i mid j (Ok m) (Begun v n document) Nothing
      → FindsIf StoreMayStop is_known left failures mid j new k result (EncodesRest v begun) (IsMalformedNext v begun) → IsSound begun → ¬ IsDone begun → FindsIf StoreMayStop is_known left failures old i new k result (EncodesRead v) (NoDocument v)
  begun_then m begun result is p h sound more =
      let encoded : (a : List ℕ) → Encoded Legacy v a (document_parts n (document_of document)) → Encoded Legacy v a (parts_read begun) = λ a q. subst (λ z. Encoded Legacy v a z) (sym is) q in
      finds_then (EncodesRead v) (NoDocument v) (λ a b z q s. s a (encoded a q.0)) (λ a w c q f. f a (encoded a q.0)) (λ a f q other nothing start byte last. absurd (other (ended v begun a f sound more (encoded a q.0) nothing))) p h

  pub begun_no_room : {old mid : S} {i j : ℕ} (m : ℕ) (begun : Reading) → parts_read begun ≡ document_parts n (document_of document) → FindsIf StoreMayStop is_known left failures old i mid j (Ok m) (Begun v n document) Nothing → is_known old → NoRoomBehind v begun (left mid) → HasNoRoom v (left old)
  begun_no_room m begun is p t full =
      let f = p.found t in
      subst (HasNoRoom v) (sym f.joined) (full f.prefix (subst (λ z. Encoded Legacy v f.prefix z) (sym is) f.encoded.0))
