-- One pair after the other, of which the chosen ones are kept.
use Rattle.std.proofs.Common.{◌≡◌, ℕ, zero, suc, ◌<◌, ◌≤◌, Bool, true, false, nat_eq, List, [], ◌∷◌, ◌++◌, length, Result, Ok, Err, refl, sym, ◌∙◌, ap, subst, append_assoc, arith, inl, inr}
use Rattle.std.specs.Prelude.{get_or, take, drop}
use Rattle.std.specs.Int.{w32, from_le_bytes}
use Rattle.std.proofs.lemmas.Bool.{cond-true, cond-false}
use Rattle.std.proofs.lemmas.List.{append-nil, length-take-le}
use Rattle.tv_base.specs.Number.{Fixed}
use Rattle.tv_base.specs.Parts.{Begins, Each}
use Rattle.tv_base.specs.Source.{Failures}
use Rattle.tv_base.specs.declared.cause.Cause.TheVariants.{UnexpectedEnd}
use Rattle.tv_base.proofs.Numbers.{one_fixed}
use Rattle.tv_base.proofs.Widths.{fixed_4}
use Rattle.tv_builder.specs.HeldPairs.{document_of}
use Rattle.tv_builder.specs.declared.heap_pairs.HeapPairs.{HeapPairs}
use Rattle.tv_reader.specs.Legacy.{Legacy, ErrorInLegacy}
use Rattle.tv_format.specs.Encoding.{EncodesPair, NoLegacy}
use Rattle.tv_format.specs.InputError.{Refusal, corrupted, ErrorInPair}
use Rattle.tv_format.specs.Tree.{Tree, Document}
use Rattle.tv_format.specs.Version.{Version}
use Rattle.tv_format.proofs.Prefixes.{begins_cut, small_take}
use Rattle.tv_reader.specs.Error.{StoreMayStop, StoreMayStopRoomy}
use Rattle.tv_reader.specs.Finds.{FindsIf, Nothing}
use Rattle.tv_reader.specs.Trees.{NoValue}
use Rattle.tv_reader.specs.declared.error.DeserializeError.{DeserializeError}
use Rattle.tv_reader.proofs.BehindKinds.{value_ended}
use Rattle.tv_reader.proofs.Finding.{finds_then, finds_as, finds_fails, finds_any}
use Rattle.tv_reader.proofs.TreeSteps.{no_rest}
use Rattle.tv_reading.specs.Skip.{IsValueEncoding}
use Rattle.tv_reading.proofs.Passing.{bytes_ended}
use Rattle.tv_value.specs.declared.field.Field.{Field}
use Rattle.tv_reading.specs.Buffered.{AddsBufferedPairs}
use Rattle.tv_reading.specs.PairValue.{CanStand, FindsValue, FindsNoValue, ValueHasNoRoom}
use Rattle.tv_reading.proofs.BufferedPairs.{pair_with_legacy}
use Rattle.tv_reading.specs.ChosenFields.{is_among, chosen}
use Rattle.tv_reading.specs.ChosenPair.{BeginsAsPair, AddsChosen, AddsIf, FindsPair, FindsNoPair, PairHasNoRoom}

abbrev pub end : Refusal
end = corrupted UnexpectedEnd

-- ---- fields

pub field_stands : (bytes prefix rest : List ℕ) (n : ℕ) → ((i : ℕ) → get_or bytes i 0 < 256) → prefix ≡ take 4 bytes → rest ≡ drop 4 bytes → 4 ≤ length bytes → n ≡ from_le_bytes w32 prefix → Begins (λ b. Fixed 4 b n) bytes rest
field_stands bytes prefix rest n small is after l worth =
    let fixed : Fixed 4 (take 4 bytes) n = subst (Fixed 4 (take 4 bytes)) (sym (worth ∙ ap (from_le_bytes w32) is)) (fixed_4 (take 4 bytes) (length-take-le 4 bytes l) (small_take 4 bytes small)) in
    begins_cut (λ b. Fixed 4 b n) 4 bytes (take 4 bytes) rest refl after fixed

pub field_found : (bytes prefix rest : List ℕ) (n : ℕ) → ((i : ℕ) → get_or bytes i 0 < 256) → prefix ≡ take 4 bytes → rest ≡ drop 4 bytes → 4 ≤ length bytes → n ≡ from_le_bytes w32 prefix → BeginsAsPair bytes n
field_found bytes prefix rest n small is after l worth = (rest, field_stands bytes prefix rest n small is after l worth)

pub chosen-one : (fields : List Field) (pair : ℕ × Tree) → is_among fields pair.0 ≡ true → chosen fields (pair ∷ []) ≡ pair ∷ []
chosen-one fields pair among = cond-true (is_among fields pair.0) (pair ∷ []) [] among

pub chosen-none : (fields : List Field) (pair : ℕ × Tree) → is_among fields pair.0 ≡ false → chosen fields (pair ∷ []) ≡ []
chosen-none fields pair other = cond-false (is_among fields pair.0) (pair ∷ []) [] other

-- pairs of which some are chosen can stand
pub chosen_stand : (v : Version) (fields : List Field) (d : Document) (bytes : List ℕ) → Each (EncodesPair Legacy v) bytes d → CanStand v (chosen fields d)
chosen_stand v fields [] bytes h = ([], refl)
chosen_stand v fields (p ∷ d) bytes h = by_test (chosen_stand v fields d h.rest h.second) (is_among fields p.0) refl
  where
    by_test : CanStand v (chosen fields d) → (b : Bool) → is_among fields p.0 ≡ b → CanStand v (chosen fields (p ∷ d))
    by_test more true e = subst (CanStand v) (sym (cond-true (is_among fields p.0) (p ∷ chosen fields d) (chosen fields d) e)) (h.prefix ++ more.0, record { prefix = h.prefix; rest = more.0; joined = refl; first = h.first; second = more.1 })
    by_test more false e = subst (CanStand v) (sym (cond-false (is_among fields p.0) (p ∷ chosen fields d) (chosen fields d) e)) more

-- ---- a buffered pair

one_buffered : (v : Version) (fields : List Field) (old new : HeapPairs) (number : ℕ) (taken left whole : List ℕ) (pairs : Document) → length pairs ≡ 1 → Each (EncodesPair NoLegacy v) taken pairs → document_of new ≡ document_of old ++ pairs
    → whole ≡ taken ++ left → BeginsAsPair whole number → is_among fields number ≡ true → AddsChosen v fields (document_of old) taken new
one_buffered v fields old new number taken left whole [] many each is joined named among = absurd (omega (arith, many))
one_buffered v fields old new number taken left whole (p ∷ []) many each is joined named among =
    let all : taken ≡ each.prefix = each.joined ∙ ap (λ (z : List ℕ). each.prefix ++ z) each.second ∙ append-nil each.prefix in
    let s = each.first in
    let cut : named.1.prefix ++ named.0 ≡ s.prefix ++ (s.rest ++ left) = sym named.1.joined ∙ joined ∙ ap (λ (z : List ℕ). z ++ left) (all ∙ s.joined) ∙ append_assoc s.prefix s.rest left in
    let same = one_fixed 4 named.1.prefix s.prefix named.0 (s.rest ++ left) number p.0 named.1.encoded s.first cut in
    record {
      pair = p;
      encoded = subst (λ z. EncodesPair Legacy v z p) (sym all) (pair_with_legacy Legacy v p each.prefix s);
      document = is ∙ ap (λ z. document_of old ++ z) (sym (chosen-one fields p (ap (is_among fields) (sym same.1) ∙ among)));
    }
one_buffered v fields old new number taken left whole (p ∷ q ∷ d) many each is joined named among = absurd (omega (arith, many))

none_buffered : (v : Version) (old new : HeapPairs) (taken : List ℕ) (pairs : Document) → length pairs ≡ 0 → Each (EncodesPair NoLegacy v) taken pairs → document_of new ≡ document_of old ++ pairs → (taken ≡ []) × (document_of new ≡ document_of old)
none_buffered v old new taken [] many each is = (each, is ∙ append-nil (document_of old))
none_buffered v old new taken (p ∷ d) many each is = absurd (omega (arith, many))

buffered : (v : Version) (fields : List Field) (old new : HeapPairs) (number : ℕ) (taken left whole : List ℕ) (n : ℕ) → n ≤ 1 → AddsBufferedPairs v old new taken n → whole ≡ taken ++ left → BeginsAsPair whole number → is_among fields number ≡ true → AddsIf v fields old new taken (nat_eq n 1)
buffered v fields old new number taken left whole zero most h joined named among = none_buffered v old new taken h.pairs h.counted h.encoded h.document
buffered v fields old new number taken left whole (suc zero) most h joined named among = one_buffered v fields old new number taken left whole h.pairs h.counted h.encoded h.document joined named among
buffered v fields old new number taken left whole (suc (suc n)) most h joined named among = absurd (omega (arith, most))

-- ---- at the end of the bytes

pub pair_ended : (v : Version) (r : Refusal) → ErrorInPair Legacy ErrorInLegacy v [] r → r ≡ end
pair_ended v r (inl h) = bytes_ended 4 r h
pair_ended v r (inr h) = value_ended (no_rest h.1.prefix h.1.rest h.1.joined) h.1.second

module _ {S : Type 0} {is_known : S → Type 0} {left : S → List ℕ} {failures : S → Failures} (v : Version) (fields : List Field) where
  pub pair_buffered : {os ns : S} {i k : ℕ} (before after : HeapPairs) (number n : ℕ) → n ≤ 1 → (is_known os → BeginsAsPair (left os) number) → is_among fields number ≡ true → FindsIf StoreMayStop is_known left failures os i ns k (Ok n) (λ b added. AddsBufferedPairs v before after b added) Nothing
      → FindsIf StoreMayStop is_known left failures os i ns k (Ok (nat_eq n 1)) (λ b added. AddsIf v fields before after b added) Nothing
  pair_buffered {os = os} {ns = ns} before after number n most named among p = record {
    found = λ t. let h = p.found t in record { prefix = h.prefix; joined = h.joined; encoded = buffered v fields before after number h.prefix (left ns) (left os) n most h.encoded h.joined (named t) among };
    taken = p.taken;
    stays_known = p.stays_known;
    counts = p.counts;
    count_grows = p.count_grows;
    may_stop = tt;
  }

  -- ---- a pair part by part

  -- its value is kept
  pub value_kept : {old mid new : S} {i j k : ℕ} (d : Document) (number : ℕ) (result : Result HeapPairs DeserializeError) → is_among fields number ≡ true → FindsIf StoreMayStop is_known left failures old i mid j (Ok number) (Fixed 4) (λ w f. ⊥)
      → FindsIf StoreMayStop is_known left failures mid j new k result (FindsValue v d number) (FindsNoValue v d) → FindsIf StoreMayStop is_known left failures old i new k result (FindsPair v fields d) (FindsNoPair v d)
  value_kept d number result among p h =
      finds_then (FindsPair v fields d) (FindsNoPair v d)
      (λ a b y fixed s. λ stands. let added = s stands in record {
        pair = (number, added.tree);
        encoded = record { prefix = a; rest = b; joined = refl; first = fixed; second = added.encoded };
        document = added.document ∙ ap (λ (z : Document). d ++ z) (sym (chosen-one fields (number, added.tree) among));
      })
      (λ a w r fixed f. λ stands. inr (number, record { prefix = a; rest = w; joined = refl; first = fixed; second = f stands }))
      (λ a r fixed other f start byte last. λ stands. absurd (other (value_ended refl (f stands))))
      p h

  -- or it has no room
  pub value_has_none : {old mid : S} {i j : ℕ} (d : Document) (number : ℕ) → is_among fields number ≡ true → FindsIf StoreMayStop is_known left failures old i mid j (Ok number) (Fixed 4) (λ w f. ⊥) → is_known old → ValueHasNoRoom v d (left mid) → PairHasNoRoom v fields d (left old)
  value_has_none d number among p t none =
      let f = p.found t in
      record {
        number = number;
        state = none.state;
        prefix = f.prefix ++ none.prefix;
        rest = none.rest;
        joined = f.joined ∙ ap (λ (z : List ℕ). f.prefix ++ z) none.joined ∙ sym (append_assoc f.prefix none.prefix none.rest);
        is = none.is;
        encoded = record { prefix = f.prefix; rest = none.prefix; joined = refl; first = f.encoded; second = none.encoded };
        among = among;
        no_room = none.no_room;
      }

  -- its value is passed over
  pub value_passed : {old mid new : S} {i j k : ℕ} {x : Unit {0}} (document : HeapPairs) (number : ℕ) → is_among fields number ≡ false → FindsIf StoreMayStop is_known left failures old i mid j (Ok number) (Fixed 4) (λ w f. ⊥)
      → FindsIf StoreMayStopRoomy is_known left failures mid j new k (Ok x) (λ b _. IsValueEncoding v b) (NoValue v) → FindsIf StoreMayStop is_known left failures old i new k (Ok document) (FindsPair v fields (document_of document)) (FindsNoPair v (document_of document))
  value_passed {old = old} {mid = mid} {new = new} {i = i} {j = j} {k = k} {x = x} document number other p h =
      let d = document_of document in
      let value : FindsIf StoreMayStop is_known left failures mid j new k (Ok x) (λ b _. IsValueEncoding v b) Nothing = finds_as x (λ b _. IsValueEncoding v b) Nothing (λ a s. s) h in
      let pair : FindsIf StoreMayStop is_known left failures old i new k (Ok x) (λ b _. FindsPair v fields d b document) Nothing =
      finds_then (λ b _. FindsPair v fields d b document) Nothing
      (λ a b y fixed t. λ stands. record {
        pair = (number, t.0);
        encoded = record { prefix = a; rest = b; joined = refl; first = fixed; second = t.1 };
        document = sym (append-nil d) ∙ ap (λ (z : Document). d ++ z) (sym (chosen-none fields (number, t.0) other));
      })
      (λ a w r fixed f. f) (λ a r fixed o f start byte last. f) p value in
      finds_as document (FindsPair v fields d) (FindsNoPair v d) (λ a s. s) pair

  pub value_not_passed : {old mid new : S} {i j k : ℕ} {e : DeserializeError} (d : Document) (number : ℕ) → FindsIf StoreMayStop is_known left failures old i mid j (Ok number) (Fixed 4) (λ w f. ⊥) → FindsIf {X = Unit {0}} StoreMayStopRoomy is_known left failures mid j new k (Err e) (λ b _. IsValueEncoding v b) (NoValue v)
      → FindsIf {X = HeapPairs} StoreMayStop is_known left failures old i new k (Err e) (FindsPair v fields d) (FindsNoPair v d)
  value_not_passed d number p h =
      finds_then (FindsPair v fields d) (FindsNoPair v d) (λ a b y fixed s. absurd s)
      (λ a w r fixed f. λ stands. inr (number, record { prefix = a; rest = w; joined = refl; first = fixed; second = f }))
      (λ a r fixed other f start byte last. absurd (other (value_ended refl f)))
      p (finds_fails (λ b z. ⊥) (NoValue v) (λ w r f. f) (finds_any (λ e n may. may.0) h))

  -- ---- a pair, after none that was buffered

  pub none_before : {old mid new : S} {i j k : ℕ} (document pairs : HeapPairs) (added : Bool) (result : Result HeapPairs DeserializeError) → added ≡ false → FindsIf StoreMayStop is_known left failures old i mid j (Ok added) (λ b z. AddsIf v fields document pairs b z) Nothing
      → FindsIf StoreMayStop is_known left failures mid j new k result (FindsPair v fields (document_of pairs)) (FindsNoPair v (document_of pairs)) → FindsIf StoreMayStop is_known left failures old i new k result (FindsPair v fields (document_of document)) (FindsNoPair v (document_of document))
  none_before document pairs added result none p h =
      finds_then (FindsPair v fields (document_of document)) (FindsNoPair v (document_of document))
      (λ a b y q s. let n = subst (AddsIf v fields document pairs a) none q in subst (λ z. FindsPair v fields z (a ++ b) y) n.1 (subst (λ z. FindsPair v fields (document_of pairs) (z ++ b) y) (sym n.0) s))
      (λ a w r q f. let n = subst (AddsIf v fields document pairs a) none q in subst (λ z. FindsNoPair v z (a ++ w) r) n.1 (subst (λ z. FindsNoPair v (document_of pairs) (z ++ w) r) (sym n.0) f))
      (λ a r q other f start byte last. λ stands. let n = subst (AddsIf v fields document pairs a) none q in absurd (other (pair_ended v r (f (subst (CanStand v) (sym n.1) stands)))))
      p h

  pub none_before_full : {old mid : S} {i j : ℕ} (document pairs : HeapPairs) (added : Bool) → added ≡ false → FindsIf StoreMayStop is_known left failures old i mid j (Ok added) (λ b z. AddsIf v fields document pairs b z) Nothing → is_known old → CanStand v (document_of document)
      → (CanStand v (document_of pairs) → PairHasNoRoom v fields (document_of pairs) (left mid)) → PairHasNoRoom v fields (document_of document) (left old)
  none_before_full {old = old} {mid = mid} document pairs added none p t stands without =
      let f = p.found t in
      let n = subst (AddsIf v fields document pairs f.prefix) none f.encoded in
      subst (λ z. PairHasNoRoom v fields z (left old)) n.1
      (subst (PairHasNoRoom v fields (document_of pairs)) (sym (f.joined ∙ ap (λ (z : List ℕ). z ++ left mid) n.0)) (without (subst (CanStand v) (sym n.1) stands)))
