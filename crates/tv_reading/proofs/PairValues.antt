-- What a reading of one pair more says of its value: the bytes before it are any that encode the pairs.
use Rattle.std.proofs.Common.{◌≡◌, ℕ, suc, ◌+◌, ◌^◌, ◌<◌, ◌≤◌, List, [], ◌∷◌, ◌++◌, length, Result, Ok, Err, refl, sym, ◌∙◌, ap, subst, append_assoc, arith, inl, inr}
use Rattle.std.proofs.lemmas.List.{append-nil}
use Rattle.tv_base.specs.Number.{VNum, Fixed, vnum, four_bytes}
use Rattle.tv_base.specs.Parts.{Each}
use Rattle.tv_base.specs.ErrorInPart.{InEach}
use Rattle.tv_base.specs.Source.{Failures}
use Rattle.tv_base.proofs.Excluding.{excludes_number}
use Rattle.tv_base.proofs.Numbers.{one_number, one_fixed, vnum_encodes}
use Rattle.tv_base.proofs.Shortest.{four_bytes_encode}
use Rattle.tv_builder.specs.Behind.{pairs_parts, open_parts}
use Rattle.tv_builder.specs.Prefix.{EncodesPart, Encoded}
use Rattle.tv_builder.specs.Parts.{field}
use Rattle.tv_builder.specs.State.{State, in_lists, IsState, parts_of, state_room}
use Rattle.tv_builder.specs.HeldPairs.{document_of}
use Rattle.tv_builder.specs.declared.heap_pairs.HeapPairs.{HeapPairs}
use Rattle.tv_builder.proofs.Grammar.{each_append}
use Rattle.tv_heap.specs.Room.{room, document_room}
use Rattle.tv_heap.proofs.ListRooms.{document_room-cons}
use Rattle.tv_reader.specs.Legacy.{Legacy, ErrorInLegacy}
use Rattle.tv_reader.proofs.UniqueLegacy.{one_legacy, legacy_excludes}
use Rattle.tv_format.specs.Encoding.{Encodes, EncodesPair, EncodesDocument}
use Rattle.tv_format.specs.InputError.{Refusal, ErrorInPair, ErrorInDocument}
use Rattle.tv_format.specs.Tree.{Tree, Document}
use Rattle.tv_format.specs.Version.{Version}
use Rattle.tv_format.proofs.ExcludingLeaves.{excludes_corrupt}
use Rattle.tv_format.proofs.ExcludingTrees.{excludes_field, pair_excludes}
use Rattle.tv_format.proofs.Trees.{one_pair}
use Rattle.tv_reader.specs.Finds.{FindsIf}
use Rattle.tv_reader.specs.Trees.{NoValue}
use Rattle.tv_reader.specs.declared.error.DeserializeError.{DeserializeError}
use Rattle.tv_reader.proofs.Finding.{finds_as, finds_fails}
use Rattle.tv_reading.specs.PairValue.{CanStand, AddsValue, ValueHasNoRoom}
use Rattle.tv_reading.specs.Prefix.{HasNoRoom}
use Rattle.tv_reading.proofs.RoomWithin.{both_cut, state_within}
use Rattle.tv_reader.specs.Error.{StoreMayStop}
use Rattle.tv_reader.proofs.Depths.{same_rest}

-- ---- bytes that encode the pairs, and the field of one more

pub pairs_are_parts : (v : Version) (d : Document) (b : List ℕ) → Each (EncodesPair Legacy v) b d → Each (EncodesPart Legacy v) b (pairs_parts d)
pairs_are_parts v [] b h = h
pairs_are_parts v (p ∷ d) b h = record { prefix = h.prefix; rest = h.rest; joined = h.joined; first = h.first; second = pairs_are_parts v d h.rest h.second }

abbrev before : Document → ℕ → List ℕ → List ℕ
before d f bytes = vnum (length d + 1) ++ (bytes ++ four_bytes f)

module _ (v : Version) (d : Document) (f : ℕ) (few : length d + 1 < 2 ^ 64) (is_field : f < 2 ^ 32) (bytes : List ℕ) (pairs : Each (EncodesPair Legacy v) bytes d) where
  before_encoded : Encoded Legacy v (before d f bytes) (open_parts (length d + 1) d f (in_lists []))
  before_encoded = record {
    prefix = vnum (length d + 1);
    rest = bytes ++ four_bytes f;
    joined = refl;
    first = vnum_encodes (length d + 1) few;
    second = each_append (EncodesPart Legacy v) (pairs_parts d) (field f ∷ []) bytes (four_bytes f) (pairs_are_parts v d bytes pairs)
        (record { prefix = four_bytes f; rest = []; joined = sym (append-nil (four_bytes f)); first = four_bytes_encode f is_field; second = refl });
  }

  -- after the number
  behind_number : (w number rest y : List ℕ) (n : ℕ) → VNum number n → before d f bytes ++ w ≡ number ++ (rest ++ y) → (length d + 1 ≡ n) × (bytes ++ (four_bytes f ++ w) ≡ rest ++ y)
  behind_number w number rest y n counted e =
      let whole : vnum (length d + 1) ++ ((bytes ++ four_bytes f) ++ w) ≡ number ++ (rest ++ y) = sym (append_assoc (vnum (length d + 1)) (bytes ++ four_bytes f) w) ∙ e in
      let same = one_number (vnum (length d + 1)) number ((bytes ++ four_bytes f) ++ w) (rest ++ y) (length d + 1) n (vnum_encodes (length d + 1) few) counted whole in
      (same.1, sym (append_assoc bytes (four_bytes f) w) ∙ same_rest (vnum (length d + 1)) number ((bytes ++ four_bytes f) ++ w) (rest ++ y) same.0 whole)

  -- after the field
  behind_field : (w number rest : List ℕ) (g : ℕ) → Fixed 4 number g → four_bytes f ++ w ≡ number ++ rest → (f ≡ g) × (w ≡ rest)
  behind_field w number rest g fixed e =
      let same = one_fixed 4 (four_bytes f) number w rest f g (four_bytes_encode f is_field) fixed e in
      (same.1, same_rest (four_bytes f) number w rest same.0 e)

-- ---- a value was read

record LastPair (v : Version) (d e : Document) (w : List ℕ) : Type 0 where
  pair : ℕ × Tree
  encoded : EncodesPair Legacy v w pair
  last : e ≡ d ++ pair ∷ []

-- after the bytes of the other pairs
last_pair : (v : Version) (d e : Document) (bytes w whole : List ℕ) → Each (EncodesPair Legacy v) bytes d → Each (EncodesPair Legacy v) whole e → length d + 1 ≡ length e → bytes ++ w ≡ whole → LastPair v d e w
last_pair v [] [] bytes w whole p s many joined = absurd (omega (arith, many))
last_pair v [] (q ∷ []) bytes w whole p s many joined =
    let all : w ≡ s.prefix = ap (λ (z : List ℕ). z ++ w) (sym p) ∙ joined ∙ s.joined ∙ ap (λ (z : List ℕ). s.prefix ++ z) s.second ∙ append-nil s.prefix in
    record { pair = q; encoded = subst (λ z. EncodesPair Legacy v z q) (sym all) s.first; last = refl }
last_pair v [] (q ∷ r ∷ e) bytes w whole p s many joined = absurd (omega (arith, many))
last_pair v (q ∷ d) [] bytes w whole p s many joined = absurd (omega (arith, many))
last_pair v (q ∷ d) (r ∷ e) bytes w whole p s many joined =
    let cut : p.prefix ++ (p.rest ++ w) ≡ s.prefix ++ s.rest = sym (append_assoc p.prefix p.rest w) ∙ ap (λ (z : List ℕ). z ++ w) (sym p.joined) ∙ joined ∙ s.joined in
    let same = one_pair Legacy v one_legacy p.prefix s.prefix (p.rest ++ w) s.rest q r p.first s.first cut in
    let more = last_pair v d e p.rest w s.rest p.second s.second (omega (arith, many)) (same_rest p.prefix s.prefix (p.rest ++ w) s.rest same.0 cut) in
    record { pair = more.pair; encoded = more.encoded; last = λ i. sym same.1 i ∷ more.last i }

pub value_added : (v : Version) (d : Document) (f : ℕ) (b : List ℕ) (new : HeapPairs) → length d + 1 < 2 ^ 64 → f < 2 ^ 32 → ((bytes : List ℕ) → Encoded Legacy v bytes (open_parts (length d + 1) d f (in_lists [])) → EncodesDocument Legacy v (bytes ++ b) (document_of new))
    → CanStand v d → AddsValue v d f b new
value_added v d f b new few is_field reads stands =
    let bytes = stands.0 in
    let s = reads (before d f bytes) (before_encoded v d f few is_field bytes stands.1) in
    let number = behind_number v d f few is_field bytes stands.1 b s.prefix s.rest [] (length (document_of new)) s.first (s.joined ∙ ap (λ (z : List ℕ). s.prefix ++ z) (sym (append-nil s.rest))) in
    let l = last_pair v d (document_of new) bytes (four_bytes f ++ b) s.rest stands.1 s.second number.0 (number.1 ∙ append-nil s.rest) in
    let p = l.encoded in
    let same = behind_field v d f few is_field bytes stands.1 b p.prefix p.rest l.pair.0 p.first p.joined in
    record {
      tree = l.pair.1;
      encoded = subst (λ z. Encodes Legacy v z l.pair.1) (sym same.1) p.second;
      document = l.last ∙ ap (λ (z : ℕ). d ++ (z, l.pair.1) ∷ []) (sym same.0);
    }

-- ---- it is malformed

abbrev PairError : Version → List ℕ → Refusal → Type 0
PairError v w r = ErrorInPair Legacy ErrorInLegacy v w r

pair_error : (v : Version) (d : Document) (bytes w whole : List ℕ) (r : Refusal) → Each (EncodesPair Legacy v) bytes d → bytes ++ w ≡ whole → InEach (PairError v) (EncodesPair Legacy v) (suc (length d)) whole r → PairError v w r
pair_error v [] bytes w whole r p joined (inl h) = subst (λ z. PairError v z r) (sym joined ∙ ap (λ (z : List ℕ). z ++ w) p) h
pair_error v [] bytes w whole r p joined (inr h) = absurd h.1.second
pair_error v (q ∷ d) bytes w whole r p joined (inl h) =
    let cut : whole ≡ p.prefix ++ (p.rest ++ w) = sym joined ∙ ap (λ (z : List ℕ). z ++ w) p.joined ∙ append_assoc p.prefix p.rest w in
    absurd ((pair_excludes Legacy ErrorInLegacy v one_legacy legacy_excludes q).excludes whole p.prefix (p.rest ++ w) r h p.first cut)
pair_error v (q ∷ d) bytes w whole r p joined (inr h) =
    let s = h.1 in
    let cut : p.prefix ++ (p.rest ++ w) ≡ s.prefix ++ s.rest = sym (append_assoc p.prefix p.rest w) ∙ ap (λ (z : List ℕ). z ++ w) (sym p.joined) ∙ joined ∙ s.joined in
    let same = one_pair Legacy v one_legacy p.prefix s.prefix (p.rest ++ w) s.rest q h.0 p.first s.first cut in
    pair_error v d p.rest w s.rest r p.second (same_rest p.prefix s.prefix (p.rest ++ w) s.rest same.0 cut) s.second

module _ (v : Version) (d : Document) (f : ℕ) (few : length d + 1 < 2 ^ 64) (is_field : f < 2 ^ 32) (bytes : List ℕ) (pairs : Each (EncodesPair Legacy v) bytes d) where
  -- the field is there
  in_value : (w : List ℕ) (r : Refusal) → PairError v (four_bytes f ++ w) r → NoValue v w r
  in_value w r (inl h) = absurd ((excludes_corrupt (excludes_field Legacy ErrorInLegacy v one_legacy legacy_excludes f)).excludes (four_bytes f ++ w) (four_bytes f) w r h (four_bytes_encode f is_field) refl)
  in_value w r (inr h) =
      let same = behind_field v d f few is_field bytes pairs w h.1.prefix h.1.rest h.0 h.1.first h.1.joined in
      subst (λ z. NoValue v z r) (sym same.1) h.1.second

  -- and the number and the pairs before it
  in_document : (w : List ℕ) (r : Refusal) → ErrorInDocument Legacy ErrorInLegacy v (before d f bytes ++ w) r → NoValue v w r
  in_document w r (inl h) =
      absurd ((excludes_corrupt (excludes_number (length d + 1))).excludes (before d f bytes ++ w) (vnum (length d + 1)) ((bytes ++ four_bytes f) ++ w) r h (vnum_encodes (length d + 1) few) (append_assoc (vnum (length d + 1)) (bytes ++ four_bytes f) w))
  in_document w r (inr h) =
      let s = h.1 in
      let number = behind_number v d f few is_field bytes pairs w s.prefix s.rest [] h.0 s.first (s.joined ∙ ap (λ (z : List ℕ). s.prefix ++ z) (sym (append-nil s.rest))) in
      let many : h.0 ≡ suc (length d) = omega (arith, number.0) in
      in_value w r (pair_error v d bytes (four_bytes f ++ w) s.rest r pairs (number.1 ∙ append-nil s.rest) (subst (λ (n : ℕ). InEach (PairError v) (EncodesPair Legacy v) n s.rest r) many s.second))

pub value_refused : (v : Version) (d : Document) (f : ℕ) (w : List ℕ) (r : Refusal) → length d + 1 < 2 ^ 64 → f < 2 ^ 32
    → ((bytes : List ℕ) → Encoded Legacy v bytes (open_parts (length d + 1) d f (in_lists [])) → ErrorInDocument Legacy ErrorInLegacy v (bytes ++ w) r) → CanStand v d → NoValue v w r
value_refused v d f w r few is_field refuses stands =
    in_document v d f few is_field stands.0 stands.1 w r (refuses (before d f stands.0) (before_encoded v d f few is_field stands.0 stands.1))

-- ---- it has no room

-- this much is taken before the pairs
record NoRoom (v : Version) (taken : ℕ) (d : Document) (left : List ℕ) : Type 0 where
  state : State
  prefix : List ℕ
  rest : List ℕ
  joined : left ≡ prefix ++ rest
  is : IsState state
  encoded : Encoded Legacy v prefix (parts_of state)
  over : 4294967295 < taken + document_room d + state_room state

module _ (v : Version) (f : ℕ) (is_field : f < 2 ^ 32) (left : List ℕ) where
  -- the pairs alone have none
  pairs_too_large : (taken : ℕ) (d : Document) → 4294967295 < taken + document_room d → NoRoom v taken d left
  pairs_too_large taken d full = record { state = in_lists []; prefix = []; rest = left; joined = refl; is = (tt, tt); encoded = refl; over = omega (arith, full) }

  no_room : (taken : ℕ) (o : Document) (g : ℕ) (st : State) (d : Document) (p x bytes : List ℕ) → IsState st → length o ≤ length d → Each (EncodesPart Legacy v) p (pairs_parts o ++ (field g ∷ parts_of st)) → Each (EncodesPair Legacy v) bytes d
      → p ++ x ≡ bytes ++ (four_bytes f ++ left) → 4294967295 < taken + document_room o + state_room st → NoRoom v taken d left
  no_room taken [] g st [] p x bytes is less h s e full =
      let cut : h.prefix ++ (h.rest ++ x) ≡ four_bytes f ++ left = sym (append_assoc h.prefix h.rest x) ∙ ap (λ (z : List ℕ). z ++ x) (sym h.joined) ∙ e ∙ ap (λ (z : List ℕ). z ++ (four_bytes f ++ left)) s in
      let same = one_fixed 4 h.prefix (four_bytes f) (h.rest ++ x) left g f h.first (four_bytes_encode f is_field) cut in
      record { state = st; prefix = h.rest; rest = x; joined = sym (same_rest h.prefix (four_bytes f) (h.rest ++ x) left same.0 cut); is = is; encoded = h.second; over = full }
  no_room taken [] g st (r ∷ d) p x bytes is less h s e full =
      let y = four_bytes f ++ left in
      let whole = both_cut p bytes h.prefix h.rest s.prefix s.rest x y h.joined s.joined e in
      let t = s.first in
      let all : h.prefix ++ (h.rest ++ x) ≡ t.prefix ++ (t.rest ++ (s.rest ++ y)) = whole ∙ ap (λ (z : List ℕ). z ++ (s.rest ++ y)) t.joined ∙ append_assoc t.prefix t.rest (s.rest ++ y) in
      let same = one_fixed 4 h.prefix t.prefix (h.rest ++ x) (t.rest ++ (s.rest ++ y)) g r.0 h.first t.first all in
      let within = state_within Legacy v one_legacy st h.rest x t.rest (s.rest ++ y) r.1 is h.second (same_rest h.prefix t.prefix (h.rest ++ x) (t.rest ++ (s.rest ++ y)) same.0 all) t.second in
      pairs_too_large taken (r ∷ d) (omega (arith, full, within, document_room-cons r d))
  no_room taken (q ∷ o) g st [] p x bytes is less h s e full = absurd (omega (arith, less))
  no_room taken (q ∷ o) g st (r ∷ d) p x bytes is less h s e full =
      let y = four_bytes f ++ left in
      let whole = both_cut p bytes h.prefix h.rest s.prefix s.rest x y h.joined s.joined e in
      let same = one_pair Legacy v one_legacy h.prefix s.prefix (h.rest ++ x) (s.rest ++ y) q r h.first s.first whole in
      let rooms = ap (λ (z : ℕ × Tree). room z.1) same.1 in
      let more = no_room (taken + room r.1) o g st d h.rest x s.rest is (omega (arith, less)) h.second s.second (same_rest h.prefix s.prefix (h.rest ++ x) (s.rest ++ y) same.0 whole) (omega (arith, full, document_room-cons q o, rooms)) in
      record { state = more.state; prefix = more.prefix; rest = more.rest; joined = more.joined; is = more.is; encoded = more.encoded; over = omega (arith, more.over, document_room-cons r d) }

pub value_too_large : (v : Version) (d : Document) (f : ℕ) (left : List ℕ) → length d + 1 < 2 ^ 64 → f < 2 ^ 32 → ((bytes : List ℕ) → Encoded Legacy v bytes (open_parts (length d + 1) d f (in_lists [])) → HasNoRoom v (bytes ++ left)) → CanStand v d
    → ValueHasNoRoom v d left
value_too_large v d f left few is_field none stands =
    let h = none (before d f stands.0) (before_encoded v d f few is_field stands.0 stands.1) in
    let p = h.encoded in
    let cut : before d f stands.0 ++ left ≡ p.prefix ++ (p.rest ++ h.rest) = h.joined ∙ ap (λ (z : List ℕ). z ++ h.rest) p.joined ∙ append_assoc p.prefix p.rest h.rest in
    let number = behind_number v d f few is_field stands.0 stands.1 left p.prefix p.rest h.rest h.announced p.first cut in
    let n = no_room v f is_field left 0 h.finished h.field h.state d p.rest h.rest stands.0 h.is (omega (arith, h.less, number.0)) p.second stands.1 (sym number.1) (omega (arith, h.no_room)) in
    record { state = n.state; prefix = n.prefix; rest = n.rest; joined = n.joined; is = n.is; encoded = n.encoded; no_room = omega (arith, n.over) }

-- ---- the same reading in other words

pub reads_map : {S X : Type 0} {is_known : S → Type 0} {left : S → List ℕ} {failures : S → Failures} {old new : S} {i k : ℕ} {A : List ℕ → X → Type 0} {P : List ℕ → Refusal → Type 0} (B : List ℕ → X → Type 0) (Q : List ℕ → Refusal → Type 0) (result : Result X DeserializeError)
    → ((a : List ℕ) (x : X) → A a x → B a x) → ((w : List ℕ) (r : Refusal) → P w r → Q w r) → FindsIf StoreMayStop is_known left failures old i new k result A P → FindsIf StoreMayStop is_known left failures old i new k result B Q
reads_map B Q (Ok x) is refused p = finds_as x B Q (λ a h. is a x h) p
reads_map B Q (Err e) is refused p = finds_fails B Q refused p
