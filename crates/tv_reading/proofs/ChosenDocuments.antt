-- Pairs that make a document, of which the chosen ones are kept.
use Rattle.std.proofs.Common.{◌≡◌, ℕ, zero, suc, ◌+◌, ◌<◌, List, [], ◌∷◌, ◌++◌, length, Ok, Err, refl, sym, ◌∙◌, ap, subst, append_assoc, length-append, arith, inl, inr}
use Rattle.std.proofs.lemmas.List.{append-nil}
use Rattle.std.proofs.lemmas.List.Elements.{filter-append}
use Rattle.tv_base.specs.ErrorInPart.{InEach, ErrorInNumber}
use Rattle.tv_base.specs.Number.{VNum}
use Rattle.tv_base.specs.Parts.{Then, Each}
use Rattle.tv_base.specs.Source.{Failures}
use Rattle.tv_builder.specs.Behind.{document_parts}
use Rattle.tv_builder.specs.Prefix.{EncodesPart, Encoded}
use Rattle.tv_builder.specs.Parts.{field}
use Rattle.tv_builder.specs.State.{parts_of}
use Rattle.tv_builder.specs.HeldPairs.{document_of}
use Rattle.tv_builder.specs.declared.heap_pairs.HeapPairs.{HeapPairs}
use Rattle.tv_builder.proofs.Grammar.{each_append}
use Rattle.tv_heap.specs.Room.{document_room}
use Rattle.tv_reader.specs.Legacy.{Legacy, ErrorInLegacy}
use Rattle.tv_format.specs.Encoding.{EncodesPair}
use Rattle.tv_format.specs.InputError.{Refusal, Corrupt, ErrorInPair}
use Rattle.tv_format.specs.Tree.{Tree, Document}
use Rattle.tv_format.specs.Version.{Version}
use Rattle.tv_format.proofs.Prefixes.{each_push}
use Rattle.tv_reader.specs.Finds.{FindsIf, Nothing}
use Rattle.tv_reader.specs.declared.error.DeserializeError.{DeserializeError}
use Rattle.tv_reader.proofs.Finding.{finds_then, finds_as, finds_fails}
use Rattle.tv_value.specs.declared.field.Field.{Field}
use Rattle.tv_reading.specs.Documents.{NoDocument}
use Rattle.tv_reading.specs.PairValue.{CanStand}
use Rattle.tv_reading.proofs.PairValues.{pairs_are_parts}
use Rattle.tv_reading.specs.ChosenFields.{is_among, chosen, EncodesChosen, HasNoRoomChosen}
use Rattle.tv_reading.specs.ChosenPair.{FindsPair, FindsNoPair, PairHasNoRoom}
use Rattle.tv_reading.proofs.ChosenPairs.{chosen_stand, pair_ended}
use Rattle.tv_reader.specs.Error.{StoreMayStop, StoreMayStopLean}

-- this many of the announced pairs were taken, and the chosen ones of these are kept
pub record TakenChosen (v : Version) (fields : List Field) (announced count : ℕ) (taken : List ℕ) (kept : HeapPairs) : Type 0 where
  pub pairs : Document
  pub counted : length pairs ≡ count
  pub encoded : Then (λ b. VNum b announced) (λ b. Each (EncodesPair Legacy v) b pairs) taken
  pub document : document_of kept ≡ chosen fields pairs

-- of a number of pairs one is malformed
in_pairs : (v : Version) (d : Document) (n : ℕ) (a w : List ℕ) (r : Refusal) → length d < n → Each (EncodesPair Legacy v) a d → ErrorInPair Legacy ErrorInLegacy v w r → InEach (ErrorInPair Legacy ErrorInLegacy v) (EncodesPair Legacy v) n (a ++ w) r
in_pairs v d zero a w r less p f = absurd (omega (arith, less))
in_pairs v [] (suc n) a w r less p f = inl (subst (λ z. ErrorInPair Legacy ErrorInLegacy v (z ++ w) r) (sym p) f)
in_pairs v (q ∷ d) (suc n) a w r less p f = inr (
  q,
  record {
    prefix = p.prefix;
    rest = p.rest ++ w;
    joined = ap (λ (z : List ℕ). z ++ w) p.joined ∙ append_assoc p.prefix p.rest w;
    first = p.first;
    second = in_pairs v d n p.rest w r (omega (arith, less)) p.second f;
  },
)

module _ (v : Version) (fields : List Field) (n : ℕ) where
  stands : (k : ℕ) (document : HeapPairs) (a : List ℕ) → TakenChosen v fields n k a document → CanStand v (document_of document)
  stands k document a q = subst (CanStand v) (sym q.document) (chosen_stand v fields q.pairs q.encoded.rest q.encoded.second)

  one_more : (m : ℕ) (document after : HeapPairs) (a b : List ℕ) → TakenChosen v fields n m a document → FindsPair v fields (document_of document) b after → TakenChosen v fields n (m + 1) (a ++ b) after
  one_more m document after a b q s =
      let p = s (stands m document a q) in
      let e = q.encoded in
      record {
        pairs = q.pairs ++ p.pair ∷ [];
        counted = omega (arith, length-append q.pairs (p.pair ∷ []), q.counted);
        encoded = record {
          prefix = e.prefix;
          rest = e.rest ++ b;
          joined = ap (λ (z : List ℕ). z ++ b) e.joined ∙ append_assoc e.prefix e.rest b;
          first = e.first;
          second = each_push (EncodesPair Legacy v) q.pairs p.pair e.rest b e.second p.encoded;
        };
        document = p.document ∙ ap (λ (z : Document). z ++ chosen fields (p.pair ∷ [])) q.document ∙ sym (filter-append (λ (z : ℕ × Tree). is_among fields z.0) q.pairs (p.pair ∷ []));
      }

module _ {S : Type 0} {is_known : S → Type 0} {left : S → List ℕ} {failures : S → Failures} (v : Version) (fields : List Field) (n : ℕ) where
  -- the number of the pairs
  pub number_taken : {old new : S} {i k : ℕ} (empty : HeapPairs) → document_of empty ≡ [] → FindsIf StoreMayStopLean is_known left failures old i new k (Ok n) VNum (Corrupt ErrorInNumber) → FindsIf StoreMayStop is_known left failures old i new k (Ok empty) (TakenChosen v fields n 0) Nothing
  number_taken empty none p = finds_as empty (TakenChosen v fields n 0) Nothing
      (λ a q. record { pairs = []; counted = refl; encoded = record { prefix = a; rest = []; joined = sym (append-nil a); first = q; second = refl }; document = none }) p

  -- one more
  pub pair_taken : {old mid new : S} {i j k : ℕ} (m : ℕ) (document after : HeapPairs) → FindsIf StoreMayStop is_known left failures old i mid j (Ok document) (TakenChosen v fields n m) Nothing
      → FindsIf StoreMayStop is_known left failures mid j new k (Ok after) (FindsPair v fields (document_of document)) (FindsNoPair v (document_of document)) → FindsIf StoreMayStop is_known left failures old i new k (Ok after) (TakenChosen v fields n (m + 1)) Nothing
  pair_taken m document after p h =
      finds_then (TakenChosen v fields n (m + 1)) Nothing (λ a b y q s. one_more v fields n m document y a b q s) (λ a w r q f. f) (λ a r q other f start byte last. f)
      p (finds_as after (FindsPair v fields (document_of document)) Nothing (λ a s. s) h)

  -- or it is malformed
  pub pair_refused : {old mid new : S} {i j k : ℕ} {e : DeserializeError} (m : ℕ) (document : HeapPairs) → m < n → FindsIf StoreMayStop is_known left failures old i mid j (Ok document) (TakenChosen v fields n m) Nothing
      → FindsIf {X = HeapPairs} StoreMayStop is_known left failures mid j new k (Err e) (FindsPair v fields (document_of document)) (FindsNoPair v (document_of document)) → FindsIf {X = HeapPairs} StoreMayStop is_known left failures old i new k (Err e) (EncodesChosen v fields) (NoDocument v)
  pair_refused m document less p h =
      finds_then (EncodesChosen v fields) (NoDocument v) (λ a b y q s. absurd s)
      (λ a w r q f. let s = q.encoded in inr (
        n,
        record {
          prefix = s.prefix;
          rest = s.rest ++ w;
          joined = ap (λ (z : List ℕ). z ++ w) s.joined ∙ append_assoc s.prefix s.rest w;
          first = s.first;
          second = in_pairs v q.pairs n s.rest w r (omega (arith, q.counted, less)) s.second (f (stands v fields n m document a q));
        },
      ))
      (λ a r q other f start byte last. absurd (other (pair_ended v r (f (stands v fields n m document a q)))))
      p (finds_fails (λ b z. ⊥) (FindsNoPair v (document_of document)) (λ w r f. f) h)

  -- or it has no room
  pub pair_has_none : {old mid : S} {i j : ℕ} (m : ℕ) (document : HeapPairs) → m < n → FindsIf StoreMayStop is_known left failures old i mid j (Ok document) (TakenChosen v fields n m) Nothing → is_known old → (CanStand v (document_of document) → PairHasNoRoom v fields (document_of document) (left mid))
      → HasNoRoomChosen v fields (left old)
  pair_has_none m document less p t without =
      let f = p.found t in
      let q = f.encoded in
      let s = q.encoded in
      let none = without (stands v fields n m document f.prefix q) in
      let R = EncodesPart Legacy v in
      let number : Encoded Legacy v f.prefix (document_parts n q.pairs) = record { prefix = s.prefix; rest = s.rest; joined = s.joined; first = s.first; second = pairs_are_parts v q.pairs s.rest s.second } in
      record {
        announced = n;
        finished = q.pairs;
        number = none.number;
        state = none.state;
        prefix = f.prefix ++ none.prefix;
        rest = none.rest;
        joined = f.joined ∙ ap (λ (z : List ℕ). f.prefix ++ z) none.joined ∙ sym (append_assoc f.prefix none.prefix none.rest);
        less = omega (arith, q.counted, less);
        is = none.is;
        encoded = each_append R (document_parts n q.pairs) (field none.number ∷ parts_of none.state) f.prefix none.prefix number none.encoded;
        among = none.among;
        no_room = omega (arith, none.no_room, ap document_room q.document);
      }

  -- all of them
  pub all_taken : {old new : S} {i k : ℕ} (m : ℕ) (document : HeapPairs) → m ≡ n → FindsIf StoreMayStop is_known left failures old i new k (Ok document) (TakenChosen v fields n m) Nothing → FindsIf StoreMayStop is_known left failures old i new k (Ok document) (EncodesChosen v fields) (NoDocument v)
  all_taken m document all p = finds_as document (EncodesChosen v fields) (NoDocument v)
      (λ a q. let s = q.encoded in (q.pairs, record { prefix = s.prefix; rest = s.rest; joined = s.joined; first = subst (λ (z : ℕ). VNum s.prefix z) (sym (q.counted ∙ all)) s.first; second = s.second }, q.document)) p
