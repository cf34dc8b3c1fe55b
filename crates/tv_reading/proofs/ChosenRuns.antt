-- Whole pairs that stand one after the other, of which those of chosen fields are added.
use Rattle.std.proofs.Common.{◌≡◌, ℕ, ◌+◌, ◌-◌, ◌<◌, ◌≤◌, true, false, List, [], ◌∷◌, ◌++◌, length, take, Ok, refl, sym, ◌∙◌, ap, subst, append_assoc, length-append, arith}
use Rattle.std.specs.Prelude.{get_or, drop}
use Rattle.std.specs.Int.{w32, from_le_bytes}
use Rattle.std.proofs.lemmas.List.{append-nil}
use Rattle.std.proofs.lemmas.List.Elements.{filter-append}
use Rattle.tv_base.proofs.Numbers.{one_fixed}
use Rattle.tv_base.specs.Number.{Fixed}
use Rattle.tv_base.specs.Parts.{Begins, Each}
use Rattle.tv_base.specs.Source.{Failures}
use Rattle.tv_builder.proofs.EncodedPairs.{start_here, start_same, start_then}
use Rattle.tv_builder.proofs.Grammar.{each_append}
use Rattle.tv_builder.specs.EncodedPairs.{AddsEncoded, StoodIn}
use Rattle.tv_builder.specs.HeldPairs.{document_of, heap_of, IsUnchanged}
use Rattle.tv_builder.specs.declared.heap_pairs.HeapPairs.{HeapPairs}
use Rattle.tv_format.proofs.Prefixes.{begins_item, begins_nothing, begins_then}
use Rattle.tv_format.specs.Encoding.{EncodesPair, NoLegacy}
use Rattle.tv_format.specs.Tree.{Tree, Document}
use Rattle.tv_format.specs.Version.{Version}
use Rattle.tv_reader.specs.Legacy.{Legacy}
use Rattle.tv_reader.specs.Error.{StoreMayStop}
use Rattle.tv_reader.specs.Finds.{FindsIf, Nothing}
use Rattle.tv_reader.proofs.Finding.{finds_as, finds_then}
use Rattle.tv_reading.proofs.BufferedPairs.{pair_with_legacy, taken_prefix}
use Rattle.tv_reading.proofs.ChosenDocuments.{TakenChosen}
use Rattle.tv_reading.proofs.ChosenPairs.{chosen-none, chosen-one, field_stands}
use Rattle.tv_reading.specs.ChosenBuffered.{AddsBufferedChosen, AddsChosenPair, AddsChosenPairs}
use Rattle.tv_reading.specs.ChosenFields.{chosen, is_among}
use Rattle.tv_reading.specs.Skip.{IsValueEncoding}
use Rattle.tv_value.specs.declared.field.Field.{Field}

module _ (v : Version) (fields : List Field) where
  -- ---- one pair

  -- it is passed over
  pub pair_passed : (old : HeapPairs) (bytes prefix value rest : List ℕ) (n : ℕ) → ((i : ℕ) → get_or bytes i 0 < 256) → prefix ≡ take 4 bytes → value ≡ drop 4 bytes → 4 ≤ length bytes → n ≡ from_le_bytes w32 prefix → is_among fields n ≡ false → Begins (IsValueEncoding v) value rest
      → AddsChosenPair v fields old old bytes rest
  pair_passed old bytes prefix value rest n small is after enough worth other p =
      let f = field_stands bytes prefix value n small is after enough worth in
      let t = p.encoded in
      record {
        pair = (n, t.0);
        encoded = begins_then bytes value rest f (record { prefix = p.prefix; joined = p.joined; encoded = t.1 });
        document = sym (append-nil (document_of old)) ∙ ap (λ (z : Document). document_of old ++ z) (sym (chosen-none fields (n, t.0) other));
        start = start_here old;
      }

  -- or it is added
  one_added : (old new : HeapPairs) (bytes value rest : List ℕ) (n : ℕ) (pairs : Document) → length pairs ≡ 1 → Begins (λ b. Fixed 4 b n) bytes value → is_among fields n ≡ true → AddsEncoded v old new bytes rest 1 → Begins (λ b. Each (EncodesPair NoLegacy v) b pairs) bytes rest
      → document_of new ≡ document_of old ++ pairs → AddsChosenPair v fields old new bytes rest
  one_added old new bytes value rest n [] one field among a each is = absurd (omega (arith, one))
  one_added old new bytes value rest n (p ∷ []) one field among a each is =
      let e = each.encoded in
      let all : each.prefix ≡ e.prefix = e.joined ∙ ap (λ (z : List ℕ). e.prefix ++ z) e.second ∙ append-nil e.prefix in
      let s = e.first in
      let cut : field.prefix ++ value ≡ s.prefix ++ (s.rest ++ rest) = sym field.joined ∙ each.joined ∙ ap (λ (z : List ℕ). z ++ rest) (all ∙ s.joined) ∙ append_assoc s.prefix s.rest rest in
      let same = one_fixed 4 field.prefix s.prefix value (s.rest ++ rest) n p.0 field.encoded s.first cut in
      record {
        pair = p;
        encoded = record { prefix = e.prefix; joined = each.joined ∙ ap (λ (z : List ℕ). z ++ rest) all; encoded = pair_with_legacy Legacy v p e.prefix s };
        document = is ∙ ap (λ z. document_of old ++ z) (sym (chosen-one fields p (ap (is_among fields) (sym same.1) ∙ among)));
        start = a.start;
      }
  one_added old new bytes value rest n (p ∷ q ∷ d) one field among a each is = absurd (omega (arith, one))

  pub pair_added : (old new : HeapPairs) (bytes prefix value rest : List ℕ) (n k : ℕ) → ((i : ℕ) → get_or bytes i 0 < 256) → prefix ≡ take 4 bytes → value ≡ drop 4 bytes → 4 ≤ length bytes → n ≡ from_le_bytes w32 prefix → is_among fields n ≡ true → k ≡ 1 → AddsEncoded v old new bytes rest k
      → AddsChosenPair v fields old new bytes rest
  pair_added old new bytes prefix value rest n k small is after enough worth among one a =
      let f = field_stands bytes prefix value n small is after enough worth in
      one_added old new bytes value rest n a.pairs (a.counted ∙ one) f among (subst (AddsEncoded v old new bytes rest) one a) a.encoded a.document

  -- ---- as many as there are

  pub none_added : (d : HeapPairs) (whole : List ℕ) → AddsChosenPairs v fields d d whole whole 0
  none_added d whole = record { pairs = []; counted = refl; encoded = begins_nothing whole refl; document = sym (append-nil (document_of d)); start = start_here d }

  pub one_more : (old mid new : HeapPairs) (whole rest after : List ℕ) (n : ℕ) → AddsChosenPairs v fields old mid whole rest n → AddsChosenPair v fields mid new rest after → AddsChosenPairs v fields old new whole after (n + 1)
  one_more old mid new whole rest after n a p = record {
    pairs = a.pairs ++ p.pair ∷ [];
    counted = omega (arith, a.counted, length-append a.pairs (p.pair ∷ []));
    encoded = begins_item (EncodesPair Legacy v) a.pairs p.pair whole rest after a.encoded p.encoded;
    document =
        p.document ∙ ap (λ (z : Document). z ++ chosen fields (p.pair ∷ [])) a.document ∙ append_assoc (document_of old) (chosen fields a.pairs) (chosen fields (p.pair ∷ []))
        ∙ ap (λ (z : Document). document_of old ++ z) (sym (filter-append (λ (z : ℕ × Tree). is_among fields z.0) a.pairs (p.pair ∷ [])));
    start = start_then old mid new a.start p.start;
  }

  -- and then none
  pub no_more : (old mid new : HeapPairs) (whole rest : List ℕ) (n : ℕ) → AddsChosenPairs v fields old mid whole rest n → IsUnchanged mid new → AddsChosenPairs v fields old new whole rest n
  no_more old mid new whole rest n a u = record { pairs = a.pairs; counted = a.counted; encoded = a.encoded; document = u.document ∙ a.document; start = start_same old mid new a.start u.heap u.pairs }

  -- ---- of a source

  pub no_pairs : (d : HeapPairs) → AddsBufferedChosen v fields d d [] 0
  no_pairs d = record { pairs = []; counted = refl; encoded = refl; document = sym (append-nil (document_of d)) }

  -- what the document was before, by what was added since
  pub stood_in : {whole rest : List ℕ} {n : ℕ} (old now : HeapPairs) (pairs heap : ℕ) → AddsChosenPairs v fields old now whole rest n → pairs ≡ length (document_of old) → heap ≡ length (heap_of old) → StoodIn old now pairs heap
  stood_in old now pairs heap h p q = record { counted = sym p; heap_length = sym q; start = h.start }

  -- they were taken back
  pub none_kept : (old new : HeapPairs) → IsUnchanged old new → AddsBufferedChosen v fields old new [] 0
  none_kept old new u = record { pairs = []; counted = refl; encoded = refl; document = u.document ∙ sym (append-nil (document_of old)) }

  -- as many as there were, of the bytes before those that are left over
  pub pairs_taken : (old new : HeapPairs) (whole rest : List ℕ) (n : ℕ) → AddsChosenPairs v fields old new whole rest n → AddsBufferedChosen v fields old new (take (length whole - length rest) whole) n
  pairs_taken old new whole rest n h = record {
    pairs = h.pairs;
    counted = h.counted;
    encoded = subst (λ z. Each (EncodesPair Legacy v) z h.pairs) (sym (taken_prefix whole h.encoded.prefix rest h.encoded.joined)) h.encoded.encoded;
    document = h.document;
  }

  -- ---- after the number of the pairs

  first_taken : (announced m : ℕ) (empty document : HeapPairs) (a b : List ℕ) → TakenChosen v fields announced 0 a empty → AddsBufferedChosen v fields empty document b m → TakenChosen v fields announced m (a ++ b) document
  first_taken announced m empty document a b q h =
      let e = q.encoded in
      record {
        pairs = q.pairs ++ h.pairs;
        counted = omega (arith, length-append q.pairs h.pairs, q.counted, h.counted);
        encoded = record {
          prefix = e.prefix;
          rest = e.rest ++ b;
          joined = ap (λ (z : List ℕ). z ++ b) e.joined ∙ append_assoc e.prefix e.rest b;
          first = e.first;
          second = each_append (EncodesPair Legacy v) q.pairs h.pairs e.rest b e.second h.encoded;
        };
        document = h.document ∙ ap (λ (z : Document). z ++ chosen fields h.pairs) q.document ∙ sym (filter-append (λ (z : ℕ × Tree). is_among fields z.0) q.pairs h.pairs);
      }

module _ {S : Type 0} {is_known : S → Type 0} {left : S → List ℕ} {failures : S → Failures} (v : Version) (fields : List Field) (announced : ℕ) where
  pub run_taken : {old mid new : S} {i j k : ℕ} (empty document : HeapPairs) (m : ℕ) → FindsIf StoreMayStop is_known left failures old i mid j (Ok empty) (TakenChosen v fields announced 0) Nothing
      → FindsIf StoreMayStop is_known left failures mid j new k (Ok m) (λ b n. AddsBufferedChosen v fields empty document b n) Nothing → FindsIf StoreMayStop is_known left failures old i new k (Ok document) (TakenChosen v fields announced m) Nothing
  run_taken {old = old} {mid = mid} {new = new} {i = i} {j = j} {k = k} empty document m p h =
      let run : FindsIf StoreMayStop is_known left failures old i new k (Ok m) (λ b n. TakenChosen v fields announced n b document) Nothing =
      finds_then (λ b n. TakenChosen v fields announced n b document) Nothing (λ a b n q s. first_taken v fields announced n empty document a b q s) (λ a w r q f. f) (λ a r q other f start byte last. f) p h in
      finds_as document (TakenChosen v fields announced m) Nothing (λ a s. s) run
