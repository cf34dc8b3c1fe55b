-- Whole pairs that a source has buffered.
use Rattle.std.proofs.Common.{◌≡◌, ℕ, ◌-◌, List, [], ◌∷◌, ◌++◌, length, take, Some, None, refl, sym, ◌∙◌, ap, subst, arith, length-append, take_at, inl, inr}
use Rattle.std.proofs.lemmas.List.{append-nil}
use Rattle.tv_base.specs.Parts.{Each}
use Rattle.tv_builder.specs.Behind.{pairs_parts, document_parts}
use Rattle.tv_builder.specs.Prefix.{EncodesPart, Encoded}
use Rattle.tv_builder.specs.Parts.{Part, number, pair}
use Rattle.tv_builder.proofs.Grammar.{each_append}
use Rattle.tv_builder.specs.Builder.{built, state_of}
use Rattle.tv_reader.specs.Legacy.{Legacy}
use Rattle.tv_format.specs.Encoding.{Encodes, EncodesElements, EncodesEntries, EncodesPair, NoLegacy}
use Rattle.tv_format.specs.Tree.{Tree, leaf, array, object, Elements, no_elements, element, Entries, no_entries, entry, Document}
use Rattle.tv_format.specs.Version.{Version}
use Rattle.tv_builder.specs.HeldPairs.{document_of, heap_of, IsUnchanged}
use Rattle.tv_builder.specs.EncodedPairs.{AddsEncoded, StoodIn}
use Rattle.tv_builder.specs.declared.heap_pairs.HeapPairs.{HeapPairs}
use Rattle.tv_reading.specs.Buffered.{AddsBufferedPairs}
use Rattle.tv_reading.specs.Prefix.{parts_at, parts_read}
use Rattle.tv_reading.specs.Steps.{Advances}
use Rattle.tv_reading.specs.declared.reading.Reading.{Reading}

-- ---- what is encoded without legacy objects is encoded

mutual
  with_legacy : (L : List ℕ → Entries → Type 0) (v : Version) (t : Tree) (b : List ℕ) → Encodes NoLegacy v b t → Encodes L v b t
  with_legacy L v (leaf l) b p = p
  with_legacy L v (array ts) b p =
      let s = p.encoded in
      record { body = p.body; joined = p.joined; encoded = record { prefix = s.prefix; rest = s.rest; joined = s.joined; first = s.first; second = elements_with_legacy L v ts s.rest s.second } }
  with_legacy L v (object es) b (inl p) =
      let s = p.encoded in
      inl (record { body = p.body; joined = p.joined; encoded = record { prefix = s.prefix; rest = s.rest; joined = s.joined; first = s.first; second = entries_with_legacy L v es s.rest s.second } })
  with_legacy L v (object es) b (inr p) = absurd p.encoded

  elements_with_legacy : (L : List ℕ → Entries → Type 0) (v : Version) (ts : Elements) (b : List ℕ) → EncodesElements NoLegacy v b ts → EncodesElements L v b ts
  elements_with_legacy L v no_elements b p = p
  elements_with_legacy L v (element t ts) b p = record { prefix = p.prefix; rest = p.rest; joined = p.joined; first = with_legacy L v t p.prefix p.first; second = elements_with_legacy L v ts p.rest p.second }

  entries_with_legacy : (L : List ℕ → Entries → Type 0) (v : Version) (es : Entries) (b : List ℕ) → EncodesEntries NoLegacy v b es → EncodesEntries L v b es
  entries_with_legacy L v no_entries b p = p
  entries_with_legacy L v (entry k t es) b p =
      let s = p.second in
      record { prefix = p.prefix; rest = p.rest; joined = p.joined; first = p.first; second = record { prefix = s.prefix; rest = s.rest; joined = s.joined; first = with_legacy L v t s.prefix s.first; second = entries_with_legacy L v es s.rest s.second } }

pub pair_with_legacy : (L : List ℕ → Entries → Type 0) (v : Version) (p : ℕ × Tree) (b : List ℕ) → EncodesPair NoLegacy v b p → EncodesPair L v b p
pair_with_legacy L v p b h =
    record { prefix = h.prefix; rest = h.rest; joined = h.joined; first = h.first; second = with_legacy L v p.1 h.rest h.second }

pub pairs_as_parts : (L : List ℕ → Entries → Type 0) (v : Version) (d : Document) (b : List ℕ) → Each (EncodesPair NoLegacy v) b d → Each (EncodesPart L v) b (pairs_parts d)
pairs_as_parts L v [] b h = h
pairs_as_parts L v (p ∷ d) b h = record { prefix = h.prefix; rest = h.rest; joined = h.joined; first = pair_with_legacy L v p h.prefix h.first; second = pairs_as_parts L v d h.rest h.second }

-- ---- more pairs after the finished ones

pairs_append : (d e : Document) → pairs_parts (d ++ e) ≡ pairs_parts d ++ pairs_parts e
pairs_append [] e = refl
pairs_append (p ∷ d) e = ap (λ (z : List Part). pair p.0 p.1 ∷ z) (pairs_append d e)

pairs_behind : (v : Version) (n : ℕ) (d more : Document) (bytes taken : List ℕ) → Each (EncodesPair NoLegacy v) taken more → Encoded Legacy v bytes (document_parts n d) → Encoded Legacy v (bytes ++ taken) (document_parts n (d ++ more))
pairs_behind v n d more bytes taken h p =
    subst (λ z. Encoded Legacy v (bytes ++ taken) (number n ∷ z)) (sym (pairs_append d more))
    (each_append (EncodesPart Legacy v) (document_parts n d) (pairs_parts more) bytes taken p (pairs_as_parts Legacy v more taken h))

parts_of_pairs : (r : Reading) (n : ℕ) → r.announced ≡ Some n → r.field ≡ None → parts_read r ≡ document_parts n (built r.builder)
parts_of_pairs r n a f = λ i. parts_at (a i) (built r.builder) (f i) (state_of r.builder)

-- these bytes encode the pairs that were added
extended_goes : (v : Version) (r : Reading) (n : ℕ) (d more : Document) (taken : List ℕ) → r.announced ≡ Some n → r.field ≡ None → d ≡ built r.builder ++ more → Each (EncodesPair NoLegacy v) taken more
    → (bytes : List ℕ) → Encoded Legacy v bytes (parts_read r) → Encoded Legacy v (bytes ++ taken) (document_parts n d)
extended_goes v r n d more taken announced none is each bytes p =
    subst (λ z. Encoded Legacy v (bytes ++ taken) (document_parts n z)) (sym is)
    (pairs_behind v n (built r.builder) more bytes taken each (subst (λ z. Encoded Legacy v bytes z) (parts_of_pairs r n announced none) p))

-- the bytes before those that are left over
pub taken_prefix : (whole prefix rest : List ℕ) → whole ≡ prefix ++ rest → take (length whole - length rest) whole ≡ prefix
taken_prefix whole prefix rest joined = ap (take (length whole - length rest)) joined ∙ take_at prefix rest (length whole - length rest) (omega (arith, ap length joined, length-append prefix rest))

-- none at all
pub no_pairs : (v : Version) (d : HeapPairs) → AddsBufferedPairs v d d [] 0
no_pairs v d = record { pairs = []; counted = refl; encoded = refl; document = sym (append-nil (document_of d)) }

-- what the document was before, by what was added since
pub stood_in : {v : Version} {whole rest : List ℕ} {n : ℕ} (old now : HeapPairs) (pairs heap : ℕ) → AddsEncoded v old now whole rest n → pairs ≡ length (document_of old) → heap ≡ length (heap_of old) → StoodIn old now pairs heap
stood_in old now pairs heap h p q = record { counted = sym p; heap_length = sym q; start = h.start }

-- or they were taken back
pub none_kept : (v : Version) (old new : HeapPairs) → IsUnchanged old new → AddsBufferedPairs v old new [] 0
none_kept v old new u = record { pairs = []; counted = refl; encoded = refl; document = u.document ∙ sym (append-nil (document_of old)) }

-- as many as were added, of the bytes before those that are left over
pub pairs_taken : (v : Version) (old new : HeapPairs) (whole rest : List ℕ) (n : ℕ) → AddsEncoded v old new whole rest n → AddsBufferedPairs v old new (take (length whole - length rest) whole) n
pairs_taken v old new whole rest n h = record {
  pairs = h.pairs;
  counted = h.counted;
  encoded = subst (λ z. Each (EncodesPair NoLegacy v) z h.pairs) (sym (taken_prefix whole h.encoded.prefix rest h.encoded.joined)) h.encoded.encoded;
  document = h.document;
}

-- the reading goes on with them
pub reading_goes : (v : Version) (r new : Reading) (n m : ℕ) (document more : HeapPairs) (taken : List ℕ) → r.announced ≡ Some n → r.field ≡ None → document_of document ≡ built r.builder → AddsBufferedPairs v document more taken m
    → parts_read new ≡ document_parts n (document_of more) → Advances Legacy v r new taken
reading_goes v r new n m document more taken announced none is h parts = λ bytes p.
    subst (λ z. Encoded Legacy v (bytes ++ taken) z) (sym parts)
    (extended_goes v r n (document_of more) h.pairs taken announced none (h.document ∙ ap (λ z. z ++ h.pairs) is) h.encoded bytes p)
