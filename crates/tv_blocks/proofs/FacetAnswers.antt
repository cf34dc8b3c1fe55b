-- Facets of documents are counted in one way, or refused in one way.
use Rattle.std.proofs.Common.{◌≡◌, ◌∙◌, ◌∷◌, ◌++◌, ◌<◌, ◌^◌, ℕ, List, [], refl, sym, ap, arith, length, length-append, append-nil, append_assoc, take, drop, subst}
use Rattle.std.proofs.lemmas.List.{append_cancel_left}
use Rattle.std.proofs.lemmas.Nat.{from_le_bytes-to_le_bytes_8}
use Rattle.std.proofs.Math.Seq.{take-append_seam}
use Rattle.std.specs.Int.{from_le_bytes, to_le_bytes, w64}
use Rattle.std.specs.List.{AllByRecursion, flat_map}
use Rattle.tv_base.specs.DocumentCounting.{AreDocumentCounts}
use Rattle.tv_base.proofs.OneCount.{same-document_counts}
use Rattle.tv_blocks.proofs.FacetPairs.{parts_of, told}
use Rattle.tv_blocks.specs.Alike.{HasOneAnswer, IsDecided}
use Rattle.tv_blocks.specs.FacetCounts.{AreDocumentFacets, AreFacetCounts, IsCountsRefusal, IsDocumentFacet, StopsPairs, facet_record}
use Rattle.tv_blocks.specs.declared.block_error.BlockError.{BlockError}
use Rattle.tv_blocks.specs.declared.block_error.BlockError.TheVariants as errors

-- bytes begin with one record
record_one : (bytes : List ℕ) (one other : List ℕ × ℕ) (rest left : List ℕ) → length bytes < 2 ^ 64 → IsDocumentFacet one → IsDocumentFacet other
    → bytes ≡ facet_record one ++ rest → bytes ≡ facet_record other ++ left → (one ≡ other) × (rest ≡ left)
record_one bytes (facet, number) (twin, document) rest left few is_one is_other first second =
    let p = parts_of bytes facet rest number first in
    let q = parts_of bytes twin left document second in
    let len = from_le_bytes w64 (take 8 (drop 8 bytes)) in
    let lengths : length facet ≡ length twin =
    sym (told bytes facet rest number len (take 8 (drop 8 bytes)) first few refl refl) ∙ told bytes twin left document len (take 8 (drop 8 bytes)) second few refl refl in
    let joined : facet ++ rest ≡ twin ++ left = sym p.more ∙ q.more in
    let facets : facet ≡ twin = sym (take-append_seam facet rest) ∙ (λ i. take (lengths i) (joined i)) ∙ take-append_seam twin left in
    let tails : rest ≡ left = append_cancel_left facet rest left (joined ∙ ap (λ l. l ++ left) (sym facets)) in
    let numbers : number ≡ document =
    sym (from_le_bytes-to_le_bytes_8 number is_one.1) ∙ ap (from_le_bytes w64) (sym (head_of facet rest number first) ∙ head_of twin left document second) ∙ from_le_bytes-to_le_bytes_8 document is_other.1 in
    ((λ i. (facets i, numbers i)), tails)
  where
    head_of : (text behind : List ℕ) (n : ℕ) → bytes ≡ facet_record (text, n) ++ behind → take 8 bytes ≡ to_le_bytes w64 n
    head_of text behind n is =
        ap (take 8) (is ∙ append_assoc (to_le_bytes w64 n) (to_le_bytes w64 (length text) ++ text) behind) ∙ take-append_seam (to_le_bytes w64 n) ((to_le_bytes w64 (length text) ++ text) ++ behind)

-- two lists of records with which the same bytes begin are one list, or one goes on where the other ends
data Walked (pairs others : List (List ℕ × ℕ)) (rest left : List ℕ) : Type 0 where
  same_pairs : pairs ≡ others → rest ≡ left → Walked pairs others rest left
  first_ends : (pair : List ℕ × ℕ) (behind : List ℕ) → IsDocumentFacet pair → rest ≡ facet_record pair ++ behind → Walked pairs others rest left
  second_ends : (pair : List ℕ × ℕ) (behind : List ℕ) → IsDocumentFacet pair → left ≡ facet_record pair ++ behind → Walked pairs others rest left

onto : {pairs others : List (List ℕ × ℕ)} {rest left : List ℕ} (one other : List ℕ × ℕ) → one ≡ other → Walked pairs others rest left → Walked (one ∷ pairs) (other ∷ others) rest left
onto one other same (same_pairs pairs tails) = same_pairs (λ i. same i ∷ pairs i) tails
onto one other same (first_ends pair behind is_pair is) = first_ends pair behind is_pair is
onto one other same (second_ends pair behind is_pair is) = second_ends pair behind is_pair is

walked : (pairs others : List (List ℕ × ℕ)) (rest left : List ℕ) → AllByRecursion IsDocumentFacet pairs → AllByRecursion IsDocumentFacet others
    → flat_map facet_record pairs ++ rest ≡ flat_map facet_record others ++ left → length (flat_map facet_record pairs ++ rest) < 2 ^ 64 → Walked pairs others rest left
walked [] [] rest left h k joined few = same_pairs refl joined
walked [] (other ∷ others) rest left h k joined few = first_ends other (flat_map facet_record others ++ left) k.0 (joined ∙ append_assoc (facet_record other) (flat_map facet_record others) left)
walked (one ∷ pairs) [] rest left h k joined few = second_ends one (flat_map facet_record pairs ++ rest) h.0 (sym joined ∙ append_assoc (facet_record one) (flat_map facet_record pairs) rest)
walked (one ∷ pairs) (other ∷ others) rest left h k joined few =
    let first = append_assoc (facet_record one) (flat_map facet_record pairs) rest in
    let second = joined ∙ append_assoc (facet_record other) (flat_map facet_record others) left in
    let bytes = flat_map facet_record (one ∷ pairs) ++ rest in
    let both = record_one bytes one other (flat_map facet_record pairs ++ rest) (flat_map facet_record others ++ left) few h.0 k.0 first second in
    let long = (parts_of bytes one.0 (flat_map facet_record pairs ++ rest) one.1 first).long in
    onto one other both.0 (walked pairs others rest left h.1 k.1 both.1 (omega (arith, few, long)))

no_record : (pair : List ℕ × ℕ) (behind : List ℕ) → [] ≡ facet_record pair ++ behind → ⊥
no_record pair behind is = let long = (parts_of [] pair.0 behind pair.1 is).long in omega (arith, long)

module _ (parent bytes : List ℕ) (few : length bytes < 2 ^ 64) where
  walk : (pairs others : List (List ℕ × ℕ)) (before behind front rest : List ℕ) → AreDocumentFacets before pairs → AreDocumentFacets front others → bytes ≡ before ++ behind → bytes ≡ front ++ rest
      → Walked pairs others behind rest
  walk pairs others before behind front rest h k first second =
      let mine : bytes ≡ flat_map facet_record pairs ++ behind = first ∙ ap (λ l. l ++ behind) h.1 in
      let yours : bytes ≡ flat_map facet_record others ++ rest = second ∙ ap (λ l. l ++ rest) k.1 in
      walked pairs others behind rest h.0 k.0 (sym mine ∙ yours) (omega (arith, few, ap length mine))

  whole : bytes ≡ bytes ++ []
  whole = sym (append-nil bytes)

  answer_one : (content other : List ℕ) → AreFacetCounts parent bytes content → AreFacetCounts parent bytes other → content ≡ other
  answer_one content other (text, pairs, good, counts, are, is) (twin, others, fine, found, alike, so) = by (walk pairs others bytes [] bytes [] good fine whole whole)
    where
      by : Walked pairs others [] [] → content ≡ other
      by (same_pairs same tails) =
          let counted = same-document_counts parent others counts found (subst (λ (l : List (List ℕ × ℕ)). AreDocumentCounts parent l counts) same are) alike in
          is ∙ ap (flat_map facet_record) counted ∙ sym so
      by (first_ends pair behind is_pair begins) = absurd (no_record pair behind begins)
      by (second_ends pair behind is_pair begins) = absurd (no_record pair behind begins)

  stops_one : (start other : ℕ) → StopsPairs bytes start → StopsPairs bytes other → start ≡ other
  stops_one start other h k = by h.good k.good
    where
      at : (pairs others : List (List ℕ × ℕ)) → Walked pairs others h.behind k.behind → start ≡ other
      at pairs others (same_pairs same tails) =
          omega (arith, ap length tails, ap length (sym h.joined ∙ k.joined), length-append h.before h.behind, length-append k.before k.behind, h.measured, k.measured)
      at pairs others (first_ends pair behind is_pair begins) = absurd (h.refused pair behind is_pair begins)
      at pairs others (second_ends pair behind is_pair begins) = absurd (k.refused pair behind is_pair begins)

      by : (pairs : List (List ℕ × ℕ)) × AreDocumentFacets h.before pairs → (others : List (List ℕ × ℕ)) × AreDocumentFacets k.before others → start ≡ other
      by (pairs, good) (others, fine) = at pairs others (walk pairs others h.before h.behind k.before k.behind good fine h.joined k.joined)

  never_stops : (pairs : List (List ℕ × ℕ)) (start : ℕ) → AreDocumentFacets bytes pairs → StopsPairs bytes start → ⊥
  never_stops pairs start good k = by k.good
    where
      at : (others : List (List ℕ × ℕ)) → Walked pairs others [] k.behind → ⊥
      at others (same_pairs same tails) = k.some (sym tails)
      at others (first_ends pair behind is_pair begins) = no_record pair behind begins
      at others (second_ends pair behind is_pair begins) = k.refused pair behind is_pair begins

      by : (others : List (List ℕ × ℕ)) × AreDocumentFacets k.before others → ⊥
      by (others, fine) = at others (walk pairs others bytes [] k.before k.behind good fine whole k.joined)

  error_one : (one other : BlockError) → IsDecided one → IsDecided other → IsCountsRefusal parent bytes one → IsCountsRefusal parent bytes other → one ≡ other
  error_one errors.NotUtf8 errors.NotUtf8 decided too h k = refl
  error_one errors.NotUtf8 (errors.BadPair start) decided too h k = absurd (h k.0)
  error_one (errors.BadPair start) errors.NotUtf8 decided too h k = absurd (k h.0)
  error_one (errors.BadPair start) (errors.BadPair other) decided too h k = ap errors.BadPair (stops_one start other h.1 k.1)
  error_one errors.NotUtf8 other decided too h k = absurd k
  error_one (errors.BadPair start) other decided too h k = absurd k
  error_one one other decided too h k = absurd h

  apart_from : (content : List ℕ) (error : BlockError) → IsDecided error → AreFacetCounts parent bytes content → IsCountsRefusal parent bytes error → ⊥
  apart_from content errors.NotUtf8 decided h k = k h.0
  apart_from content (errors.BadPair start) decided (text, pairs, good, counts, are, is) k = never_stops pairs start good k.1
  apart_from content error decided h k = k

  pub counts_answer : HasOneAnswer (AreFacetCounts parent bytes) (IsCountsRefusal parent bytes)
  counts_answer = record { answer = answer_one; error = error_one; apart = apart_from }
