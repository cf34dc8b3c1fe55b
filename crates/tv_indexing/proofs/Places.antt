-- Terms at places in one list of bytes: the bytes at a place, one term more, the first of them, and their order.
use Rattle.std.proofs.Common.{◌≡◌, ℕ, zero, suc, ◌+◌, ◌-◌, ◌<◌, ◌≤◌, inl, inr, Bool, true, false, cond, List, [], ◌∷◌, ◌++◌, length, take, drop, get_or, Some, refl, sym, ap, subst, ◌∙◌, arith, length-append, length-drop}
use Rattle.std.proofs.lemmas.Bool.{cases_lt}
use Rattle.std.proofs.lemmas.List.{drop-append-le, drop-take, drop_all, get_or-map, length-map, length-take, length-take-le, take-append-drop, take-append-le, take-map, take-take}
use Rattle.std.proofs.lemmas.List.Elements.{All-append, All-cons, All-head, All-nil, All-tail, All-take, All-weaker}
use Rattle.std.proofs.Math.Seq.{drop-length, take-length, drop-append_seam}
use Rattle.std.specs.Cmp.Lexicographic.{slice_cmp}
use Rattle.std.specs.List.{All, dedup, dedup_from}
use Rattle.std.specs.List.Sorted.{IsSorted, IsSortedByKey}
use Rattle.std.specs.Ordering.{nat_cmp}
use Rattle.std.specs.Prelude.{min, slice_get, slice_range, unwrap_or}
use Rattle.tv_indexing.specs.TermPlaces.{AreBehind, ArePlacesHeld, IsWithin, bytes_at, end_of, pieces, place}
use Rattle.tv_indexing.specs.declared.term_list.MovedTerms.{MovedTerms}
use Rattle.tv_indexing.specs.declared.term_list.TermPlace.{TermPlace}

-- ---- the bytes from one place to another

range-append : (bytes more : List ℕ) (start end : ℕ) → start ≤ end → end ≤ length bytes → slice_range (bytes ++ more) start end ≡ slice_range bytes start end
range-append bytes more start end order inside =
    let e = drop-append-le start bytes more (omega arith) in
    let few : end - start ≤ length (drop start bytes) = omega (arith, length-drop start bytes) in
    ap (take (end - start)) e ∙ take-append-le (end - start) (drop start bytes) more few

last_range : (bytes more : List ℕ) → slice_range (bytes ++ more) (length bytes) (length (bytes ++ more)) ≡ more
last_range bytes more =
    let size : length (bytes ++ more) - length bytes ≡ length more = omega (arith, length-append bytes more) in
    ap (λ n. take n (drop (length bytes) (bytes ++ more))) size ∙ ap (take (length more)) (drop-append_seam bytes more) ∙ take-length more

range-take : (bytes : List ℕ) (n start end : ℕ) → start ≤ end → end ≤ n → slice_range (take n bytes) start end ≡ slice_range bytes start end
range-take bytes n start end order inside =
    let whole : n ≡ start + (n - start) = omega arith in
    ap (λ m. take (end - start) (drop start (take m bytes))) whole ∙ ap (take (end - start)) (drop-take start (n - start) bytes)
    ∙ take-take (end - start) (n - start) (drop start bytes) (omega arith)

-- ---- places one after the other

within_more : (total more : ℕ) → total ≤ more → (place : TermPlace) → IsWithin total place → IsWithin more place
within_more total more le place within = record { long = within.long; inside = omega (arith, within.inside) }

behind_below : (start total : ℕ) (places : List TermPlace) → AreBehind start places total → start ≤ total
behind_below start total [] h = omega (arith, h)
behind_below start total (first ∷ places) h =
    omega (arith, h.0, h.1, behind_below first.end total places h.2)

behind-within : (start total : ℕ) (places : List TermPlace) → AreBehind start places total → All (IsWithin total) places
behind-within start total [] h = All-nil (IsWithin total)
behind-within start total (first ∷ places) h =
    let within : IsWithin total first = record { long = omega (arith, h.0, h.1); inside = behind_below first.end total places h.2 } in
    All-cons (IsWithin total) first places within (behind-within first.end total places h.2)

behind-push : (start total more : ℕ) (places : List TermPlace) → total + 5 ≤ more → AreBehind start places total → AreBehind start (places ++ place total more ∷ []) more
behind-push start total more [] room h = (sym h, omega arith, refl)
behind-push start total more (first ∷ places) room h =
    (h.0, h.1, behind-push first.end total more places room h.2)

behind-take : (start total n : ℕ) (places : List TermPlace) → AreBehind start places total → AreBehind start (take n places) (end_of start (take n places))
behind-take start total zero places h = refl
behind-take start total (suc n) [] h = refl
behind-take start total (suc n) (first ∷ places) h =
    (h.0, h.1, behind-take first.end total n places h.2)

end_of-take : (start total n : ℕ) (places : List TermPlace) → AreBehind start places total → end_of start (take n places) ≤ total
end_of-take start total zero places h = behind_below start total places h
end_of-take start total (suc n) [] h = omega (arith, h)
end_of-take start total (suc n) (first ∷ places) h = end_of-take first.end total n places h.2

-- where the last one ends, if there is one after the first ones
pub end_of-last : (start : ℕ) (places : List TermPlace) (few n : ℕ) (last : TermPlace) → few < length places → suc n ≡ length places → Some last ≡ slice_get places n
    → last.end ≡ end_of start (drop few places)
end_of-last start [] few n last more size at = absurd (omega arith)
end_of-last start (first ∷ []) zero zero last more size at = ap (λ found. (unwrap_or found last).end) at
end_of-last start (first ∷ []) zero (suc n) last more size at = absurd (omega (arith, size))
end_of-last start (first ∷ second ∷ places) zero zero last more size at = absurd (omega (arith, size))
end_of-last start (first ∷ second ∷ places) zero (suc n) last more size at =
    end_of-last first.end (second ∷ places) 0 n last (omega arith) (omega (arith, size)) at
end_of-last start (first ∷ places) (suc few) zero last more size at = absurd (omega (arith, size))
end_of-last start (first ∷ places) (suc few) (suc n) last more size at =
    end_of-last start places few n last (omega arith) (omega (arith, size)) at

-- ---- all places

pub all-within : (bytes : List ℕ) (places : List TermPlace) (moved : MovedTerms) → ArePlacesHeld bytes places moved → All (IsWithin (length bytes)) places
all-within bytes places moved held =
    let total = length bytes in
    let front = All-weaker (IsWithin moved.bytes) (IsWithin total) (within_more moved.bytes total (behind_below moved.bytes total (drop moved.len places) held.others_behind)) (take moved.len places) held.moved_within in
    let back = behind-within moved.bytes total (drop moved.len places) held.others_behind in
    subst (All (IsWithin total)) (take-append-drop moved.len places) (All-append (IsWithin total) (take moved.len places) (drop moved.len places) front back)

-- ---- the one at an index

pub piece_found : (bytes : List ℕ) (places : List TermPlace) (i : ℕ) (found : TermPlace) → i < length places → found ≡ get_or places i found → Some (bytes_at bytes found) ≡ slice_get (pieces bytes places) i
piece_found bytes [] i found inside at = absurd (omega arith)
piece_found bytes (first ∷ places) zero found inside at = ap (λ place. Some (bytes_at bytes place)) at
piece_found bytes (first ∷ places) (suc i) found inside at = piece_found bytes places i found (omega arith) at

-- it has the bytes of a field and of the code of a type
pub found_long : (bytes : List ℕ) (places : List TermPlace) (moved : MovedTerms) (i : ℕ) (found : TermPlace) → ArePlacesHeld bytes places moved → i < length places → found ≡ get_or places i found → 5 ≤ length (bytes_at bytes found)
found_long bytes places moved i found held inside at =
    let within : IsWithin (length bytes) found = subst (IsWithin (length bytes)) (sym at) (all-within bytes places moved held i found inside) in
    omega (arith, within.long, within.inside, length-take (found.end - found.start) (drop found.start bytes), length-drop found.start bytes)

-- ---- places that were moved, and one more

-- all of them were moved
pub AreHeld-moved : (bytes : List ℕ) (places : List TermPlace) (moved : MovedTerms) → moved.len ≡ length places → moved.bytes ≡ length bytes → All (IsWithin (length bytes)) places → ArePlacesHeld bytes places moved
AreHeld-moved bytes places moved all total within = record {
  moved_within = rw (all, total) (All-take (IsWithin (length bytes)) (length places) places within);
  others_behind = rw (all, drop-length places) total;
  few_moved = omega (arith, all);
}

pub AreHeld-push : (bytes more : List ℕ) (places : List TermPlace) (moved : MovedTerms) → 5 ≤ length more → ArePlacesHeld bytes places moved
    → ArePlacesHeld (bytes ++ more) (places ++ place (length bytes) (length (bytes ++ more)) ∷ []) moved
AreHeld-push bytes more places moved long held =
    let last = place (length bytes) (length (bytes ++ more)) in
    let few = held.few_moved in
    record {
      moved_within = rw (take-append-le moved.len places (last ∷ []) few) held.moved_within;
      others_behind = rw (drop-append-le moved.len places (last ∷ []) few) (behind-push moved.bytes (length bytes) (length (bytes ++ more)) (drop moved.len places) (omega (arith, length-append bytes more)) held.others_behind);
      few_moved = omega (arith, length-append places (last ∷ []));
    }

-- where the first of them end
abbrev pub kept_end : MovedTerms → List TermPlace → ℕ → ℕ
kept_end moved places len = end_of moved.bytes (drop (min moved.len len) (take len places))

-- ---- one more, and the first of them

pieces-append : (bytes more : List ℕ) (places : List TermPlace) → All (IsWithin (length bytes)) places → pieces (bytes ++ more) places ≡ pieces bytes places
pieces-append bytes more [] held = refl
pieces-append bytes more (first ∷ places) held =
    let within = All-head (IsWithin (length bytes)) first places held in
    ap (λ piece. piece ∷ pieces (bytes ++ more) places) (range-append bytes more first.start first.end (omega (arith, within.long)) within.inside)
    ∙ ap (λ ps. bytes_at bytes first ∷ ps) (pieces-append bytes more places (All-tail (IsWithin (length bytes)) first places held))

map-append : (bytes : List ℕ) (places others : List TermPlace) → pieces bytes (places ++ others) ≡ pieces bytes places ++ pieces bytes others
map-append bytes [] others = refl
map-append bytes (first ∷ places) others = ap (λ ps. bytes_at bytes first ∷ ps) (map-append bytes places others)

pub pieces-push : (bytes more : List ℕ) (places : List TermPlace) → All (IsWithin (length bytes)) places
    → pieces (bytes ++ more) (places ++ place (length bytes) (length (bytes ++ more)) ∷ []) ≡ pieces bytes places ++ more ∷ []
pieces-push bytes more places held =
    map-append (bytes ++ more) places (place (length bytes) (length (bytes ++ more)) ∷ [])
    ∙ ap (λ ps. ps ++ bytes_at (bytes ++ more) (place (length bytes) (length (bytes ++ more))) ∷ []) (pieces-append bytes more places held)
    ∙ ap (λ piece. pieces bytes places ++ piece ∷ []) (last_range bytes more)

pieces-within : (bytes : List ℕ) (n : ℕ) (places : List TermPlace) → All (IsWithin n) places → pieces (take n bytes) places ≡ pieces bytes places
pieces-within bytes n [] held = refl
pieces-within bytes n (first ∷ places) held =
    let within = All-head (IsWithin n) first places held in
    ap (λ piece. piece ∷ pieces (take n bytes) places) (range-take bytes n first.start first.end (omega (arith, within.long)) within.inside)
    ∙ ap (λ ps. bytes_at bytes first ∷ ps) (pieces-within bytes n places (All-tail (IsWithin n) first places held))

cut-behind : (moved : MovedTerms) (places : List TermPlace) (len total : ℕ) → len ≤ length places → AreBehind moved.bytes (drop moved.len places) total
    → AreBehind moved.bytes (drop (min moved.len len) (take len places)) (kept_end moved places len) × (kept_end moved places len ≤ total)
cut-behind moved places len total few behind = elim (cases_lt len moved.len) [
  | inl less ↦
      let none : drop (min moved.len len) (take len places) ≡ [] = drop_all (min moved.len len) (take len places) (omega (arith, length-take len places)) in
      rw none (refl, behind_below moved.bytes total (drop moved.len places) behind)
  | inr most ↦
      let same : min moved.len len ≡ moved.len = omega arith in
      let whole : len ≡ moved.len + (len - moved.len) = omega arith in
      let rest : drop (min moved.len len) (take len places) ≡ take (len - moved.len) (drop moved.len places) = ap (λ n. drop n (take len places)) same ∙ ap (λ n. drop moved.len (take n places)) whole ∙ drop-take moved.len (len - moved.len) places in
      rw rest (behind-take moved.bytes total (len - moved.len) (drop moved.len places) behind, end_of-take moved.bytes total (len - moved.len) (drop moved.len places) behind)
]

pub AreHeld-truncated : (bytes : List ℕ) (places : List TermPlace) (moved : MovedTerms) (len : ℕ) → len ≤ length places → ArePlacesHeld bytes places moved
    → ArePlacesHeld (take (kept_end moved places len) bytes) (take len places) record { len = min moved.len len; bytes = moved.bytes }
AreHeld-truncated bytes places moved len few held =
    let cut = cut-behind moved places len (length bytes) few held.others_behind in
    let few_moved : min moved.len len ≤ len = omega arith in
    let fewer : min moved.len len ≤ moved.len = omega arith in
    let front : take (min moved.len len) (take len places) ≡ take (min moved.len len) (take moved.len places) = take-take (min moved.len len) len places few_moved ∙ sym (take-take (min moved.len len) moved.len places fewer) in
    record {
      moved_within = rw front (All-take (IsWithin moved.bytes) (min moved.len len) (take moved.len places) held.moved_within);
      others_behind = rw (length-take-le (kept_end moved places len) bytes cut.1) cut.0;
      few_moved = omega (arith, length-take len places);
    }

pub pieces-truncated : (bytes : List ℕ) (places : List TermPlace) (moved : MovedTerms) (len : ℕ) → len ≤ length places → ArePlacesHeld bytes places moved
    → pieces (take (kept_end moved places len) bytes) (take len places) ≡ take len (pieces bytes places)
pieces-truncated bytes places moved len few held =
    let cut = cut-behind moved places len (length bytes) few held.others_behind in
    let size = length-take-le (kept_end moved places len) bytes cut.1 in
    let within = all-within (take (kept_end moved places len) bytes) (take len places) record { len = min moved.len len; bytes = moved.bytes } (AreHeld-truncated bytes places moved len few held) in
    pieces-within bytes (kept_end moved places len) (take len places) (rw size at within) ∙ sym (take-map (bytes_at bytes) len places)

-- ---- order

no_place : TermPlace
no_place = place 0 0

pub pieces-sorted : (bytes : List ℕ) (places : List TermPlace) → IsSortedByKey (bytes_at bytes) (slice_cmp nat_cmp) places → IsSorted (slice_cmp nat_cmp) (pieces bytes places)
pieces-sorted bytes places sorted = λ k d low high.
    let size : length (pieces bytes places) ≡ length places = length-map places (bytes_at bytes) in
    let later = get_or-map (bytes_at bytes) places (k + 1) no_place d (omega arith) in
    let earlier = get_or-map (bytes_at bytes) places k no_place d (omega arith) in
    rw (later, earlier) (sorted k no_place low (omega arith))

module _ (bytes : List ℕ) (E : List ℕ → List ℕ → Bool) where
  abbrev same : TermPlace → TermPlace → Bool
  same x y = E (bytes_at bytes x) (bytes_at bytes y)

  chosen : (b : Bool) (xs ys : List TermPlace) → pieces bytes (cond b xs ys) ≡ cond b (pieces bytes xs) (pieces bytes ys)
  chosen true xs ys = refl
  chosen false xs ys = refl

  pieces-dedup_from : (kept : TermPlace) (places : List TermPlace) → pieces bytes (dedup_from same kept places) ≡ dedup_from E (bytes_at bytes kept) (pieces bytes places)
  pieces-dedup_from kept [] = refl
  pieces-dedup_from kept (first ∷ places) =
      chosen (same first kept) (dedup_from same kept places) (kept ∷ dedup_from same first places)
      ∙ ap (λ ps. cond (same first kept) ps (bytes_at bytes kept ∷ pieces bytes (dedup_from same first places))) (pieces-dedup_from kept places)
      ∙ ap (λ ps. cond (same first kept) (dedup_from E (bytes_at bytes kept) (pieces bytes places)) (bytes_at bytes kept ∷ ps)) (pieces-dedup_from first places)

  pub pieces-dedup : (places : List TermPlace) → pieces bytes (dedup same places) ≡ dedup E (pieces bytes places)
  pieces-dedup [] = refl
  pieces-dedup (first ∷ places) = pieces-dedup_from first places
