-- The first bytes of a block, by a mask.
use Rattle.std.proofs.Common.{◌≡◌, ℕ, ◌+◌, ◌-◌, ◌%◌, ◌<◌, ◌≤◌, List, ◌++◌, length, get_or, take, drop, replicate, bit_and, refl, sym, ap, ◌∙◌, inl, inr, arith, length-append}
use Rattle.std.proofs.lemmas.Bool.{cases_lt}
use Rattle.std.proofs.lemmas.Grind.{and_numeral}
use Rattle.std.proofs.lemmas.List.{drop-append-le, drop-replicate, take-replicate, ext_get_or, get_or-replicate, get_or-take, get_or_append_left, get_or-append_right, get_or_past, length-replicate, length-take-le}
use Rattle.std.proofs.Math.Seq.{take-append-add}
use Rattle.std.specs.Int.Bits.{and_zero_r}

-- this many of these numbers
abbrev ones : ℕ → List ℕ
ones n = replicate n 255

abbrev zeros : ℕ → List ℕ
zeros n = replicate n 0

pub mask_is : (n : ℕ) → n ≤ 64 → take 64 (drop (64 - n) (ones 64 ++ zeros 64)) ≡ ones n ++ zeros (64 - n)
mask_is n h =
    let first : drop (64 - n) (ones 64 ++ zeros 64) ≡ ones (64 - (64 - n)) ++ zeros 64 = drop-append-le (64 - n) (ones 64) (zeros 64) (omega arith) ∙ ap (λ z. z ++ zeros 64) (drop-replicate (64 - n) 64 255) in
    let many : 64 - (64 - n) ≡ n = omega arith in
    let whole : 64 ≡ length (ones n) + (64 - n) = omega (arith, length-replicate {A = ℕ} n 255) in
    let cut : take 64 (ones n ++ zeros 64) ≡ ones n ++ take (64 - n) (zeros 64) = ap (λ k. take k (ones n ++ zeros 64)) whole ∙ take-append-add (ones n) (zeros 64) (64 - n) in
    ap (take 64) (first ∙ ap (λ k. ones k ++ zeros 64) many) ∙ cut ∙ ap (λ z. ones n ++ z) (take-replicate (64 - n) 64 0 (omega arith))

zero_past : (m i : ℕ) → get_or (zeros m) i 0 ≡ 0
zero_past m i = elim (cases_lt i m) [ inl l ↦ get_or-replicate m i 0 0 l | inr g ↦ get_or_past (zeros m) i 0 (omega (arith, length-replicate {A = ℕ} m 0)) ]

-- a byte before the end, and one after it
kept : (block : List ℕ) (n i : ℕ) → length block ≡ 64 → n ≤ 64 → i < n → get_or block i 0 < 256 → bit_and (get_or block i 0) (get_or (ones n ++ zeros (64 - n)) i 0) ≡ get_or (take n block ++ zeros (64 - n)) i 0
kept block n i long h l small =
    let one : get_or (ones n ++ zeros (64 - n)) i 0 ≡ 255 = get_or_append_left (ones n) (zeros (64 - n)) 0 i (omega (arith, length-replicate {A = ℕ} n 255)) ∙ get_or-replicate n i 255 0 l in
    let b = get_or block i 0 in
    let whole : bit_and b 255 ≡ b % 256 = and_numeral b 254 refl in
    ap (bit_and b) one ∙ whole ∙ omega (arith, small) ∙ sym (get_or-take n block i 0 l) ∙ sym (get_or_append_left (take n block) (zeros (64 - n)) 0 i (omega (arith, length-take-le n block (omega (arith, long)))))

cut_off : (block : List ℕ) (n i : ℕ) → length block ≡ 64 → n ≤ 64 → n ≤ i → bit_and (get_or block i 0) (get_or (ones n ++ zeros (64 - n)) i 0) ≡ get_or (take n block ++ zeros (64 - n)) i 0
cut_off block n i long h g =
    let none : get_or (ones n ++ zeros (64 - n)) i 0 ≡ 0 = get_or-append_right (ones n) (zeros (64 - n)) n i 0 (length-replicate {A = ℕ} n 255) g ∙ zero_past (64 - n) (i - n) in
    let behind = get_or-append_right (take n block) (zeros (64 - n)) n i 0 (length-take-le n block (omega (arith, long))) g ∙ zero_past (64 - n) (i - n) in
    ap (bit_and (get_or block i 0)) none ∙ and_zero_r (get_or block i 0) ∙ sym behind

pub prefix_is : (block masked mask : List ℕ) (n : ℕ) → n ≤ 64 → length block ≡ 64 → ((i : ℕ) → get_or block i 0 < 256) → mask ≡ ones n ++ zeros (64 - n) → length masked ≡ 64
    → ((i : ℕ) → i < 64 → get_or masked i 0 ≡ bit_and (get_or block i 0) (get_or mask i 0)) → masked ≡ take n block ++ zeros (64 - n)
prefix_is block masked mask n h long small is same lanes =
    let sizes : length masked ≡ length (take n block ++ zeros (64 - n)) = omega (arith, same, length-append (take n block) (zeros (64 - n)), length-take-le n block (omega (arith, long)), length-replicate {A = ℕ} (64 - n) 0) in
    ext_get_or 0 masked (take n block ++ zeros (64 - n)) sizes (λ i l.
    let within : i < 64 = omega (arith, same, l) in
    lanes i within ∙ ap (λ m. bit_and (get_or block i 0) (get_or m i 0)) is ∙ elim (cases_lt i n) [ inl b ↦ kept block n i long h b (small i) | inr g ↦ cut_off block n i long h (omega arith) ])
