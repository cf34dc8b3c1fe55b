use Rattle.std.proofs.Common.{◌≡◌, ℕ, ◌≤◌, ◌%◌, ◌^◌, List, length, get_or, take, replicate, map, w8, Bool, not, arith, ap, ◌∙◌, subst, inl, inr}
use Rattle.std.proofs.Math.Dec.{leb}
use Rattle.std.proofs.lemmas.Bool.{cases_lt, leb-true, leb-false, not-true}
use Rattle.std.proofs.lemmas.List.{get_or-take, get_or_past, length-map, length-take-le}
use Rattle.std.proofs.lemmas.List.Sums.{prefix_len_passes}
use Rattle.std.proofs.lemmas.Simd.{leading_from_mask_l, mask_l-mod, tops_compared, trailing_mask_l, zip2_splat_left}
use Rattle.std.specs.Int.Count.{count_trailing_zeros}
use Rattle.std.specs.List.{prefix_len}
use Rattle.std.specs.Simd.Lanes.{mask_l}
use Rattle.tv_value.proofs.utf8.is_ascii_prefix.Goals as goal

-- whether a byte isn't ASCII
abbrev is_high : ℕ → Bool
is_high byte = leb 128 byte

-- as many lanes are ASCII as zeros stand at the end of the mask
leads : (lanes : List ℕ) (len : ℕ) → length lanes ≡ 16 → len ≤ 16 → len ≤ count_trailing_zeros 64 (mask_l (map is_high lanes)) → len ≤ prefix_len (λ byte. not (is_high byte)) lanes
leads lanes len sixteen few zeros = elim (cases_lt 0 (mask_l (map is_high lanes))) [
  | inl some ↦ omega (arith, zeros, trailing_mask_l is_high 64 lanes (omega (arith, sixteen)) some)
  | inr none ↦ omega (arith, few, sixteen, leading_from_mask_l is_high lanes (omega (arith, none)))
]

pub returns : goal.returns
returns c told i =
    let bytes = c.args.bytes.now in
    let lanes = take 16 bytes in
    let sixteen : length lanes ≡ 16 = length-take-le 16 bytes c.requires.at_least_16 in
    let mask = ap (λ m. mask_l m % 2 ^ 64) (tops_compared w8 leb (replicate 16 128) lanes ∙ zip2_splat_left leb 128 16 lanes sixteen) ∙ mask_l-mod (map is_high lanes) 64 (omega (arith, sixteen, length-map lanes is_high)) in
    let zeros : c.args.len ≤ count_trailing_zeros 64 (mask_l (map is_high lanes)) = subst (λ m. c.args.len ≤ count_trailing_zeros 64 m) mask (leb-true _ _ told) in
    elim (cases_lt i c.args.len) [
      | inl within ↦
          let passes = prefix_len_passes (λ byte. not (is_high byte)) lanes i 0 (omega (arith, within, leads lanes c.args.len sixteen c.requires.at_most_16 zeros)) in
          let low = leb-false 128 (get_or lanes i 0) (not-true _ passes) in
          omega (arith, low, get_or-take c.args.len bytes i 0 within, get_or-take 16 bytes i 0 (omega (arith, within, c.requires.at_most_16)))
      | inr past ↦ omega (arith, get_or_past (take c.args.len bytes) i 0 (omega (arith, past, length-take-le c.args.len bytes (omega (arith, c.requires.at_least_16, c.requires.at_most_16)))))
    ]
