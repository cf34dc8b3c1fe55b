-- The common prefix of two lists of bytes.
use Rattle.std.proofs.Common.{Fits, w8, ◌≡◌, ℕ, suc, ◌+◌, ◌<◌, ◌≤◌, Bool, true, false, List, [], ◌∷◌, ◌++◌, cond, get_or, length, drop, take, leb, ltb, min, nat_eq, refl, sym, ap, ◌∙◌, arith}
use Rattle.std.proofs.lemmas.List.{take-append-drop, length-take, length-drop, drop_all, drop-drop, get_or-drop, get_or-take, get_or_past}
use Rattle.std.proofs.lemmas.Bool.{ltb-false, ltb-true}
use Rattle.std.proofs.lemmas.Nat.{le_bytes_8}
use Rattle.std.proofs.Math.Facts.{Fits-lt-pow}
use Rattle.std.specs.Int.{from_le_bytes, to_le_bytes, w64}
use Rattle.tv_blocks.specs.SchemaTerms.{common_len}

eqb-refl : (n : ℕ) → nat_eq n n ≡ true
eqb-refl n = grind arith

-- what both begin with
common_len-shared : (shared xs ys : List ℕ) → common_len (shared ++ xs) (shared ++ ys) ≡ length shared + common_len xs ys
common_len-shared [] xs ys = omega arith
common_len-shared (b ∷ shared) xs ys =
    ap (λ (t : Bool). cond t (1 + common_len (shared ++ xs) (shared ++ ys)) 0) (eqb-refl b) ∙ ap (λ (n : ℕ). 1 + n) (common_len-shared shared xs ys) ∙ omega arith

pub common_len-take : (n : ℕ) (xs ys : List ℕ) → n ≤ length xs → take n xs ≡ take n ys → common_len xs ys ≡ n + common_len (drop n xs) (drop n ys)
common_len-take n xs ys long same =
    ap (λ (l : List ℕ). common_len l ys) (sym (take-append-drop n xs)) ∙ ap (common_len (take n xs ++ drop n xs)) (sym (take-append-drop n ys))
    ∙ ap (λ (l : List ℕ). common_len (take n xs ++ drop n xs) (l ++ drop n ys)) (sym same) ∙ common_len-shared (take n xs) (drop n xs) (drop n ys)
    ∙ ap (λ (k : ℕ). k + common_len (drop n xs) (drop n ys)) (length-take n xs ∙ omega (arith, long))

-- ---- eight bytes at a time

below_256 : (bytes : List ℕ) → ((i : ℕ) → Fits w8 (get_or bytes i 0)) → (at i : ℕ) → get_or (take 8 (drop at bytes)) i 0 < 256
below_256 bytes small at i = cases (ltb i 8) refl where
  cases : (b : Bool) → ltb i 8 ≡ b → get_or (take 8 (drop at bytes)) i 0 < 256
  cases true within = let here = get_or-take 8 (drop at bytes) i 0 (ltb-true i 8 within) ∙ get_or-drop at bytes i 0 in let fits = Fits-lt-pow (small (at + i)) in omega (arith, here, fits)
  cases false past = let none = get_or_past (take 8 (drop at bytes)) i 0 (omega (arith, length-take 8 (drop at bytes), ltb-false i 8 past)) in omega (arith, none)

-- the bytes of a number are those that it was read from
same_bytes : (xs ys : List ℕ) (n m : ℕ) → length xs ≡ 8 → length ys ≡ 8 → ((i : ℕ) → get_or xs i 0 < 256) → ((i : ℕ) → get_or ys i 0 < 256)
    → n ≡ from_le_bytes w64 xs → m ≡ from_le_bytes w64 ys → n ≡ m → xs ≡ ys
same_bytes xs ys n m x8 y8 xsmall ysmall nx my same = sym (le_bytes_8 xs n x8 xsmall nx) ∙ ap (to_le_bytes w64) same ∙ le_bytes_8 ys m y8 ysmall my

eight_long : (bytes : List ℕ) (at : ℕ) → at + 8 ≤ length bytes → length (take 8 (drop at bytes)) ≡ 8
eight_long bytes at within = length-take 8 (drop at bytes) ∙ omega (arith, length-drop at bytes, within)

pub common_len-word : (xs ys : List ℕ) (at n m : ℕ) → ((i : ℕ) → Fits w8 (get_or xs i 0)) → ((i : ℕ) → Fits w8 (get_or ys i 0)) → at + 8 ≤ length xs → at + 8 ≤ length ys
    → n ≡ from_le_bytes w64 (take 8 (drop at xs)) → m ≡ from_le_bytes w64 (take 8 (drop at ys)) → n ≡ m
    → common_len (drop at xs) (drop at ys) ≡ 8 + common_len (drop (at + 8) xs) (drop (at + 8) ys)
common_len-word xs ys at n m xsmall ysmall xlong ylong nx my same =
    common_len-take 8 (drop at xs) (drop at ys) (omega (arith, length-drop at xs, xlong))
    (same_bytes (take 8 (drop at xs)) (take 8 (drop at ys)) n m (eight_long xs at xlong) (eight_long ys at ylong) (below_256 xs xsmall at) (below_256 ys ysmall at) nx my same)
    ∙ ap (λ (l : List ℕ). 8 + common_len l (drop 8 (drop at ys))) (drop-drop 8 at xs) ∙ ap (λ (l : List ℕ). 8 + common_len (drop (at + 8) xs) l) (drop-drop 8 at ys)

-- ---- where one of the two ends

none_left : (xs ys : List ℕ) → ys ≡ [] → common_len xs ys ≡ 0
none_left [] ys none = refl
none_left (x ∷ xs) ys none = ap (common_len (x ∷ xs)) none

pub common_len-end : (xs ys : List ℕ) (n : ℕ) → min (length xs) (length ys) ≤ n → common_len (drop n xs) (drop n ys) ≡ 0
common_len-end xs ys n past = cases (leb (length xs) n) refl where
  cases : (b : Bool) → leb (length xs) n ≡ b → common_len (drop n xs) (drop n ys) ≡ 0
  cases true short = ap (λ (l : List ℕ). common_len l (drop n ys)) (drop_all n xs (grind (arith, short)))
  cases false long = none_left (drop n xs) (drop n ys) (drop_all n ys (grind (arith, long, past)))

-- ---- what is shared, and the rest

one_more : (n x : ℕ) (xs : List ℕ) → take (1 + n) (x ∷ xs) ≡ x ∷ take n xs
one_more n x xs = let more : 1 + n ≡ suc n = omega arith in ap (λ (k : ℕ). take k (x ∷ xs)) more

common_len-first : (x y n : ℕ) (xs ys : List ℕ) (b : Bool) → nat_eq x y ≡ b → take n xs ≡ take n ys → take (cond b (1 + n) 0) (x ∷ xs) ≡ take (cond b (1 + n) 0) (y ∷ ys)
common_len-first x y n xs ys true same below =
    let first : x ≡ y = grind (arith, same) in
    one_more n x xs ∙ ap (λ (z : ℕ). z ∷ take n xs) first ∙ ap (λ (l : List ℕ). y ∷ l) below ∙ sym (one_more n y ys)
common_len-first x y n xs ys false same below = refl

common_len-same : (xs ys : List ℕ) → take (common_len xs ys) xs ≡ take (common_len xs ys) ys
common_len-same [] ys = refl
common_len-same (x ∷ xs) [] = refl
common_len-same (x ∷ xs) (y ∷ ys) = common_len-first x y (common_len xs ys) xs ys (nat_eq x y) refl (common_len-same xs ys)

-- what is shared, and then the rest, is the second
pub common_len-rest : (xs ys : List ℕ) → take (common_len xs ys) xs ++ drop (common_len xs ys) ys ≡ ys
common_len-rest xs ys = ap (λ (l : List ℕ). l ++ drop (common_len xs ys) ys) (common_len-same xs ys) ∙ take-append-drop (common_len xs ys) ys
