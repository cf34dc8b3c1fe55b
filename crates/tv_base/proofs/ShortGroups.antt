-- The shortest encoding of a number, as a loop writes it.
use Rattle.std.proofs.Common.{◌≡◌, ℕ, suc, ◌+◌, ◌-◌, ◌*◌, ◌/◌, ◌%◌, ◌^◌, ◌<◌, ◌≤◌, List, [], ◌∷◌, ◌++◌, length, take, refl, sym, ap, ◌∙◌, append_assoc, arith, add-one}
use Rattle.std.proofs.lemmas.List.{take_more_set}
use Rattle.std.proofs.Math.ListN.{set}
use Rattle.std.proofs.Math.Nat.{pow-suc, div-mul-le_self, mul-le-mul_right}
use Rattle.tv_base.specs.Number.{groups_of, vnum}
use Rattle.tv_base.proofs.Numbers.{groups_small, groups_large}

-- before the first group
pub start : (number : ℕ) → groups_of (10 - 0) number ≡ vnum number
unfolding vnum
start number = refl

-- the last group
pub ends : (bytes whole : List ℕ) (i rest : ℕ) → i < length bytes → i ≤ 9 → rest < 128 → take i bytes ++ groups_of (10 - i) rest ≡ whole → take (i + 1) (set bytes i (rest + 128)) ≡ whole
ends bytes whole i rest room le small so_far =
    let k : 10 - i ≡ suc (9 - i) = omega arith in
    let last : groups_of (10 - i) rest ≡ (rest + 128) ∷ [] = ap (λ n. groups_of n rest) k ∙ groups_small (9 - i) rest small in
    take_more_set bytes i (rest + 128) room ∙ ap (λ (l : List ℕ). take i bytes ++ l) (sym last) ∙ so_far

pub ends_tenth : (bytes whole : List ℕ) (i rest : ℕ) → i ≡ 9 → length bytes ≡ 10 → rest < 2 → take i bytes ++ groups_of (10 - i) rest ≡ whole → take 10 (set bytes 9 (rest + 128)) ≡ whole
ends_tenth bytes whole i rest e room small so_far = ends bytes whole 9 rest (omega arith) (omega arith) (omega arith) (rw e at so_far)

-- one more group
pub goes_on : (bytes whole : List ℕ) (i rest : ℕ) → i < length bytes → i < 9 → 128 ≤ rest → take i bytes ++ groups_of (10 - i) rest ≡ whole → take (i + 1) (set bytes i (rest % 128)) ++ groups_of (10 - (i + 1)) (rest / 128) ≡ whole
goes_on bytes whole i rest room lt large so_far =
    let k : 10 - i ≡ suc (10 - (i + 1)) = omega arith in
    let step : groups_of (10 - i) rest ≡ rest % 128 ∷ groups_of (10 - (i + 1)) (rest / 128) = ap (λ n. groups_of n rest) k ∙ groups_large (10 - (i + 1)) rest large in
    ap (λ (l : List ℕ). l ++ groups_of (10 - (i + 1)) (rest / 128)) (take_more_set bytes i (rest % 128) room) ∙ append_assoc (take i bytes) (rest % 128 ∷ []) (groups_of (10 - (i + 1)) (rest / 128)) ∙ ap (λ (l : List ℕ). take i bytes ++ l) (sym step) ∙ so_far

pub stays_small : (number rest i : ℕ) → rest * 128 ^ i ≤ number → rest / 128 * 128 ^ (i + 1) ≤ number
stays_small number rest i small =
    let e : 128 ^ (i + 1) ≡ 128 ^ i * 128 = rw add-one (pow-suc 128 i) in
    let le : rest / 128 * 128 * 128 ^ i ≤ rest * 128 ^ i = mul-le-mul_right (128 ^ i) (div-mul-le_self rest 128) in
    rw e (omega arith)

pub last_fits : (number rest i : ℕ) → i ≡ 9 → rest * 128 ^ i ≤ number → number < 2 ^ 64 → rest < 2
last_fits number rest i e small fits =
    let h : rest * 128 ^ 9 ≤ number = rw e at small in
    omega arith
