-- A stack of kinds in the bits of a number.
use Rattle.std.proofs.Common.{◌≡◌, ℕ, zero, suc, ◌+◌, ◌-◌, ◌*◌, ◌/◌, ◌%◌, ◌^◌, ◌<◌, ◌≤◌, ◌==◌, List, [], ◌∷◌, length, drop, refl, sym, ap, ap₂, ◌∙◌, arith, add-one, pow-suc, Some, None, Bool, true, false, nat_lt, if◌then◌else◌}
use Rattle.std.proofs.Math.Pow.{pow_mono}
use Rattle.std.proofs.lemmas.Bool.Decides.{nat_tests}
use Rattle.serde_json.specs.Read.{max_depth}
use Rattle.tv_json.specs.ListKinds.{innermost, kinds}
use Rattle.tv_json.specs.declared.json_place.ListKind.{ListKind}
use Rattle.tv_json.specs.declared.json_place.ListKind.TheVariants.{Array, Object}

abbrev pub kind_of : ℕ → ListKind
kind_of bit = if bit == 1 then Object else Array

pub length-kinds : (n o : ℕ) → length (kinds n o) ≡ n
unfolding kinds
length-kinds zero o = refl
length-kinds (suc n) o = ap suc (length-kinds n (o / 2))

pub kinds-pushed : (n o bit : ℕ) → bit < 2 → kinds (n + 1) (o * 2 + bit) ≡ kind_of bit ∷ kinds n o
unfolding kinds
kinds-pushed n o bit h =
    let low : (o * 2 + bit) % 2 ≡ bit = omega arith in
    let high : (o * 2 + bit) / 2 ≡ o = omega arith in
    rw add-one (ap₂ (λ b rest. kind_of b ∷ kinds n rest) low high)

suc_less_one : (n : ℕ) → suc n - 1 ≡ n
suc_less_one n = omega arith

pub kinds-popped : (n o : ℕ) → kinds (n - 1) (o / 2) ≡ drop 1 (kinds n o)
unfolding kinds
kinds-popped zero o = refl
kinds-popped (suc n) o = ap (λ k. kinds k (o / 2)) (suc_less_one n)

pub innermost-empty : (n o : ℕ) → n ≡ 0 → innermost (kinds n o) ≡ None
unfolding kinds
innermost-empty zero o h = refl
innermost-empty (suc n) o h = absurd (omega arith)

pub innermost-kinds : (n o bit : ℕ) → (n ≡ 0 → ⊥) → o % 2 ≡ bit → innermost (kinds n o) ≡ Some (kind_of bit)
unfolding kinds
innermost-kinds zero o bit h e = absurd (h refl)
innermost-kinds (suc n) o bit h e = ap (λ b. Some (kind_of b)) e

pub half_below : (n o : ℕ) → o < 2 ^ n → o / 2 < 2 ^ (n - 1)
half_below zero o h = omega arith
half_below (suc n) o h = rw suc_less_one (omega (arith, pow-suc 2 n))

pub doubled_below : (n o bit : ℕ) → o < 2 ^ n → bit < 2 → o * 2 + bit < 2 ^ (n + 1)
doubled_below n o bit h b = rw add-one (omega (arith, pow-suc 2 n))

pub doubled_fits : (n o bit : ℕ) → n < 127 → o < 2 ^ n → bit < 2 → o * 2 + bit < 2 ^ 128
doubled_fits n o bit less h b =
    let most : n + 1 ≤ 128 = omega arith in
    let wide : 2 ^ (n + 1) ≤ 2 ^ 128 = pow_mono most in omega (arith, doubled_below n o bit h b)

pub is_full : (n : ℕ) → 127 ≤ n → false ≡ nat_lt n max_depth
is_full n h = grind (arith, nat_tests)

pub has_room : (n : ℕ) → n < 127 → true ≡ nat_lt n max_depth
has_room n h = grind (arith, nat_tests)
