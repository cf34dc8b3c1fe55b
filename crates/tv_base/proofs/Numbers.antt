-- Laws of the numbers of variable length.
use Rattle.std.proofs.Common.{◌∙◌, sym, ◌≡◌, ℕ, zero, suc, ◌+◌, ◌*◌, ◌/◌, ◌%◌, ◌^◌, ◌<◌, ◌≤◌, List, [], ◌∷◌, ◌++◌, length, refl, ap, subst, arith, ltb, inl, inr}
use Rattle.std.proofs.lemmas.Bool.{cases_lt, cond-true, cond-false, lt-ltb, le-ltb}
use Rattle.std.proofs.lemmas.Nat.{div_below}
use Rattle.std.proofs.Math.Nat.{pow-suc}
use Rattle.tv_base.specs.Number.{Groups, last, more, VNum, groups_of, vnum, Fixed, no_bytes, low_byte, low_bytes}
use Rattle.tv_base.specs.Parts.{Counted, OneReading}
use Rattle.tv_base.proofs.Agreement.{Agree, agree_from, agree_map, agree_then, agree_each}

-- groups never begin other groups, and have one value
pub one_groups : {a b : List ℕ} {m n : ℕ} (x y : List ℕ) → Groups a m → Groups b n → a ++ x ≡ b ++ y → (a ≡ b) × (m ≡ n)
one_groups x y (last {n = m} p) (last {n = n} q) e =
    let h : m + 128 ≡ n + 128 = cc in
    let k : m ≡ n = omega arith in
    (ap (λ z. (z + 128) ∷ []) k, k)
one_groups x y (last {n = m} p) (more {b = c} q g) e =
    let h : m + 128 ≡ c = cc in absurd (omega arith)
one_groups x y (more {b = c} q g) (last {n = n} p) e =
    let h : c ≡ n + 128 = cc in absurd (omega arith)
one_groups x y (more {b = b} {high = i} {bytes = bs} p f) (more {b = c} {high = j} {bytes = cs} q g) e =
    let h : b ≡ c = cc in
    let rest : bs ++ x ≡ cs ++ y = cc in
    let same = one_groups x y f g rest in
    let bytes : bs ≡ cs = same.0 in
    let high : i ≡ j = same.1 in
    ((cc), omega arith)

pub one_number : OneReading VNum
one_number a b x y m n r s e = one_groups x y r.groups s.groups e

pub groups_small : (k n : ℕ) → n < 128 → groups_of (suc k) n ≡ (n + 128) ∷ []
groups_small k n h = cond-true (ltb n 128) _ _ (lt-ltb n 128 h)

pub groups_large : (k n : ℕ) → 128 ≤ n → groups_of (suc k) n ≡ n % 128 ∷ groups_of k (n / 128)
groups_large k n h = cond-false (ltb n 128) _ _ (le-ltb n 128 h)

-- this many groups hold each number below that power of 128
groups_encode : (k n : ℕ) → n < 128 ^ suc k → Groups (groups_of (suc k) n) n
groups_encode zero n h = rw (groups_small 0 n h) (last h)
groups_encode (suc k) n h =
    elim (cases_lt n 128) [
      | inl p ↦ rw (groups_small (suc k) n p) (last p)
      | inr p ↦
          let below : n / 128 < 128 ^ suc k = div_below n 128 (128 ^ suc k) (omega arith) (rw pow-suc at h) in
          let whole : n % 128 + 128 * (n / 128) ≡ n = omega arith in
          let low : n % 128 < 128 = omega arith in
          rw (groups_large (suc k) n p) (subst (λ z. Groups (n % 128 ∷ groups_of (suc k) (n / 128)) z) whole (more low (groups_encode k (n / 128) below)))
    ]

pub length_groups : (k n : ℕ) → length (groups_of k n) ≤ k
length_groups zero n = omega arith
length_groups (suc k) n =
    elim (cases_lt n 128) [
      | inl p ↦ rw (groups_small k n p) (omega arith)
      | inr p ↦ rw (groups_large k n p) (omega (arith, length_groups k (n / 128)))
    ]

-- no groups of the number are fewer
groups_shortest : (k : ℕ) {bytes : List ℕ} {n : ℕ} → Groups bytes n → length (groups_of k n) ≤ length bytes
groups_shortest zero g = omega arith
groups_shortest (suc k) (last {n = n} p) = rw (groups_small k n p) (omega arith)
groups_shortest (suc k) (more {b = b} {high = high} {bytes = bytes} p g) =
    elim (cases_lt (b + 128 * high) 128) [
      | inl q ↦ rw (groups_small k (b + 128 * high) q) (omega arith)
      | inr q ↦
          let rest : (b + 128 * high) / 128 ≡ high = omega arith in
          rw (groups_large k (b + 128 * high) q, rest) (omega (arith, groups_shortest k g))
    ]

pub vnum_encodes : (n : ℕ) → n < 2 ^ 64 → VNum (vnum n) n
unfolding vnum
vnum_encodes n h = record {
  groups = groups_encode 9 n (omega arith);
  at_most_ten = length_groups 10 n;
  fits = h;
}

pub vnum_shortest : (n : ℕ) (bytes : List ℕ) → VNum bytes n → length (vnum n) ≤ length bytes
unfolding vnum
vnum_shortest n bytes r = groups_shortest 10 r.groups

pub agree_number : (m n : ℕ) → Agree (λ b. VNum b m) (λ b. VNum b n) (m ≡ n)
agree_number m n = agree_from {R = VNum} one_number m n

pub agree_counted : {A : Type 0} {R : List ℕ → A → Type 0} → OneReading R → (xs ys : List A) → Agree (λ b. Counted R b xs) (λ b. Counted R b ys) (xs ≡ ys)
agree_counted {R = R} r xs ys = agree_map (λ s. s.1) (agree_then (agree_number (length xs) (length ys)) (λ e. agree_each {R = R} r xs ys e))

-- numbers in this many bytes

fixed_reads : {k : ℕ} {a b : List ℕ} {m n : ℕ} (x y : List ℕ) → Fixed k a m → Fixed k b n → a ++ x ≡ b ++ y → (a ≡ b) × (m ≡ n)
fixed_reads x y no_bytes no_bytes e = (refl, refl)
fixed_reads x y (low_byte {b = b} {high = i} {bytes = bs} p f) (low_byte {b = c} {high = j} {bytes = cs} q g) e =
    let low : b ≡ c = cc in
    let left : bs ++ x ≡ cs ++ y = cc in
    let same = fixed_reads x y f g left in
    let bytes : bs ≡ cs = same.0 in
    let high : i ≡ j = same.1 in
    ((cc), omega arith)

pub agree_fixed : (k m n : ℕ) → Agree (λ b. Fixed k b m) (λ b. Fixed k b n) (m ≡ n)
agree_fixed k m n = record { agree = λ a b x y p q e. fixed_reads x y p q e }

pub one_fixed : (k : ℕ) → OneReading (Fixed k)
one_fixed k a b x y m n f g e = fixed_reads x y f g e

pub low_bytes_encode : (k n : ℕ) → n < 256 ^ k → Fixed k (low_bytes k n) n
low_bytes_encode zero n h =
    let none : 0 ≡ n = omega arith in subst (λ z. Fixed 0 [] z) none no_bytes
low_bytes_encode (suc k) n h =
    let below : n / 256 < 256 ^ k = div_below n 256 (256 ^ k) (omega arith) (rw pow-suc at h) in
    let whole : n % 256 + 256 * (n / 256) ≡ n = omega arith in
    let low : n % 256 < 256 = omega arith in
    subst (λ z. Fixed (suc k) (low_bytes (suc k) n) z) whole (low_byte low (low_bytes_encode k (n / 256) below))

pub length-fixed : {k : ℕ} {bytes : List ℕ} {n : ℕ} → Fixed k bytes n → length bytes ≡ k
length-fixed no_bytes = refl
length-fixed (low_byte p f) = ap suc (length-fixed f)

pub fixed_fits : {k : ℕ} {bytes : List ℕ} {n : ℕ} → Fixed k bytes n → n < 256 ^ k
fixed_fits no_bytes = omega arith
fixed_fits (low_byte {k = k} p f) = rw pow-suc (omega (arith, fixed_fits f))

-- one more group at most changes nothing where the number fits
groups_more : (k n : ℕ) → n < 128 ^ suc k → groups_of (suc k) n ≡ groups_of (suc (suc k)) n
groups_more zero n h = groups_small 0 n (omega arith) ∙ sym (groups_small 1 n (omega arith))
groups_more (suc k) n h =
    elim (cases_lt n 128) [
      | inl p ↦ groups_small (suc k) n p ∙ sym (groups_small (suc (suc k)) n p)
      | inr p ↦
          let below : n / 128 < 128 ^ suc k = div_below n 128 (128 ^ suc k) (omega arith) (rw pow-suc at h) in
          groups_large (suc k) n p ∙ ap (λ z. n % 128 ∷ z) (groups_more k (n / 128) below) ∙ sym (groups_large (suc (suc k)) n p)
    ]

-- the shortest encoding, group by group
pub vnum-small : (n : ℕ) → n < 128 → vnum n ≡ (n + 128) ∷ []
unfolding vnum
vnum-small n h = groups_small 9 n h

pub vnum-large : (n : ℕ) → 128 ≤ n → n < 2 ^ 64 → vnum n ≡ n % 128 ∷ vnum (n / 128)
unfolding vnum
vnum-large n p h = groups_large 9 n p ∙ ap (λ z. n % 128 ∷ z) (groups_more 8 (n / 128) (omega arith))
