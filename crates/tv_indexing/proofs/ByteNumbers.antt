-- The numbers that bytes are, the highest first.
use Rattle.std.proofs.Common.{◌≡◌, ℕ, zero, suc, ◌+◌, ◌*◌, ◌/◌, ◌%◌, ◌^◌, ◌<◌, ◌≤◌, List, [], ◌∷◌, length, get_or, refl, sym, ap, subst, ◌∙◌, arith}
use Rattle.std.specs.Int.{w32, w64, w128, to_be_bytes, from_be_bytes, byte_at, bytes_high_first}
use Rattle.std.proofs.lemmas.Nat.{mod-mul-add}
use Rattle.std.proofs.Math.Nat.{div-add-mod, mod-lt, mul-le-mul_right, pow-suc}
use Rattle.tv_base.proofs.Widths.{byte_is}

abbrev pub AreBytes : List ℕ → Type 0
AreBytes bs = (i : ℕ) → get_or bs i 0 < 256

abbrev be_value : List ℕ → ℕ
be_value [] = 0
be_value (b ∷ bs) = b * 256 ^ length bs + be_value bs

be_value-small : (bs : List ℕ) → AreBytes bs → be_value bs < 256 ^ length bs
be_value-small [] h = omega arith
be_value-small (b ∷ bs) h =
    let rest : be_value bs < 256 ^ length bs = be_value-small bs (λ i. h (suc i)) in
    let first : b < 256 = h 0 in
    let worth : b * 256 ^ length bs ≤ 255 * 256 ^ length bs = mul-le-mul_right _ (omega arith) in
    omega (arith, pow-suc 256 (length bs))

four : (bs : List ℕ) → length bs ≡ 4 → from_be_bytes w32 bs ≡ be_value bs
four (a ∷ b ∷ c ∷ d ∷ []) l = omega arith
four _ l = absurd (omega arith)

eight : (bs : List ℕ) → length bs ≡ 8 → from_be_bytes w64 bs ≡ be_value bs
eight (a ∷ b ∷ c ∷ d ∷ e ∷ f ∷ g ∷ h ∷ []) l = omega arith
eight _ l = absurd (omega arith)

sixteen : (bs : List ℕ) → length bs ≡ 16 → from_be_bytes w128 bs ≡ be_value bs
sixteen (a ∷ b ∷ c ∷ d ∷ e ∷ f ∷ g ∷ h ∷ i ∷ j ∷ k ∷ l ∷ m ∷ n ∷ o ∷ p ∷ []) z = omega arith
sixteen _ l = absurd (omega arith)

-- four bytes are a number below 2^32
pub four-small : (bs : List ℕ) → length bs ≡ 4 → AreBytes bs → from_be_bytes w32 bs < 2 ^ 32
four-small bs l h =
    let value = four bs l in
    let small = subst (λ k. be_value bs < 256 ^ k) l (be_value-small bs h) in
    omega arith

-- eight bytes are a number below 2^64, and sixteen one below 2^128
pub eight-small : (bs : List ℕ) → length bs ≡ 8 → AreBytes bs → from_be_bytes w64 bs < 2 ^ 64
eight-small bs l h =
    let value = eight bs l in
    let small = subst (λ k. be_value bs < 256 ^ k) l (be_value-small bs h) in
    omega arith

pub sixteen-small : (bs : List ℕ) → length bs ≡ 16 → AreBytes bs → from_be_bytes w128 bs < 2 ^ 128
sixteen-small bs l h =
    let value = sixteen bs l in
    let small = subst (λ k. be_value bs < 256 ^ k) l (be_value-small bs h) in
    omega arith

length-high_first : (k n : ℕ) → length (bytes_high_first k n) ≡ k
length-high_first zero n = refl
length-high_first (suc k) n = ap suc (length-high_first k n)

positive : (k : ℕ) → 0 < 256 ^ k
positive zero = omega arith
positive (suc k) = omega (arith, positive k, pow-suc 256 k)

-- one more of the lowest bytes
one_more : (n p : ℕ) → 0 < p → (n / p % 256) * p + n % p ≡ n % (p * 256)
one_more n p some =
    let q = n / p in
    let whole : p * q + n % p ≡ n = div-add-mod n p in
    let parts : 256 * (q / 256) + q % 256 ≡ q = div-add-mod q 256 in
    let low : n % p < p = mod-lt n some in
    let digit : q % 256 < 256 = omega arith in
    let most : (q % 256) * p ≤ 255 * p = mul-le-mul_right p (omega arith) in
    let small : (q % 256) * p + n % p < p * 256 = omega arith in
    let times : p * (256 * (q / 256) + q % 256) ≡ p * q = ap (λ m. p * m) parts in
    let again : q / 256 * (p * 256) + ((q % 256) * p + n % p) ≡ n = omega arith in
    sym (subst (λ m. m % (p * 256) ≡ (q % 256) * p + n % p) again (mod-mul-add (q / 256) (p * 256) ((q % 256) * p + n % p) small))

be_value-high_first : (k n : ℕ) → be_value (bytes_high_first k n) ≡ n % 256 ^ k
be_value-high_first zero n = omega arith
be_value-high_first (suc k) n =
    ap (λ l. byte_at k n * 256 ^ l + be_value (bytes_high_first k n)) (length-high_first k n)
    ∙ ap (λ v. byte_at k n * 256 ^ k + v) (be_value-high_first k n)
    ∙ ap (λ b. b * 256 ^ k + n % 256 ^ k) (byte_is k n)
    ∙ one_more n (256 ^ k) (positive k)
    ∙ ap (λ p. n % p) (sym (pow-suc 256 k))

pub sixteen_again : (n : ℕ) → n < 2 ^ 128 → from_be_bytes w128 (to_be_bytes w128 n) ≡ n
sixteen_again n small =
    let low : n % 256 ^ 16 ≡ n = omega arith in
    sixteen (to_be_bytes w128 n) (length-high_first 16 n) ∙ be_value-high_first 16 n ∙ low
