-- An address, its segments and its number.
use Rattle.std.proofs.Common.{◌≡◌, ℕ, zero, suc, ◌+◌, ◌*◌, ◌/◌, ◌%◌, ◌^◌, ◌<◌, ◌≤◌, List, [], ◌∷◌, length, get_or, subst, refl, sym, ap, ◌∙◌, arith}
use Rattle.std.specs.Int.{w128, to_be_bytes, from_be_bytes, byte_at, bytes_high_first}
use Rattle.std.specs.Net.Addr.{segments_of, octets_of, ipv6_segments, ipv6_octets, ipv6_bits}
use Rattle.std.specs.declared.net.ipv6_addr.Ipv6Addr.{Ipv6Addr}
use Rattle.std.proofs.NetLemmas.Arrays.{sixteen_items}
use Rattle.std.proofs.lemmas.Nat.{div-mul-add, mod-mul-add}
use Rattle.std.proofs.Math.Nat.{pow-suc, mul-le-mul_right, mul_comm, mul_assoc, add-mul}

-- the number that the bytes write, the highest first
abbrev be_value : List ℕ → ℕ
be_value [] = 0
be_value (b ∷ bs) = b * 256 ^ length bs + be_value bs

abbrev AreBytes : List ℕ → Type 0
AreBytes bs = (i : ℕ) → get_or bs i 0 < 256

be_value-small : (bs : List ℕ) → AreBytes bs → be_value bs < 256 ^ length bs
be_value-small [] h = omega arith
be_value-small (b ∷ bs) h =
    let rest : be_value bs < 256 ^ length bs = be_value-small bs (λ i. h (suc i)) in
    let first : b < 256 = h 0 in
    let worth : b * 256 ^ length bs ≤ 255 * 256 ^ length bs = mul-le-mul_right _ (omega arith) in
    omega (arith, pow-suc 256 (length bs))

byte_at-is : (k x v : ℕ) → v < 256 ^ k → byte_at k (x * 256 ^ k + v) ≡ x % 256
byte_at-is zero x v h = omega arith
byte_at-is (suc k) x v h = ap (λ q. q % 256) (div-mul-add x (256 ^ suc k) v h)

regroup : (x b p v : ℕ) → x * (p * 256) + (b * p + v) ≡ (x * 256 + b) * p + v
regroup x b p v =
    let left : x * (p * 256) ≡ x * 256 * p = ap (λ q. x * q) (mul_comm p 256) ∙ sym (mul_assoc x 256 p) in
    omega (arith, add-mul (x * 256) b p)

-- the lowest bytes of a number that ends in these bytes are they
high_first : (x : ℕ) (bs : List ℕ) → AreBytes bs → bytes_high_first (length bs) (x * 256 ^ length bs + be_value bs) ≡ bs
high_first x [] h = refl
high_first x (b ∷ bs) h =
    let k = length bs in
    let small : be_value bs < 256 ^ k = be_value-small bs (λ i. h (suc i)) in
    let whole : x * 256 ^ suc k + (b * 256 ^ k + be_value bs) ≡ (x * 256 + b) * 256 ^ k + be_value bs = ap (λ p. x * p + (b * 256 ^ k + be_value bs)) (pow-suc 256 k) ∙ regroup x b (256 ^ k) (be_value bs) in
    let here : (x * 256 + b) % 256 ≡ b = mod-mul-add x 256 b (h 0) in
    ap (λ n. byte_at k n ∷ bytes_high_first k n) whole ∙ ap (λ c. c ∷ bytes_high_first k ((x * 256 + b) * 256 ^ k + be_value bs)) (byte_at-is k (x * 256 + b) (be_value bs) small ∙ here)
    ∙ ap (λ cs. b ∷ cs) (high_first (x * 256 + b) bs (λ i. h (suc i)))

sixteen : (a b c d e f g h i j k l m n o p : ℕ) → from_be_bytes w128 (a ∷ b ∷ c ∷ d ∷ e ∷ f ∷ g ∷ h ∷ i ∷ j ∷ k ∷ l ∷ m ∷ n ∷ o ∷ p ∷ []) ≡ be_value (a ∷ b ∷ c ∷ d ∷ e ∷ f ∷ g ∷ h ∷ i ∷ j ∷ k ∷ l ∷ m ∷ n ∷ o ∷ p ∷ [])
sixteen a b c d e f g h i j k l m n o p = omega arith

segments_of-octets_of : (ss : List ℕ) → segments_of (octets_of ss) ≡ ss
segments_of-octets_of [] = refl
segments_of-octets_of (s ∷ ss) = let whole : s / 256 * 256 + s % 256 ≡ s = omega arith in ap (λ x. x ∷ segments_of (octets_of ss)) whole ∙ ap (λ xs. s ∷ xs) (segments_of-octets_of ss)

-- what sixteen bytes encode has these bytes
pub to_be_bytes-from_be_bytes_16 : (bs : List ℕ) → length bs ≡ 16 → AreBytes bs → to_be_bytes w128 (from_be_bytes w128 bs) ≡ bs
to_be_bytes-from_be_bytes_16 bs l h =
    let cells = sixteen_items bs l in
    let value : from_be_bytes w128 bs ≡ be_value bs = subst (λ xs. from_be_bytes w128 xs ≡ be_value xs) (sym cells) (sixteen _ _ _ _ _ _ _ _ _ _ _ _ _ _ _ _) in
    let none : be_value bs ≡ 0 * 256 ^ length bs + be_value bs = omega arith in
    ap (to_be_bytes w128) value ∙ ap (λ k. bytes_high_first k (be_value bs)) (sym l) ∙ ap (bytes_high_first (length bs)) none ∙ high_first 0 bs h

length-octets_of : (ss : List ℕ) → length (octets_of ss) ≡ 2 * length ss
length-octets_of [] = refl
length-octets_of (s ∷ ss) = omega (arith, length-octets_of ss)

AreBytes-octets_of : (ss : List ℕ) → ((k : ℕ) → get_or ss k 0 < 2 ^ 16) → AreBytes (octets_of ss)
AreBytes-octets_of [] h i = omega arith
AreBytes-octets_of (s ∷ ss) h zero = let first = h 0 in omega arith
AreBytes-octets_of (s ∷ ss) h (suc zero) = omega arith
AreBytes-octets_of (s ∷ ss) h (suc (suc i)) = AreBytes-octets_of ss (λ k. h (suc k)) i

-- the bytes of an address are those of its number
pub octets-are : (a : Ipv6Addr) → length (ipv6_segments a) ≡ 8 → ((k : ℕ) → get_or (ipv6_segments a) k 0 < 2 ^ 16) → to_be_bytes w128 (ipv6_bits a) ≡ ipv6_octets a
unfolding ipv6_bits
octets-are a l h =
    let ss = ipv6_segments a in
    to_be_bytes-from_be_bytes_16 (octets_of ss) (omega (arith, length-octets_of ss)) (AreBytes-octets_of ss h)

-- an address is its number
pub segments_of-ipv6_bits : (a : Ipv6Addr) → length (ipv6_segments a) ≡ 8 → ((k : ℕ) → get_or (ipv6_segments a) k 0 < 2 ^ 16)
    → segments_of (to_be_bytes w128 (ipv6_bits a)) ≡ ipv6_segments a
segments_of-ipv6_bits a l h = ap segments_of (octets-are a l h) ∙ segments_of-octets_of (ipv6_segments a)

-- the number is read back from its bytes
pub ipv6_bits-again : (a : Ipv6Addr) → length (ipv6_segments a) ≡ 8 → ((k : ℕ) → get_or (ipv6_segments a) k 0 < 2 ^ 16)
    → from_be_bytes w128 (to_be_bytes w128 (ipv6_bits a)) ≡ ipv6_bits a
unfolding ipv6_bits
ipv6_bits-again a l h = ap (from_be_bytes w128) (octets-are a l h)
