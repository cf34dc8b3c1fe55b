-- The bits of an address.
use Rattle.std.proofs.Common.{◌≡◌, ℕ, zero, suc, ◌+◌, ◌<◌, List, [], ◌∷◌, length, get_or, reverse, ◌^◌, ◌*◌, ◌/◌, ◌%◌, refl, sym, ◌∙◌, ap, subst, arith}
use Rattle.std.specs.Int.{w128, from_le_bytes, from_be_bytes, to_le_bytes}
use Rattle.std.specs.Net.Addr.{ipv6_bits, IsIpv6OfBits, segments_of, octets_of}
use Rattle.std.specs.declared.net.ipv6_addr.Ipv6Addr.{Ipv6Addr}
use Rattle.tv_base.specs.Number.{Fixed, no_bytes, low_byte}
use Rattle.tv_base.proofs.Numbers.{length-fixed}
use Rattle.tv_base.proofs.Shortest.{sixteen_bytes_encode}
use Rattle.tv_base.proofs.Widths.{from_16, sixteen_bytes_is}

fixed_small : {k : ℕ} {bytes : List ℕ} {n : ℕ} → Fixed k bytes n → (i : ℕ) → get_or bytes i 0 < 256
fixed_small no_bytes i = omega arith
fixed_small (low_byte p f) zero = p
fixed_small (low_byte p f) (suc i) = fixed_small f i

abbrev AreBytes : List ℕ → Type 0
AreBytes [] = Unit {0}
AreBytes (b ∷ bs) = (b < 256) × AreBytes bs

octets_back : (k : ℕ) (bs : List ℕ) → length bs ≡ k + k → AreBytes bs → octets_of (segments_of bs) ≡ bs
octets_back k [] l small = refl
octets_back zero (a ∷ bs) l small = absurd (omega arith)
octets_back (suc k) (a ∷ []) l small = absurd (omega arith)
octets_back (suc k) (a ∷ b ∷ bs) l small =
    let below = small.1.0 in
    let high : (a * 256 + b) / 256 ≡ a = omega arith in
    let low : (a * 256 + b) % 256 ≡ b = omega arith in
    let rest = octets_back k bs (omega arith) small.1.1 in
    λ i. high i ∷ low i ∷ rest i

turned : (bs : List ℕ) → length bs ≡ 16 → ((i : ℕ) → get_or bs i 0 < 256) → from_be_bytes w128 (octets_of (segments_of (reverse bs))) ≡ from_le_bytes w128 bs
turned (a ∷ b ∷ c ∷ d ∷ e ∷ f ∷ g ∷ h ∷ i ∷ j ∷ k ∷ m ∷ n ∷ o ∷ p ∷ q ∷ []) l s =
    let bytes : AreBytes (q ∷ p ∷ o ∷ n ∷ m ∷ k ∷ j ∷ i ∷ h ∷ g ∷ f ∷ e ∷ d ∷ c ∷ b ∷ a ∷ []) = (s 15, (s 14, (s 13, (s 12, (s 11, (s 10, (s 9, (s 8, (s 7, (s 6, (s 5, (s 4, (s 3, (s 2, (s 1, (s 0, tt)))))))))))))))) in
    ap (from_be_bytes w128) (octets_back 8 (q ∷ p ∷ o ∷ n ∷ m ∷ k ∷ j ∷ i ∷ h ∷ g ∷ f ∷ e ∷ d ∷ c ∷ b ∷ a ∷ []) refl bytes) ∙ omega arith
turned _ l s = absurd (omega arith)

-- the address of these bits
pub address_bits : (a : Ipv6Addr) (n : ℕ) → n < 2 ^ 128 → IsIpv6OfBits a n → ipv6_bits a ≡ n
unfolding IsIpv6OfBits ipv6_bits
address_bits a n h is =
    let bs = to_le_bytes w128 n in
    let encoded : Fixed 16 bs n = subst (λ z. Fixed 16 z n) (sym (sixteen_bytes_is n)) (sixteen_bytes_encode n h) in
    ap (λ s. from_be_bytes w128 (octets_of s)) is ∙ turned bs (length-fixed encoded) (fixed_small encoded) ∙ from_16 bs n encoded
