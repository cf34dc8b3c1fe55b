-- The shortest encodings are encodings, and no encoding is shorter.
use Rattle.std.proofs.Common.{◌≡◌, ℕ, ◌%◌, ◌^◌, ◌<◌, ◌≤◌, List, [], ◌∷◌, length, refl, ap, subst, arith, length-append}
use Rattle.std.specs.Prelude.{ℤ, FitsSigned, IsUtf8}
use Rattle.std.specs.Int.{w64, cast_unsigned}
use mir.ValLaws.{of_z_fits}
use Rattle.tv_base.specs.Number.{Fixed, one_byte, four_bytes, eight_bytes, sixteen_bytes, Signed, signed_bytes, vnum}
use Rattle.tv_base.specs.Parts.{Sized, Text, short_sized}
use Rattle.tv_base.proofs.Numbers.{low_bytes_encode, vnum_encodes, vnum_shortest}

pub one_byte_encodes : (n : ℕ) → n < 2 ^ 8 → Fixed 1 (one_byte n) n
unfolding one_byte
one_byte_encodes n h =
    let is : n % 256 ≡ n = omega arith in
    subst (λ (b : ℕ). Fixed 1 (b ∷ []) n) is (low_bytes_encode 1 n (omega arith))

pub four_bytes_encode : (n : ℕ) → n < 2 ^ 32 → Fixed 4 (four_bytes n) n
unfolding four_bytes
four_bytes_encode n h = low_bytes_encode 4 n (omega arith)

pub eight_bytes_encode : (n : ℕ) → n < 2 ^ 64 → Fixed 8 (eight_bytes n) n
unfolding eight_bytes
eight_bytes_encode n h = low_bytes_encode 8 n (omega arith)

pub sixteen_bytes_encode : (n : ℕ) → n < 2 ^ 128 → Fixed 16 (sixteen_bytes n) n
unfolding sixteen_bytes
sixteen_bytes_encode n h = low_bytes_encode 16 n (omega arith)

pub signed_bytes_encode : (z : ℤ) → FitsSigned w64 z → Signed (signed_bytes z) z
signed_bytes_encode z h = record { fits = h; encoded = eight_bytes_encode (cast_unsigned w64 z) (of_z_fits w64 z h).fits }

pub sized_encodes : (content : List ℕ) → length content < 2 ^ 64 → Sized (short_sized content) content
sized_encodes content h = record { size = vnum (length content); joined = refl; number = vnum_encodes (length content) h }

pub sized_shortest : (content bytes : List ℕ) → Sized bytes content → length (short_sized content) ≤ length bytes
sized_shortest content bytes h =
    omega (arith, length-append (vnum (length content)) content, length-append h.size content, ap length h.joined, vnum_shortest (length content) h.size h.number)

pub text_encodes : (text : List ℕ) → IsUtf8 text → length text < 2 ^ 64 → Text (short_sized text) text
text_encodes text utf8 h = record { sized = sized_encodes text h; utf8 = utf8 }

pub text_shortest : (text bytes : List ℕ) → Text bytes text → length (short_sized text) ≤ length bytes
text_shortest text bytes h = sized_shortest text bytes h.sized
