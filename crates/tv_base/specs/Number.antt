-- Numbers of variable length: base 128, least group first. The last byte has its high bit set, the others
-- don't.
use Rattle.std.specs.Prelude.{◌≡◌, ℕ, ℤ, Bool, true, false, FitsSigned, zero, suc, ◌+◌, ◌*◌, ◌/◌, ◌%◌, ◌^◌}
use Rattle.std.specs.Prelude.{◌<◌, ◌≤◌, List, [], ◌∷◌, length, nat_lt, if◌then◌else◌}
use Rattle.std.specs.Int.{w64, cast_unsigned}

-- the groups of a number
pub data Groups : List ℕ → ℕ → Type 0 where
  last : {n : ℕ} → n < 128 → Groups ((n + 128) ∷ []) n
  more : {b high : ℕ} {bytes : List ℕ} → b < 128 → Groups bytes high → Groups (b ∷ bytes) (b + 128 * high)

-- One to ten bytes, which encode a number below 2 ^ 64. They need not be the fewest.
pub record VNum (bytes : List ℕ) (number : ℕ) : Type 0 where
  pub groups : Groups bytes number
  pub at_most_ten : length bytes ≤ 10
  pub fits : number < 2 ^ 64

-- n in this many groups at most
abbrev pub groups_of : ℕ → ℕ → List ℕ
groups_of zero n = []
groups_of (suc k) n = if nat_lt n 128 then (n + 128) ∷ [] else n % 128 ∷ groups_of k (n / 128)

-- the encoding with the fewest bytes
unfoldable pub vnum : ℕ → List ℕ
vnum n = groups_of 10 n

-- a number in this many bytes, the lowest first
pub data Fixed : ℕ → List ℕ → ℕ → Type 0 where
  no_bytes : Fixed 0 [] 0
  low_byte : {k b high : ℕ} {bytes : List ℕ} → b < 256 → Fixed k bytes high
      → Fixed (suc k) (b ∷ bytes) (b + 256 * high)

-- the lowest this many bytes of n
abbrev pub low_bytes : ℕ → ℕ → List ℕ
low_bytes zero n = []
low_bytes (suc k) n = n % 256 ∷ low_bytes k (n / 256)

-- n in 1, 4, 8 or 16 bytes
unfoldable pub one_byte : ℕ → List ℕ
one_byte n = n ∷ []

unfoldable pub four_bytes : ℕ → List ℕ
four_bytes n = low_bytes 4 n

unfoldable pub eight_bytes : ℕ → List ℕ
eight_bytes n = low_bytes 8 n

unfoldable pub sixteen_bytes : ℕ → List ℕ
sixteen_bytes n = low_bytes 16 n

-- a signed number in 8 bytes: two's complement
pub record Signed (bytes : List ℕ) (number : ℤ) : Type 0 where
  pub fits : FitsSigned w64 number
  pub encoded : Fixed 8 bytes (cast_unsigned w64 number)

-- and as it is written
abbrev pub signed_bytes : ℤ → List ℕ
signed_bytes z = eight_bytes (cast_unsigned w64 z)

-- the byte of a truth value
abbrev pub truth_byte : Bool → List ℕ
truth_byte false = 0 ∷ []
truth_byte true = 1 ∷ []

abbrev pub Truth : List ℕ → Bool → Type 0
Truth bytes truth = bytes ≡ truth_byte truth
