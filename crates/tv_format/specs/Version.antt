-- The versions of the store format, and all in which they differ.
use Rattle.std.specs.Prelude.{◌*◌, ◌≡◌, ℕ, List, ℤ, pos, negsuc, ◌*ℤ◌, ◌≤ℤ◌}
use Rattle.std.specs.Int.{w64, cast_unsigned}
use Rattle.tv_base.specs.Number.{Fixed, Signed}

pub data Version : Type 0 where
  V1 V2 V3 : Version

-- microseconds whose nanoseconds fit 64 bits
pub record Microseconds (bytes : List ℕ) (nanoseconds : ℤ) : Type 0 where
  pub microseconds : ℤ
  pub from : negsuc 9223372036854774 ≤ℤ microseconds
  pub to : microseconds ≤ℤ pos 9223372036854775
  pub same : nanoseconds ≡ microseconds *ℤ pos 1000
  pub encoded : Fixed 8 bytes (cast_unsigned w64 microseconds)

-- what a signed number stands for: itself, or a thousand times as much
pub data Scale : Type 0 where
  plain thousands : Scale

abbrev pub Scaled : Scale → List ℕ → ℤ → Type 0
Scaled plain bytes z = Signed bytes z
Scaled thousands bytes z = Microseconds bytes z

-- dates are microseconds in version 1, and nanoseconds in the others
abbrev pub date_scale : Version → Scale
date_scale V1 = thousands
date_scale V2 = plain
date_scale V3 = plain

-- a date, as nanoseconds since 1970
abbrev pub Date : Version → List ℕ → ℤ → Type 0
Date version bytes nanoseconds = Scaled (date_scale version) bytes nanoseconds

-- the number that an object of this many entries announces: versions 1 and 2 count keys and values
abbrev pub entry_total : Version → ℕ → ℕ
entry_total V1 n = 2 * n
entry_total V2 n = 2 * n
entry_total V3 n = n

-- the versions that are written
abbrev pub IsWritten : Version → Type 0
IsWritten V1 = ⊥
IsWritten V2 = Unit {0}
IsWritten V3 = Unit {0}
