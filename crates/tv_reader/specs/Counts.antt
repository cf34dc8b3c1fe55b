-- Reading the number of an object's entries from left to right.
use Rattle.std.specs.Prelude.{◌==◌, ◌/◌, ◌%◌, ℕ, List, Result, Ok, Err, if◌then◌else◌}
use Rattle.tv_base.specs.declared.cause.Cause.{Cause}
use Rattle.tv_base.specs.declared.cause.Cause.TheVariants.{OddObject}
use Rattle.tv_base.specs.Reading.{vint_at}
use Rattle.tv_base.specs.Stop.{◌>>=◌}
use Rattle.tv_format.specs.Version.{Version, V1, V2, V3}

abbrev pub half_of : ℕ → List ℕ → Result (ℕ × List ℕ) (Cause × List ℕ)
half_of n rest = if n % 2 == 0 then Ok (n / 2, rest) else Err (OddObject, rest)

unfoldable pub half_at : List ℕ → Result (ℕ × List ℕ) (Cause × List ℕ)
half_at whole = do
  number ← vint_at whole
  half_of number.0 number.1

-- versions 1 and 2 announce twice the number
unfoldable pub entry_count_at : Version → List ℕ → Result (ℕ × List ℕ) (Cause × List ℕ)
entry_count_at V1 whole = half_at whole
entry_count_at V2 whole = half_at whole
entry_count_at V3 whole = vint_at whole
