-- Moments as texts: what a clock at UTC shows, and the same as a function.
use Rattle.std.specs.Prelude.{◌≡◌, ℕ, zero, suc, ◌++◌, ◌+◌, ◌-◌, ◌/◌, ◌%◌, unsigned_abs, ℤ, pos, ◌+ℤ◌, ◌-ℤ◌}
use Rattle.std.specs.Prelude.{nat_le, false, List, [], ◌∷◌, None, if◌then◌else◌}
use Rattle.std.specs.Int.{int_div_euclid, int_rem_euclid}
use Rattle.jiff_core.specs.Calendar.{days_of_years, days_of_months}
use Rattle.jiff_core.specs.DateTime.{civil_nanos}
use Rattle.jiff_core.specs.declared.civil.datetime.DateTime.{DateTime as Civil}
use Rattle.jiff_fmt.specs.Text.{datetime_text, year_text, pad2, fraction_part}

-- The text of a moment: what a clock at UTC shows then, a fraction where it is not 0 with no zeros at its
-- end, and `Z`.
abbrev pub IsPrinted : ℤ → List ℕ → Type 0
IsPrinted z text = (shown : Civil) × (civil_nanos shown ≡ z)
    × (text ≡ datetime_text false 84 None shown ++ 90 ∷ [])

-- ---- the same text as a function

-- how many years after -10000 the day's year is, if it is at most the first number: the last one that has
-- begun by then
unfoldable pub year_index : ℕ → ℕ → ℕ
year_index zero count = 0
year_index (suc k) count = if nat_le (days_of_years (suc k)) count then suc k else year_index k count

-- how many of the first months of the year have ended by the day
unfoldable pub month_index : ℤ → ℕ → ℕ → ℕ
month_index y zero left = 0
month_index y (suc k) left = if nat_le (days_of_months y (suc k)) left then suc k else month_index y k left

-- how many days lie between 1 January of the year -10000 and the moment's day in UTC
abbrev pub count_of : ℤ → ℕ
count_of z = unsigned_abs (int_div_euclid z (pos 86_400_000_000_000) +ℤ pos 4_371_953)

-- the nanoseconds since midnight in UTC
abbrev pub clock_of : ℤ → ℕ
clock_of z = unsigned_abs (int_rem_euclid z (pos 86_400_000_000_000))

-- `2024-06-19`
abbrev pub civil_text : ℤ → ℕ → ℕ → List ℕ
civil_text y m d = year_text y ++ 45 ∷ [] ++ pad2 m ++ 45 ∷ [] ++ pad2 d

-- the date this many days after 1 January of the year
abbrev pub in_year : ℤ → ℕ → List ℕ
in_year y left = let m = month_index y 11 left in civil_text y (m + 1) (left - days_of_months y m + 1)

-- the date this many days after 1 January of the year -10000
abbrev pub date_text_of : ℕ → List ℕ
date_text_of count = let k = year_index 20000 count in in_year (pos k -ℤ pos 10000) (count - days_of_years k)

abbrev pub clock_text_of : ℕ → List ℕ
clock_text_of n =
    pad2 (n / 3_600_000_000_000) ++ 58 ∷ pad2 (n / 60_000_000_000 % 60) ++ 58 ∷ pad2 (n / 1_000_000_000 % 60)
    ++ fraction_part None (n % 1_000_000_000)

-- the text of a moment
unfoldable pub moment_text : ℤ → List ℕ
moment_text z = (date_text_of (count_of z) ++ 84 ∷ clock_text_of (clock_of z)) ++ 90 ∷ []
