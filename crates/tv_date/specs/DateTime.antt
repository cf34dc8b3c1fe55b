-- Dates as nanoseconds since 1970-01-01T00:00:00Z, and how they are cut.
use Rattle.std.specs.Prelude.{ℕ, ℤ, pos, ◌*ℤ◌, int_div}
use Rattle.tv_date.specs.declared.date_time.DateTimePrecision.{DateTimePrecision}
use Rattle.tv_date.specs.declared.date_time.DateTimePrecision.TheVariants.{Seconds, Milliseconds}
use Rattle.tv_date.specs.declared.date_time.DateTimePrecision.TheVariants.{Microseconds, Nanoseconds}

-- how many nanoseconds there are to one of these
abbrev pub unit_of : DateTimePrecision → ℕ
unit_of Seconds = 1_000_000_000
unit_of Milliseconds = 1_000_000
unit_of Microseconds = 1_000
unit_of Nanoseconds = 1

-- the whole units of the date, towards 1970, in nanoseconds
abbrev pub truncated : DateTimePrecision → ℤ → ℤ
truncated precision nanoseconds = let unit = pos (unit_of precision) in int_div nanoseconds unit *ℤ unit
