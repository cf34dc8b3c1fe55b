-- A moment as a text by RFC 3339, with a `T` or `t` between date and time, and no leap second: from a text to
-- the numbers that it writes, and from these to the moment. Which texts write numbers is said as a grammar in
-- Shape.
use Rattle.std.specs.Prelude.{ℕ, ◌+◌, ◌-◌, ◌*◌, ℤ, pos, neg_ℤ, ◌+ℤ◌, ◌-ℤ◌, ◌*ℤ◌, int_le, ◌&&◌, ◌||◌, ◌==◌}
use Rattle.std.specs.Prelude.{nat_le, Bool, true, false, List, [], ◌∷◌, take, drop, min, Option, Some, None}
use Rattle.std.specs.Prelude.{option_and_then, Result, Ok, Err, if◌then◌else◌}
use Rattle.std.specs.List.{prefix_len}
use Rattle.std.specs.Char.{is_ascii_digit}
use Rattle.jiff_core.specs.Calendar.{days_from_civil, days_in_month}
use Rattle.jiff_fmt.specs.Reader.{fraction_value}
use Rattle.tv_date.specs.declared.rfc3339.DateFields.{DateFields}
use Rattle.tv_date.specs.declared.rfc3339.DateError.{DateError}
use Rattle.tv_date.specs.declared.rfc3339.DateError.TheVariants.{Shape, Field, OutOfRange}

infixl 10 ◌>>=◌
abbrev pub ◌>>=◌ : {A B : Type 0} → Option A → (A → Option B) → Option B
o >>= f = option_and_then f o

-- two digits at the start, and what follows them
unfoldable pub two_digits : List ℕ → Option (ℕ × List ℕ)
two_digits (high ∷ low ∷ rest) = if is_ascii_digit high && is_ascii_digit low
    then Some ((high - 48) * 10 + (low - 48), rest) else None
two_digits _ = None

unfoldable pub four_digits : List ℕ → Option (ℕ × List ℕ)
four_digits text = do
  high ← two_digits text
  low ← two_digits high.1
  Some (high.0 * 100 + low.0, low.1)

-- what follows this byte at the start
abbrev pub after : ℕ → List ℕ → Option (List ℕ)
after byte [] = None
after byte (c ∷ rest) = if c == byte then Some rest else None

-- what follows a `T` or a `t`
abbrev pub after_t : List ℕ → Option (List ℕ)
after_t [] = None
after_t (c ∷ rest) = if (c == 84) || (c == 116) then Some rest else None

-- the digits after a dot, as nanoseconds, and what follows them: those past nine are dropped
unfoldable pub nanoseconds : List ℕ → Option (ℕ × List ℕ)
nanoseconds text =
    let len = prefix_len is_ascii_digit text in
    if len == 0 then None else Some (fraction_value 9 (take (min len 9) text), drop len text)

-- an optional dot with one digit or more
unfoldable pub fraction : List ℕ → Option (ℕ × List ℕ)
fraction [] = Some (0, [])
fraction (c ∷ rest) = if c == 46 then nanoseconds rest else Some (0, c ∷ rest)

-- nothing follows
abbrev pub if_last : {A : Type 0} → A → List ℕ → Option A
if_last x [] = Some x
if_last x (c ∷ rest) = None

-- the hours and minutes of an offset
unfoldable pub hours_and_minutes : List ℕ → Option (ℕ × ℕ)
hours_and_minutes text = do
  hour ← two_digits text
  rest ← after 58 hour.1
  minute ← two_digits rest
  if_last (hour.0, minute.0) minute.1

-- whether the offset is west of UTC, and its hours and minutes
unfoldable pub offset : List ℕ → Option (Bool × ℕ × ℕ)
offset [] = None
offset (c ∷ rest) =
    if (c == 90) || (c == 122) then if_last (false, 0, 0) rest
    else if c == 43 then (hours_and_minutes rest >>= (λ o. Some (false, o.0, o.1)))
    else if c == 45 then (hours_and_minutes rest >>= (λ o. Some (true, o.0, o.1)))
    else None

-- year, month and day, and what follows them
unfoldable pub date : List ℕ → Option ((ℕ × ℕ × ℕ) × List ℕ)
date text = do
  year ← four_digits text
  a ← after 45 year.1
  month ← two_digits a
  b ← after 45 month.1
  day ← two_digits b
  Some ((year.0, month.0, day.0), day.1)

-- hour, minute and second, and what follows them
unfoldable pub time : List ℕ → Option ((ℕ × ℕ × ℕ) × List ℕ)
time text = do
  hour ← two_digits text
  a ← after 58 hour.1
  minute ← two_digits a
  b ← after 58 minute.1
  second ← two_digits b
  Some ((hour.0, minute.0, second.0), second.1)

-- the numbers that a text of this shape writes, whatever they are
unfoldable pub fields : List ℕ → Option DateFields
fields text = do
  d ← date text
  rest ← after_t d.1
  t ← time rest
  f ← fraction t.1
  o ← offset f.1
  Some (record {
    year = d.0.0;
    month = d.0.1;
    day = d.0.2;
    hour = t.0.0;
    minute = t.0.1;
    second = t.0.2;
    fraction = f.0;
    west = o.0;
    offset_hour = o.1;
    offset_minute = o.2;
  })

-- the month has the day
abbrev pub is_date : DateFields → Bool
is_date s = nat_le 1 s.month && nat_le s.month 12 && nat_le 1 s.day
    && nat_le s.day (days_in_month (pos s.year) s.month)

abbrev pub is_time : DateFields → Bool
is_time s = nat_le s.hour 23 && nat_le s.minute 59 && nat_le s.second 59

abbrev pub is_offset : DateFields → Bool
is_offset s = nat_le s.offset_hour 23 && nat_le s.offset_minute 59

-- each number is in its range
abbrev pub is_valid : DateFields → Bool
is_valid s = is_date s && is_time s && is_offset s

abbrev pub offset_seconds : DateFields → ℤ
offset_seconds s = if s.west then neg_ℤ (pos (s.offset_hour * 3600 + s.offset_minute * 60))
    else pos (s.offset_hour * 3600 + s.offset_minute * 60)

-- nanoseconds since 1970-01-01T00:00:00Z
abbrev pub instant : DateFields → ℤ
instant s =
    (days_from_civil (pos s.year) s.month s.day *ℤ pos 86_400 +ℤ pos
    (s.hour * 3600 + s.minute * 60 + s.second) -ℤ offset_seconds s)
    *ℤ pos 1_000_000_000 +ℤ pos s.fraction

abbrev pub fits : ℤ → Bool
fits z = int_le (neg_ℤ (pos 9_223_372_036_854_775_808)) z && int_le z (pos 9_223_372_036_854_775_807)

abbrev pub in_range : ℤ → Result ℤ DateError
in_range z = if fits z then Ok z else Err OutOfRange

abbrev pub moment : Option DateFields → Result ℤ DateError
moment None = Err Shape
moment (Some s) = if is_valid s then in_range (instant s) else Err Field

-- the moment that a text writes, or the first of the refusals
abbrev pub rfc : List ℕ → Result ℤ DateError
rfc text = moment (fields text)
