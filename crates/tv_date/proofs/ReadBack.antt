-- What is printed is read as the same moment.
use Rattle.std.proofs.Common.{◌≡◌, ℕ, zero, suc, ◌+◌, ◌-◌, ◌/◌, ◌%◌, ◌^◌, ◌<◌, ◌≤◌, ◌∷◌, [], ◌++◌, List, Bool, true, false, cond, nat_le, ◌==◌, take, length, None, Ok, Err, ℤ, pos, ◌+ℤ◌, ◌-ℤ◌, FitsSigned, inl, inr, sym, ap, ap₂, ◌∙◌, refl, arith, subst}
use Rattle.std.proofs.lemmas.Bool.Decides.{nat_tests}
use Rattle.std.proofs.lemmas.Bool.{cases_order, leb-true, leb-false}
use Rattle.std.proofs.lemmas.List.{take_all}
use Rattle.std.proofs.lemmas.Int.{ints}
use Rattle.std.specs.Int.{w64, int_div_euclid, int_rem_euclid}
use Rattle.std.specs.Char.{is_ascii_digit}
use Rattle.std.specs.List.{prefix_len}
use Rattle.std.specs.Str.Parse.{AllDigits}
use Rattle.jiff_core.specs.Calendar.{days_of_years, days_of_months, days_in_year, days_in_month, day_count}
use Rattle.jiff_core.proofs.CalendarLemmas.{days_of_months_more, days_of_months_all, days_in_month_bounds, days_from_civil-day_count}
use Rattle.jiff_core.proofs.MarchLemmas.{days_of_years-march_days}
use Rattle.jiff_core.proofs.SignedLemmas.{signed_arith}
use Rattle.jiff_fmt.specs.Text.{pad2, pad4, places, trailing_zeros, fraction_part}
use Rattle.jiff_fmt.proofs.TextLemmas.{places-read, trailing_zeros-le, trailing_zeros-mod}
use Rattle.tv_date.specs.declared.rfc3339.DateFields.{DateFields}
use Rattle.tv_date.specs.declared.rfc3339.DateError.TheVariants.{Field, OutOfRange}
use Rattle.tv_date.specs.Rfc3339.{is_valid, instant, fits, in_range, moment, rfc}
use Rattle.tv_date.specs.Printed.{year_index, month_index, count_of, clock_of, civil_text, in_year, date_text_of, clock_text_of, moment_text}
use Rattle.tv_date.specs.Shape.{HasShape, IsFraction}
use Rattle.tv_date.proofs.CivilText.{days_of_years_more, days_of_years_mono, same_abs}
use Rattle.tv_date.proofs.Shapes.{digits_taken}
use Rattle.tv_date.proofs.ShapesAgain.{fields_again}

-- the year that has begun and not ended
abbrev YearHolds : ℕ → ℕ → Type 0
YearHolds count k = (days_of_years k ≤ count) × (count < days_of_years (suc k))

year_found_at : (b : Bool) (top count : ℕ) → nat_le (days_of_years (suc top)) count ≡ b → count < days_of_years (suc (suc top))
    → (count < days_of_years (suc top) → YearHolds count (year_index top count)) → YearHolds count (cond b (suc top) (year_index top count))
year_found_at true top count e h lower = (leb-true (days_of_years (suc top)) count e, h)
year_found_at false top count e h lower = lower (leb-false (days_of_years (suc top)) count e)

year_found : (top count : ℕ) → count < days_of_years (suc top) → YearHolds count (year_index top count)
unfolding year_index
year_found zero count h = (unfold days_of_years in omega arith, h)
year_found (suc top) count h = year_found_at _ top count refl h (λ less. year_found top count less)

-- the month that has begun and not ended
abbrev MonthHolds : ℤ → ℕ → ℕ → Type 0
MonthHolds y left m = (days_of_months y m ≤ left) × (left < days_of_months y (suc m))

month_found_at : (y : ℤ) (b : Bool) (top left : ℕ) → nat_le (days_of_months y (suc top)) left ≡ b → left < days_of_months y (suc (suc top))
    → (left < days_of_months y (suc top) → MonthHolds y left (month_index y top left)) → MonthHolds y left (cond b (suc top) (month_index y top left))
month_found_at y true top left e h lower = (leb-true (days_of_months y (suc top)) left e, h)
month_found_at y false top left e h lower = lower (leb-false (days_of_months y (suc top)) left e)

month_found : (y : ℤ) (top left : ℕ) → left < days_of_months y (suc top) → MonthHolds y left (month_index y top left)
unfolding month_index
month_found y zero left h = (unfold days_of_months in omega arith, h)
month_found y (suc top) left h = month_found_at y _ top left refl h (λ less. month_found y top left less)

index_within_at : (b : Bool) (top k : ℕ) → k ≤ top → cond b (suc top) k ≤ suc top
index_within_at true top k h = omega arith
index_within_at false top k h = omega arith

month_within : (y : ℤ) (top left : ℕ) → month_index y top left ≤ top
unfolding month_index
month_within y zero left = omega arith
month_within y (suc top) left = index_within_at _ top _ (month_within y top left)

days_of_10000 : days_of_years 10000 ≡ 3_652_425
days_of_10000 = omega (arith, days_of_years-march_days 10000)

days_of_20000 : days_of_years 20000 ≡ 7_304_850
days_of_20000 = omega (arith, days_of_years-march_days 20000)

-- a day from the year 0 to the year 9999
record DayOf (count year month day : ℕ) : Type 0 where
  four_digits : year < 10000
  month_low : 1 ≤ month
  month_high : month ≤ 12
  day_low : 1 ≤ day
  day_high : day ≤ days_in_month (pos year) month
  counted : day_count (pos year) month day ≡ count
  text : date_text_of count ≡ pad4 year ++ 45 ∷ [] ++ pad2 month ++ 45 ∷ [] ++ pad2 day

year_low : (k count : ℕ) → YearHolds count k → 3_652_425 ≤ count → 10000 ≤ k
year_low k count holds low =
    elim (cases_order k 10000) [
      | inl same ↦ omega arith
      | inr (inl less) ↦ absurd (omega (arith, days_of_10000, days_of_years_mono (suc k) 10000 less))
      | inr (inr more) ↦ omega arith
    ]

year_high : (k count : ℕ) → YearHolds count k → count < 7_304_850 → k < 20000
year_high k count holds high =
    elim (cases_order k 20000) [
      | inl same ↦ absurd (omega (arith, days_of_20000, days_of_years_mono 20000 k (omega arith)))
      | inr (inl less) ↦ less
      | inr (inr more) ↦ absurd (omega (arith, days_of_20000, days_of_years_mono 20000 k (omega arith)))
    ]

day_in_year : (k left year m : ℕ) → year + 10000 ≡ k → m < 12 → MonthHolds (pos year) left m
    → day_count (pos year) (m + 1) (left - days_of_months (pos year) m + 1) ≡ days_of_years k + left
unfolding day_count
day_in_year k left year m is short holds =
    let back : m + 1 - 1 ≡ m = omega arith in
    rw (back, is) (omega arith)

-- a day of the year, by its month and its day in the month
in_this_year : (count k left year m : ℕ) → count ≡ days_of_years k + left → year_index 20000 count ≡ k → year + 10000 ≡ k → year < 10000
    → m ≤ 11 → month_index (pos year) 11 left ≡ m → MonthHolds (pos year) left m
    → DayOf count year (m + 1) (left - days_of_months (pos year) m + 1)
in_this_year count k left year m total index is short within found holds =
    let back : suc m - 1 ≡ m = omega arith in
    let one : suc m ≡ m + 1 = omega arith in
    let more : days_of_months (pos year) (suc m) ≡ days_of_months (pos year) m + days_in_month (pos year) (suc m) = rw back at (days_of_months_more (pos year) (suc m) (omega arith)) in
    let next : days_of_months (pos year) (suc m) ≡ days_of_months (pos year) m + days_in_month (pos year) (m + 1) = subst (λ i. days_of_months (pos year) (suc m) ≡ days_of_months (pos year) m + days_in_month (pos year) i) one more in
    let y : pos k -ℤ pos 10000 ≡ pos year = omega (arith, signed_arith) in
    let rest : count - days_of_years k ≡ left = omega arith in
    record {
      four_digits = short;
      month_low = omega arith;
      month_high = omega arith;
      day_low = omega arith;
      day_high = omega arith;
      counted = day_in_year k left year m is (omega arith) holds ∙ sym total;
      text = ap (λ i. in_year (pos i -ℤ pos 10000) (count - days_of_years i)) index ∙ ap₂ in_year y rest
          ∙ ap (λ i. civil_text (pos year) (i + 1) (left - days_of_months (pos year) i + 1)) found;
    }

dated_in : (count k : ℕ) → year_index 20000 count ≡ k → YearHolds count k → 10000 ≤ k → k < 20000 → (year : ℕ) × (month : ℕ) × (day : ℕ) × DayOf count year month day
dated_in count k index holds low high =
    let year = k - 10000 in
    let left = count - days_of_years k in
    let y : pos k -ℤ pos 10000 ≡ pos year = omega (arith, signed_arith) in
    let long : left < days_in_year (pos year) = subst (λ v. left < days_in_year v) y (omega (arith, days_of_years_more k)) in
    let m = month_index (pos year) 11 left in (
      year,
      m + 1,
      left - days_of_months (pos year) m + 1,
      in_this_year count k left year m (omega arith) index (omega arith) (omega arith) (month_within (pos year) 11 left) refl
          (month_found (pos year) 11 left (omega (arith, days_of_months_all (pos year)))),
    )

dated : (count : ℕ) → 3_652_425 ≤ count → count < 7_304_850 → (year : ℕ) × (month : ℕ) × (day : ℕ) × DayOf count year month day
dated count low high =
    let holds = year_found 20000 count (omega (arith, days_of_20000, days_of_years_mono 20000 20001 (omega arith))) in
    dated_in count (year_index 20000 count) refl holds (year_low _ count holds low) (year_high _ count holds high)

all_digits : (xs : List ℕ) → prefix_len is_ascii_digit xs ≡ length xs → AllDigits 10 xs
all_digits xs h = subst (λ ys. AllDigits 10 ys) (ap (λ n. take n xs) h ∙ take_all (length xs) xs (omega arith)) (digits_taken xs)

append_none : (xs : List ℕ) → xs ++ [] ≡ xs
append_none [] = refl
append_none (x ∷ xs) = ap (λ ys. x ∷ ys) (append_none xs)

-- the fraction that is printed
IsFraction-at : (b : Bool) (n : ℕ) → (n == 0) ≡ b → n < 1_000_000_000 → IsFraction (cond b [] (46 ∷ places (cond b 0 (9 - trailing_zeros 8 n)) 1_000_000_000 n)) n
IsFraction-at true n e h = inl (refl, grind (arith, nat_tests))
IsFraction-at false n e h =
    let zeros = trailing_zeros 8 n in
    let few = trailing_zeros-le 8 n in
    let digits = places (9 - zeros) 1_000_000_000 n in
    let got = places-read (9 - zeros) 9 n [] (omega arith) h in
    let left : 9 - (9 - zeros) ≡ zeros = omega arith in
    let none : n % 10 ^ (9 - (9 - zeros)) ≡ 0 = rw left (trailing_zeros-mod 8 n) in
    let len : prefix_len is_ascii_digit digits ≡ length digits = ap (prefix_len is_ascii_digit) (sym (append_none digits)) ∙ got.0 ∙ omega (arith, got.1) in
    inr (digits, refl, (omega (arith, got.1), all_digits digits len), omega (arith, got.2))

IsFraction-part : (n : ℕ) → n < 1_000_000_000 → IsFraction (fraction_part None n) n
IsFraction-part n h = IsFraction-at _ n refl h

-- the numbers that are printed
abbrev shown : ℕ → ℕ → ℕ → ℕ → DateFields
shown year month day n = record {
  year = year;
  month = month;
  day = day;
  hour = n / 3_600_000_000_000;
  minute = n / 60_000_000_000 % 60;
  second = n / 1_000_000_000 % 60;
  fraction = n % 1_000_000_000;
  west = false;
  offset_hour = 0;
  offset_minute = 0;
}

-- a time of day is below that
abbrev a_day : ℕ
a_day = 86_400_000_000_000

printed_shape : (z : ℤ) (year month day : ℕ) → DayOf (count_of z) year month day → clock_of z < a_day → HasShape (moment_text z) (shown year month day (clock_of z))
unfolding moment_text
printed_shape z year month day d h =
    let n = clock_of z in
    let short = days_in_month_bounds (pos year) month in (
      84,
      clock_text_of n ++ 90 ∷ [],
      fraction_part None (n % 1_000_000_000),
      90 ∷ [],
      inl refl,
      (d.four_digits, omega (arith, d.month_high), omega (arith, d.day_high), ap (λ ds. (ds ++ 84 ∷ clock_text_of n) ++ 90 ∷ []) d.text),
      (omega arith, omega arith, omega arith, refl),
      IsFraction-part (n % 1_000_000_000) (omega arith),
      inl (inl refl, refl, refl, refl),
    )

valid : (year month day n : ℕ) → 1 ≤ month → month ≤ 12 → 1 ≤ day → day ≤ days_in_month (pos year) month → n < a_day → is_valid (shown year month day n) ≡ true
valid year month day n a b c d h = grind (arith, nat_tests)

-- the day of a moment, and what is left of it
count_is_day : (z : ℤ) → FitsSigned w64 z → pos (count_of z) ≡ int_div_euclid z (pos 86_400_000_000_000) +ℤ pos 4_371_953
count_is_day z h = same_abs _ (omega (arith, signed_arith))

clock_is_rest : (z : ℤ) → pos (clock_of z) ≡ int_rem_euclid z (pos 86_400_000_000_000)
clock_is_rest z = same_abs _ (omega (arith, signed_arith))

clock_small : (z : ℤ) → clock_of z < a_day
clock_small z = let rest = clock_is_rest z in omega (arith, signed_arith)

count_low : (z : ℤ) → FitsSigned w64 z → 3_652_425 ≤ count_of z
count_low z h = let day = count_is_day z h in omega (arith, signed_arith)

count_high : (z : ℤ) → FitsSigned w64 z → count_of z < 7_304_850
count_high z h = let day = count_is_day z h in omega (arith, signed_arith)

instant_is : (z : ℤ) (year month day : ℕ) → DayOf (count_of z) year month day → FitsSigned w64 z → instant (shown year month day (clock_of z)) ≡ z
instant_is z year month day d h =
    let counted = d.counted in
    let count = count_is_day z h in
    let rest = clock_is_rest z in
    omega (arith, signed_arith, days_from_civil-day_count (pos year) month day)

fits_is : (z : ℤ) → FitsSigned w64 z → fits z ≡ true
fits_is z h = grind (arith, ints)

pub read_back : (z : ℤ) → FitsSigned w64 z → rfc (moment_text z) ≡ Ok z
read_back z h =
    let d = dated (count_of z) (count_low z h) (count_high z h) in
    let s = shown d.0 d.1 d.2 (clock_of z) in
    let day = d.3 in
    let small : clock_of z < a_day = clock_small z in
    let read = fields_again (moment_text z) s (printed_shape z d.0 d.1 d.2 day small) in
    let good = valid d.0 d.1 d.2 (clock_of z) day.month_low day.month_high day.day_low day.day_high small in
    ap moment read ∙ ap (λ b. cond b (in_range (instant s)) (Err Field)) good ∙ ap in_range (instant_is z d.0 d.1 d.2 day h)
    ∙ ap (λ b. cond b (Ok z) (Err OutOfRange)) (fits_is z h)
