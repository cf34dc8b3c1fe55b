-- The text as a function is the text of the clock.
use Rattle.std.proofs.Common.{◌≡◌, ℕ, zero, suc, ◌+◌, ◌-◌, ◌*◌, ◌/◌, ◌%◌, ◌<◌, ◌≤◌, ◌∷◌, [], ◌++◌, List, Bool, true, false, cond, nat_le, Option, None, ℤ, pos, negsuc, neg_ℤ, ◌≤ℤ◌, ◌+ℤ◌, ◌-ℤ◌, unsigned_abs, ◌⊎◌, inl, inr, sym, ap, ap₂, ◌∙◌, refl, arith}
use Rattle.std.proofs.lemmas.Bool.{leb-true, leb-false}
use Rattle.std.specs.Int.{int_div_euclid}
use Rattle.jiff_core.specs.Calendar.{days_of_years, days_of_months, days_in_year, days_in_month, day_count}
use Rattle.jiff_core.specs.Date.{epoch_day}
use Rattle.jiff_core.specs.Time.{time_nanos}
use Rattle.jiff_core.specs.DateTime.{civil_nanos}
use Rattle.jiff_core.specs.declared.civil.datetime.DateTime.{DateTime as Civil}
use Rattle.jiff_core.specs.declared.civil.date.Date.{Date}
use Rattle.jiff_core.specs.declared.civil.time.Time.{Time}
use Rattle.jiff_core.proofs.CalendarLemmas.{days_of_months_mono, days_of_months_more, day_of_year_bound, days_from_civil-day_count}
use Rattle.jiff_core.proofs.SignedLemmas.{signed_arith}
use Rattle.jiff_core.proofs.DateLemmas.{civil, epoch_day_range}
use Rattle.jiff_core.proofs.DateTimeLemmas.{civil_nanos-parts, epoch_day-civil_nanos, time_nanos_bound}
use Rattle.jiff_fmt.specs.Text.{date_text, time_text, datetime_text, zulu_text}
use Rattle.tv_date.specs.Printed.{IsPrinted, year_index, month_index, count_of, clock_of, civil_text, in_year, date_text_of, clock_text_of, moment_text}

le_or_is_at : (b : Bool) (k n : ℕ) → nat_le k n ≡ b → k ≤ suc n → (k ≤ n) ⊎ (k ≡ suc n)
le_or_is_at true k n e h = inl (leb-true k n e)
le_or_is_at false k n e h = let more = leb-false k n e in inr (omega arith)

le_or_is : (k n : ℕ) → k ≤ suc n → (k ≤ n) ⊎ (k ≡ suc n)
le_or_is k n h = le_or_is_at _ k n refl h

pub days_of_years_more : (k : ℕ) → days_of_years (suc k) ≡ days_of_years k + days_in_year (pos k -ℤ pos 10000)
unfolding days_of_years
days_of_years_more k = refl

pub days_of_years_mono : (k later : ℕ) → k ≤ later → days_of_years k ≤ days_of_years later
days_of_years_mono k zero h = let e : k ≡ 0 = omega arith in rw e (omega arith)
days_of_years_mono k (suc later) h =
    elim (le_or_is k later h) [ inl p ↦ omega (arith, days_of_years_mono k later p, days_of_years_more later) | inr e ↦ rw e (omega arith) ]

year_at : (b : Bool) (top k count : ℕ) → nat_le (days_of_years (suc top)) count ≡ b → k ≤ suc top → days_of_years k ≤ count → count < days_of_years (suc k)
    → (k ≤ top → year_index top count ≡ k) → cond b (suc top) (year_index top count) ≡ k
year_at true top k count e h low high lower =
    let begun = leb-true (days_of_years (suc top)) count e in
    elim (le_or_is k top h) [ inl less ↦ absurd (omega (arith, days_of_years_mono (suc k) (suc top) (omega arith))) | inr is ↦ sym is ]
year_at false top k count e h low high lower =
    let not_begun = leb-false (days_of_years (suc top)) count e in
    elim (le_or_is k top h) [ inl less ↦ lower less | inr is ↦ absurd (omega (arith, ap (days_of_years) is)) ]

year_index_is : (top k count : ℕ) → k ≤ top → days_of_years k ≤ count → count < days_of_years (suc k) → year_index top count ≡ k
unfolding year_index
year_index_is zero k count h low high = omega arith
year_index_is (suc top) k count h low high = year_at _ top k count refl h low high (λ less. year_index_is top k count less low high)

month_at : (y : ℤ) (b : Bool) (top k left : ℕ) → nat_le (days_of_months y (suc top)) left ≡ b → k ≤ suc top → days_of_months y k ≤ left → left < days_of_months y (suc k)
    → (k ≤ top → month_index y top left ≡ k) → cond b (suc top) (month_index y top left) ≡ k
month_at y true top k left e h low high lower =
    let begun = leb-true (days_of_months y (suc top)) left e in
    elim (le_or_is k top h) [ inl less ↦ absurd (omega (arith, days_of_months_mono y (suc k) (suc top) (omega arith))) | inr is ↦ sym is ]
month_at y false top k left e h low high lower =
    let not_begun = leb-false (days_of_months y (suc top)) left e in
    elim (le_or_is k top h) [ inl less ↦ lower less | inr is ↦ absurd (omega (arith, ap (days_of_months y) is)) ]

month_index_is : (y : ℤ) (top k left : ℕ) → k ≤ top → days_of_months y k ≤ left → left < days_of_months y (suc k) → month_index y top left ≡ k
unfolding month_index
month_index_is y zero k left h low high = omega arith
month_index_is y (suc top) k left h low high = month_at y _ top k left refl h low high (λ less. month_index_is y top k left less low high)

-- a date's year is that many after -10000
abbrev year_count : Date → ℕ
year_count d = unsigned_abs (d.year +ℤ pos 10000)

pub same_abs : (z : ℤ) → pos 0 ≤ℤ z → pos (unsigned_abs z) ≡ z
same_abs (pos n) h = refl
same_abs (negsuc n) h = absurd (omega (arith, signed_arith))

back : (y : ℤ) → neg_ℤ (pos 9999) ≤ℤ y → pos (unsigned_abs (y +ℤ pos 10000)) -ℤ pos 10000 ≡ y
back y h = let s = same_abs (y +ℤ pos 10000) (omega (arith, signed_arith)) in omega (arith, signed_arith)

year_back : (d : Date) → pos (year_count d) -ℤ pos 10000 ≡ d.year
year_back d = let c = civil d in back d.year c.0.0

year_within : (d : Date) → year_count d ≤ 20000
year_within d =
    let c = civil d in
    let low = c.0.0 in
    let high = c.0.1 in
    let s = same_abs (d.year +ℤ pos 10000) (omega (arith, signed_arith)) in
    omega (arith, signed_arith)

counted : (d : Date) → day_count d.year d.month d.day ≡ days_of_years (year_count d) + (days_of_months d.year (d.month - 1) + d.day - 1)
unfolding day_count
counted d = refl

in_year-is : (d : Date) → in_year d.year (days_of_months d.year (d.month - 1) + d.day - 1) ≡ date_text d
in_year-is d =
    let c = civil d in
    let y = d.year in
    let m = d.month - 1 in
    let left = days_of_months y m + d.day - 1 in
    let next : days_of_months y (suc m) ≡ days_of_months y m + days_in_month y d.month = ap (days_of_months y) (omega arith) ∙ days_of_months_more y d.month (omega (arith, c.1.0)) in
    let index : month_index y 11 left ≡ m = month_index_is y 11 m left (omega arith) (omega arith) (omega arith) in
    ap (λ i. civil_text y (i + 1) (left - days_of_months y i + 1)) index ∙ ap₂ (civil_text y) (omega arith) (omega arith)

date_text-is : (d : Date) → date_text_of (day_count d.year d.month d.day) ≡ date_text d
date_text-is d =
    let c = civil d in
    let k = year_count d in
    let y = d.year in
    let count = day_count y d.month d.day in
    let long = day_of_year_bound y d.month d.day c in
    let year_is : pos k -ℤ pos 10000 ≡ y = year_back d in
    let length_is : days_in_year (pos k -ℤ pos 10000) ≡ days_in_year y = ap days_in_year year_is in
    let index : year_index 20000 count ≡ k = year_index_is 20000 k count (year_within d) (omega (arith, counted d)) (omega (arith, counted d, days_of_years_more k)) in
    ap (λ i. in_year (pos i -ℤ pos 10000) (count - days_of_years i)) index ∙ ap₂ in_year year_is (omega (arith, counted d)) ∙ in_year-is d

hour_is : (h m s n : ℕ) → h < 24 → m < 60 → s < 60 → n < 1_000_000_000 → ((h * 3600 + m * 60 + s) * 1_000_000_000 + n) / 3_600_000_000_000 ≡ h
hour_is h m s n a b c d = omega arith

minute_is : (h m s n : ℕ) → h < 24 → m < 60 → s < 60 → n < 1_000_000_000 → ((h * 3600 + m * 60 + s) * 1_000_000_000 + n) / 60_000_000_000 % 60 ≡ m
minute_is h m s n a b c d = omega arith

second_is : (h m s n : ℕ) → h < 24 → m < 60 → s < 60 → n < 1_000_000_000 → ((h * 3600 + m * 60 + s) * 1_000_000_000 + n) / 1_000_000_000 % 60 ≡ s
second_is h m s n a b c d = omega arith

fraction_is : (h m s n : ℕ) → n < 1_000_000_000 → ((h * 3600 + m * 60 + s) * 1_000_000_000 + n) % 1_000_000_000 ≡ n
fraction_is h m s n d = omega arith

clock_is : (t : Time) → clock_text_of (time_nanos t) ≡ time_text None t
clock_is t =
    let h : t.hour < 24 = omega (arith) in
    let m : t.minute < 60 = omega (arith) in
    let s : t.second < 60 = omega (arith) in
    let n : t.subsec_nanosecond < 1_000_000_000 = omega (arith) in
    rw (hour_is t.hour t.minute t.second t.subsec_nanosecond h m s n, minute_is t.hour t.minute t.second t.subsec_nanosecond h m s n, second_is t.hour t.minute t.second t.subsec_nanosecond h m s n, fraction_is t.hour t.minute t.second t.subsec_nanosecond n)

count_is : (dt : Civil) → count_of (civil_nanos dt) ≡ day_count dt.date.year dt.date.month dt.date.day
count_is dt =
    let day : int_div_euclid (civil_nanos dt) (pos 86_400_000_000_000) ≡ epoch_day dt.date = sym (epoch_day-civil_nanos dt) in
    let range = epoch_day_range dt.date in
    let s = same_abs (epoch_day dt.date +ℤ pos 4_371_953) (omega (arith, signed_arith)) in
    ap (λ e. unsigned_abs (e +ℤ pos 4_371_953)) day ∙ omega (arith, signed_arith, days_from_civil-day_count dt.date.year dt.date.month dt.date.day)

clock_of-is : (dt : Civil) → clock_of (civil_nanos dt) ≡ time_nanos dt.time
clock_of-is dt = omega (arith, signed_arith, civil_nanos-parts dt, time_nanos_bound dt.time)

pub IsPrinted-moment_text : (z : ℤ) (text : List ℕ) → IsPrinted z text → text ≡ moment_text z
unfolding moment_text
IsPrinted-moment_text z text p =
    let dt = p.0 in
    p.2 ∙ ap₂ (λ d t. (d ++ 84 ∷ t) ++ 90 ∷ []) (sym (date_text-is dt.date) ∙ ap date_text_of (sym (count_is dt))) (sym (clock_is dt.time) ∙ ap clock_text_of (sym (clock_of-is dt)))
    ∙ ap moment_text p.1

-- the text under the options of a new printer
pub usual : (o p : Bool × ℕ × Option ℕ) (dt : Civil) → o ≡ p → datetime_text o.0 o.1 o.2 dt ++ zulu_text o.0 ≡ datetime_text p.0 p.1 p.2 dt ++ zulu_text p.0
usual o p dt e = ap (λ (q : Bool × ℕ × Option ℕ). datetime_text q.0 q.1 q.2 dt ++ zulu_text q.0) e
