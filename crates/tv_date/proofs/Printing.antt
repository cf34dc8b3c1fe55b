-- One moment has one text.
use Rattle.std.proofs.Common.{◌≡◌, ◌∷◌, [], ◌++◌, ℕ, List, None, ℤ, sym, ap₂, ◌∙◌}
use Rattle.jiff_core.specs.declared.civil.date.Date.{Date}
use Rattle.jiff_core.specs.declared.civil.time.Time.{Time}
use Rattle.jiff_core.proofs.DateTimeLemmas.{civil_nanos_injective, time_nanos_injective}
use Rattle.jiff_core.proofs.DateLemmas.{epoch_day_injective}
use Rattle.jiff_fmt.specs.Text.{date_text, time_text}
use Rattle.tv_date.specs.Printed.{IsPrinted}

date_once : (a b : Date) → a.year ≡ b.year → a.month ≡ b.month → a.day ≡ b.day → date_text a ≡ date_text b
date_once a b y m d = rw (y, m, d)

time_once : (a b : Time) → a.hour ≡ b.hour → a.minute ≡ b.minute → a.second ≡ b.second → a.subsec_nanosecond ≡ b.subsec_nanosecond → time_text None a ≡ time_text None b
time_once a b h m s n = rw (h, m, s, n)

pub IsPrinted_unique : (z : ℤ) (a b : List ℕ) → IsPrinted z a → IsPrinted z b → a ≡ b
IsPrinted_unique z a b p q =
    let same = civil_nanos_injective p.0 q.0 (p.1 ∙ sym q.1) in
    let day = epoch_day_injective p.0.date q.0.date same.0 in
    let clock = time_nanos_injective p.0.time q.0.time same.1 in
    p.2 ∙ ap₂ (λ d t. (d ++ 84 ∷ t) ++ 90 ∷ []) (date_once p.0.date q.0.date day.0 day.1 day.2) (time_once p.0.time q.0.time clock.0 clock.1 clock.2 clock.3) ∙ sym q.2
