use Rattle.std.proofs.Common.{◌≡◌, ◌+◌, ◌-◌, ◌^◌, ◌≤◌, drop, length}
use Rattle.jiff_fmt.specs.Reader.{fraction_value}
use Rattle.tv_date.proofs.rfc3339.nanoseconds.Given as goal

abbrev pub invariant-digits : goal.invariant-digits
invariant-digits l =
    (l.place ≡ 10 ^ (9 - l.digit-index)) × (l.nanosecond + l.place ≤ 1000000000) × (length l.digits ≤ 9)
    × (l.nanosecond + fraction_value (9 - l.digit-index) (drop l.digit-index l.digits) ≡ fraction_value 9 l.digits)
