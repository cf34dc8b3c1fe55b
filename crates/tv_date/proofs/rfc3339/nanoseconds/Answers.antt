use Rattle.std.proofs.Common.{◌≡◌, suc, ◌/◌, get_or-take, ◌<◌, ◌+◌, ◌-◌, ◌*◌, ◌^◌, ◌≤◌, length, take, get_or, ◌∙◌, rules, arith, length-take}
use Rattle.std.proofs.lemmas.Grind.{common_steps}
use Rattle.std.proofs.lemmas.Bool.Decides.{nat_tests}
use Rattle.std.proofs.lemmas.List.{at_drop_all}
use Rattle.std.proofs.Math.Nat.{mul-le-mul_right}
use Rattle.tv_date.specs.Rfc3339.{nanoseconds}
use Rattle.jiff_fmt.specs.Reader.{fraction_value}
use Rattle.jiff_fmt.proofs.ReaderLemmas.{fraction_value-nil, fraction_value-drop, tenth, ten_pow-pos}
use Rattle.tv_date.proofs.rfc3339.nanoseconds.Goals as goal

pub returns-then-len-eq0-clause-value : goal.returns-then-len-eq0-clause-value
unfolding nanoseconds
returns-then-len-eq0-clause-value c = first_of (search rules, grind (arith, common_steps))

pub digits-preserved : goal.digits-preserved
digits-preserved c =
    let l = c.digits in
    let ds = take c.min.result c.args.text.now in
    let short : length ds ≤ 9 = l.invariant.2 in
    let j = 9 - (l.digit-index + 1) in
    let within : l.digit-index < length ds = c.digits-test.true in
    let next : 9 - l.digit-index ≡ suc j = omega arith in
    let power = 10 ^ j in
    let place : l.place / 10 ≡ power = omega (arith, tenth _ j next) in
    let i = l.digit-index in
    let inside : i < c.min.result = omega (arith, length-take c.min.result c.args.text.now) in
    let read : get_or ds i 0 ≡ get_or c.args.text.now i 0 = get_or-take _ _ i 0 inside in
    let digit : get_or ds i 0 - 48 ≤ 9 = omega (arith, c.digits_len-len.ensures.digits i (omega arith)) in
    let worth : (get_or ds i 0 - 48) * (l.place / 10) ≤ 9 * (l.place / 10) = mul-le-mul_right _ digit in
    let step = fraction_value-drop _ j ds l.digit-index next within in
    let same : (get_or ds i 0 - 48) * (l.place / 10) ≡ (get_or ds l.digit-index 0 - 48) * power = rw place in
    (place, omega arith, short, omega arith)

pub returns-clause-value : goal.returns-clause-value
unfolding nanoseconds
returns-clause-value c =
    let l = c.digits in
    let ds = take c.min.result c.args.text.now in
    let none = at_drop_all (fraction_value (9 - l.digit-index)) _ _ c.digits-test.false ∙ fraction_value-nil _ in
    let value : l.nanosecond ≡ fraction_value 9 ds = omega arith in
    grind (arith, nat_tests, common_steps)

pub returns-clause-small : goal.returns-clause-small
returns-clause-small c = omega (arith, ten_pow-pos (9 - c.digits.digit-index))
