-- The number of a value is below 2^64, gives the value back, and has its order.
use Rattle.std.specs.Prelude.{◌≡◌, ◌<◌, ◌^◌, ℤ, pos, negsuc, FitsSigned, Bool, true, false, refl}
use Rattle.std.proofs.Common.{arith, ap}
use Rattle.std.specs.Int.{w64}
use Rattle.std.specs.Ordering.{nat_cmp, int_cmp, bool_cmp}
use Rattle.std.proofs.lemmas.Bool.Decides.{nat_tests}
use Rattle.std.proofs.lemmas.Int.{ints}
use Rattle.tv_date.specs.declared.date_time.DateTime.{DateTime}
use Rattle.tv_term.specs.Key.{from_least, truth_number}
use Rattle.tv_term.specs.Reading.{signed_at, is_true}

pub from_least-order : (a b : ℤ) → FitsSigned w64 a → FitsSigned w64 b
    → int_cmp a b ≡ nat_cmp (from_least a) (from_least b)
from_least-order (pos a) (pos b) h k = grind (arith, nat_tests, ints)
from_least-order (pos a) (negsuc b) h k = grind (arith, nat_tests, ints)
from_least-order (negsuc a) (pos b) h k = grind (arith, nat_tests, ints)
from_least-order (negsuc a) (negsuc b) h k = grind (arith, nat_tests, ints)

pub from_least-fits : (z : ℤ) → FitsSigned w64 z → from_least z < 2 ^ 64
from_least-fits (pos n) h = omega (arith, ints)
from_least-fits (negsuc n) h = omega (arith, ints)

pub signed_at-from_least : (z : ℤ) → FitsSigned w64 z → signed_at (from_least z) ≡ z
signed_at-from_least (pos n) fits = grind (arith, ints)
signed_at-from_least (negsuc n) fits = grind (arith, ints)

pub truth_number-order : (a b : Bool) → bool_cmp a b ≡ nat_cmp (truth_number a) (truth_number b)
truth_number-order true true = refl
truth_number-order true false = refl
truth_number-order false true = refl
truth_number-order false false = refl

pub truth_number-fits : (b : Bool) → truth_number b < 2 ^ 64
truth_number-fits true = omega arith
truth_number-fits false = omega arith

pub is_true-truth_number : (b : Bool) → is_true (truth_number b) ≡ b
is_true-truth_number true = refl
is_true-truth_number false = refl

pub date-again : (date : DateTime) → FitsSigned w64 date.nanoseconds
    → ◌≡◌ {A = DateTime} (record { nanoseconds = signed_at (from_least date.nanoseconds) }) date
date-again date fits = ap (λ z. let made : DateTime = record { nanoseconds = z } in made)
    (signed_at-from_least date.nanoseconds fits)
