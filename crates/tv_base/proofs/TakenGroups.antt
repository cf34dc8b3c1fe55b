-- A number of variable length, as a loop reads it.
use Rattle.std.proofs.Common.{◌≡◌, ℕ, suc, ◌+◌, ◌-◌, ◌*◌, ◌%◌, ◌^◌, ◌<◌, ◌≤◌, true, false, cond, ltb, List, Result, Ok, Err, refl, ap, ◌∙◌, arith}
use Rattle.std.proofs.lemmas.Bool.{le-ltb, lt-ltb}
use Rattle.std.proofs.Math.Nat.{pow-le-pow_right, mul-le-mul_right}
use Rattle.tv_base.specs.declared.cause.Cause.{Cause}
use Rattle.tv_base.specs.declared.cause.Cause.TheVariants.{BadNumber}
use Rattle.tv_base.specs.Stop.{◌>>=◌}
use Rattle.tv_base.specs.Reading.{u8_at, last_group, groups_at}
use Rattle.tv_base.proofs.TakeSteps.{bind_bind}

-- what the groups so far stand for, and those that are still read
abbrev pub with_low : ℕ → ℕ → Result (ℕ × List ℕ) (Cause × List ℕ) → Result (ℕ × List ℕ) (Cause × List ℕ)
with_low value weight read = read >>= λ high. Ok (value + weight * high.0, high.1)

pub weight_fits : (i : ℕ) → i < 9 → 128 ^ i ≤ 2 ^ 56
weight_fits i lt = pow-le-pow_right {n = 128} (omega arith) {i = i} {j = 8} (omega arith)

pub group_fits : (value weight group : ℕ) → value < weight → group < 128 → value + group * weight < weight * 128
group_fits value weight group small low =
    let le : group * weight ≤ 127 * weight = mul-le-mul_right weight (omega arith) in
    omega arith

-- what comes after a group of which n more may follow
abbrev pub after_group : ℕ → (ℕ × List ℕ) → Result (ℕ × List ℕ) (Cause × List ℕ)
after_group n first = cond (ltb first.0 128) (groups_at n first.1 >>= λ high. Ok (first.0 % 128 + 128 * high.0, high.1)) (Ok (first.0 % 128, first.1))

pub first_group : (value weight i : ℕ) → i < 9 → (bytes : List ℕ) → with_low value weight (groups_at (9 - i) bytes) ≡ (u8_at bytes >>= λ first. with_low value weight (after_group (9 - (i + 1)) first))
unfolding groups_at
first_group value weight i lt bytes =
    let k : 9 - i ≡ suc (9 - (i + 1)) = omega arith in
    ap (λ (n : ℕ). with_low value weight (groups_at n bytes)) k ∙ bind_bind (u8_at bytes) (after_group (9 - (i + 1))) (λ high. Ok (value + weight * high.0, high.1))

regroup : (value weight byte : ℕ) (read : Result (ℕ × List ℕ) (Cause × List ℕ)) → with_low value weight (read >>= λ high. Ok (byte % 128 + 128 * high.0, high.1)) ≡ with_low (value + byte % 128 * weight) (weight * 128) read
regroup value weight byte (Ok high) = ap (λ (n : ℕ). Ok (n, high.1)) (omega arith)
regroup value weight byte (Err c) = refl

begins : (read : Result (ℕ × List ℕ) (Cause × List ℕ)) → read ≡ with_low 0 1 read
begins (Ok high) = ap (λ (n : ℕ). Ok (n, high.1)) (omega arith)
begins (Err c) = refl

pub goes_on : (value weight n byte : ℕ) → byte < 128 → (rest : List ℕ) → with_low value weight (after_group n (byte, rest)) ≡ with_low (value + byte % 128 * weight) (weight * 128) (groups_at n rest)
goes_on value weight n byte low rest =
    let test : ltb byte 128 ≡ true = lt-ltb _ _ low in
    rw test (regroup value weight byte (groups_at n rest))

pub ends : (value weight n byte : ℕ) → 128 ≤ byte → (rest : List ℕ) → with_low value weight (after_group n (byte, rest)) ≡ Ok (value + byte % 128 * weight, rest)
ends value weight n byte high rest =
    let test : ltb byte 128 ≡ false = le-ltb _ _ high in
    rw test (ap (λ (n : ℕ). Ok (n, rest)) (omega arith))

pub tenth_group : (value weight i : ℕ) → i ≡ 9 → (bytes : List ℕ) → with_low value weight (groups_at (9 - i) bytes) ≡ (u8_at bytes >>= λ last. with_low value weight (last_group last.0 last.1))
unfolding groups_at
tenth_group value weight i last bytes =
    let k : 9 - i ≡ 0 = omega arith in
    ap (λ (n : ℕ). with_low value weight (groups_at n bytes)) k ∙ bind_bind (u8_at bytes) (λ last. last_group last.0 last.1) (λ high. Ok (value + weight * high.0, high.1))

pub is_low : (value weight byte : ℕ) → byte < 128 → (rest : List ℕ) → with_low value weight (last_group byte rest) ≡ Err (BadNumber, rest)
unfolding last_group
is_low value weight byte low rest =
    let test : ltb byte 128 ≡ true = lt-ltb _ _ low in
    rw test refl

pub is_large : (value weight byte : ℕ) → 1 < byte % 128 → (rest : List ℕ) → with_low value weight (last_group byte rest) ≡ Err (BadNumber, rest)
unfolding last_group
is_large value weight byte large rest =
    let test : ltb 1 (byte % 128) ≡ true = lt-ltb _ _ large in
    elim (ltb byte 128) as (λ b. with_low value weight (cond b (Err (BadNumber, rest)) (cond (ltb 1 (byte % 128)) (Err (BadNumber, rest)) (Ok (byte % 128, rest)))) ≡ Err (BadNumber, rest)) [ true ↦ refl | false ↦ rw test refl ]

pub is_last : (value weight byte : ℕ) → 128 ≤ byte → byte % 128 ≤ 1 → (rest : List ℕ) → with_low value weight (last_group byte rest) ≡ Ok (value + byte % 128 * weight, rest)
unfolding last_group
is_last value weight byte high small rest =
    let one : ltb byte 128 ≡ false = le-ltb _ _ high in
    let two : ltb 1 (byte % 128) ≡ false = le-ltb _ _ small in
    rw (one, two) (ap (λ (n : ℕ). Ok (n, rest)) (omega arith))

-- before the first group
pub start : (bytes : List ℕ) → groups_at 9 bytes ≡ with_low 0 1 (groups_at (9 - 0) bytes)
start bytes = begins (groups_at 9 bytes)
