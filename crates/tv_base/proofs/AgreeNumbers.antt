-- Numbers of variable length agree with their grammar.
use Rattle.std.proofs.Common.{◌≡◌, ◌≢◌, ◌⊎◌, ℕ, zero, suc, ◌+◌, ◌*◌, ◌%◌, ◌<◌, ◌≤◌, true, false, cond, ltb, List, [], ◌∷◌, ◌++◌, length, Result, Ok, refl, sym, ap, subst, ◌∙◌, arith, inl, inr}
use Rattle.std.proofs.lemmas.Bool.{ltb-true, ltb-false, lt-ltb, le-ltb}
use Rattle.std.specs.List.{AllByRecursion}
use Rattle.tv_base.specs.declared.cause.Cause.{Cause}
use Rattle.tv_base.specs.declared.cause.Cause.TheVariants.{UnexpectedEnd, BadNumber}
use Rattle.tv_base.specs.Source.{AllBytes}
use Rattle.tv_base.specs.Stop.{◌>>=◌}
use Rattle.tv_base.specs.Reading.{last_group, groups_at}
use Rattle.tv_base.specs.Number.{Groups, last, more, VNum}
use Rattle.tv_base.specs.Parts.{Then}
use Rattle.tv_base.specs.ErrorInPart.{InThen, ErrorInNumber, number_ends, number_large, ErrorInBytes}
use Rattle.tv_base.proofs.Excluding.{groups_some}
use Rattle.tv_base.proofs.SmallBytes.{first_byte}
use Rattle.tv_base.proofs.Agrees.{Agrees, InTurn, agrees_too, in_turn, make, made, chosen, nothing_read, nothing_stands}
use Rattle.tv_base.proofs.AgreeWidths.{IsCode, code_agrees, bytes_error}

-- numbers of at most n + 1 groups are below this
unfoldable limit : ℕ → ℕ
limit zero = 2
limit (suc n) = 128 * limit n

limit_positive : (n : ℕ) → 0 < limit n
unfolding limit
limit_positive zero = omega arith
limit_positive (suc n) = omega (arith, limit_positive n)

abbrev AllLow : List ℕ → Type 0
AllLow bytes = AllByRecursion (λ b. b < 128) bytes

record UpTo (n : ℕ) (bytes : List ℕ) (number : ℕ) : Type 0 where
  groups : Groups bytes number
  short : length bytes ≤ n + 1
  fits : number < limit n

-- n bytes below 128, and then one that is neither 128 nor 129
record IsLarge (n : ℕ) (bytes : List ℕ) : Type 0 where
  prefix : List ℕ
  byte : ℕ
  rest : List ℕ
  joined : bytes ≡ prefix ++ (byte ∷ rest)
  count : length prefix ≡ n
  low : AllLow prefix
  not_128 : byte ≢ 128
  not_129 : byte ≢ 129

abbrev ErrorUpTo : ℕ → List ℕ → Cause → Type 0
ErrorUpTo n bytes c = ((c ≡ UnexpectedEnd) × (length bytes ≤ n) × AllLow bytes) ⊎ ((c ≡ BadNumber) × IsLarge n bytes)

-- a byte and what follows it
byte_first : {P : List ℕ → Type 0} (byte : ℕ) (bytes : List ℕ) (p : Then (λ b. IsCode b byte) P bytes) → bytes ≡ byte ∷ p.rest
byte_first byte bytes p = p.joined ∙ ap (λ (l : List ℕ). l ++ p.rest) p.first

-- ---- the last group

abbrev Last : ℕ → List ℕ → ℕ → Type 0
Last byte bytes number = ((ltb byte 128 ≡ true) × ⊥) ⊎ ((ltb byte 128 ≡ false) × (((ltb 1 (byte % 128) ≡ true) × ⊥) ⊎ ((ltb 1 (byte % 128) ≡ false) × ((bytes ≡ []) × (number ≡ byte % 128)))))

abbrev ErrorInLast : ℕ → List ℕ → Cause → Type 0
ErrorInLast byte bytes c = ((ltb byte 128 ≡ true) × (c ≡ BadNumber)) ⊎ ((ltb byte 128 ≡ false) × (((ltb 1 (byte % 128) ≡ true) × (c ≡ BadNumber)) ⊎ ((ltb 1 (byte % 128) ≡ false) × ⊥)))

last_agrees : (byte : ℕ) → Agrees UnexpectedEnd (last_group byte) (Last byte) (ErrorInLast byte)
unfolding last_group
last_agrees byte = chosen (ltb byte 128) (nothing_stands BadNumber (λ e. cc)) (chosen (ltb 1 (byte % 128)) (nothing_stands BadNumber (λ e. cc)) (nothing_read UnexpectedEnd (byte % 128)))

one_group : (byte number : ℕ) (bytes : List ℕ) → bytes ≡ byte ∷ [] → AllBytes bytes → 128 ≤ byte → number ≡ byte % 128 → Groups bytes number
one_group byte number bytes e small high is =
    let below = first_byte byte [] (subst AllBytes e small) in
    let is_byte : number + 128 ≡ byte = omega arith in
    subst (λ (l : List ℕ). Groups l number) (ap (λ (b : ℕ). b ∷ []) is_byte ∙ sym e) (last (omega arith))

last_to : (bytes : List ℕ) (number : ℕ) → AllBytes bytes → InTurn IsCode Last bytes number → UpTo zero bytes number
unfolding limit
last_to bytes number small p = elim p.1.second [
  | inl q ↦ absurd q.1
  | inr q ↦ elim q.1 [
    | inl r ↦ absurd r.1
    | inr r ↦
        let e : bytes ≡ p.0 ∷ [] = byte_first p.0 bytes p.1 ∙ ap (λ (l : List ℕ). p.0 ∷ l) r.1.0 in
        let low : p.0 % 128 ≤ 1 = ltb-false _ _ r.0 in
        record { groups = one_group p.0 number bytes e small (ltb-false _ _ q.0) r.1.1; short = omega (arith, ap length e); fits = omega (arith, r.1.1) }
  ]
]

last_parts : (bytes : List ℕ) (number : ℕ) → Groups bytes number → length bytes ≤ 1 → number < 2 → InTurn IsCode Last bytes number
last_parts _ _ (last {n = n} small) short fits =
    (n + 128, record { prefix = (n + 128) ∷ []; rest = []; joined = refl; first = refl; second = inr (le-ltb _ _ (omega arith), inr (le-ltb _ _ (omega arith), (refl, omega arith))) })
last_parts _ _ (more low g) short fits = absurd (omega (arith, groups_some g))

last_from : (bytes : List ℕ) (number : ℕ) → UpTo zero bytes number → InTurn IsCode Last bytes number
unfolding limit
last_from bytes number h = last_parts bytes number h.groups (omega (arith, h.short)) h.fits

not_last : (byte : ℕ) → (byte < 128) ⊎ (1 < byte % 128) → (byte ≢ 128) × (byte ≢ 129)
not_last byte h = elim h [
  | inl low ↦ (λ e. omega (arith, e), λ e. omega (arith, e))
  | inr large ↦ (λ e. omega (arith, e), λ e. omega (arith, e))
]

large_here : (byte : ℕ) (bytes rest : List ℕ) → bytes ≡ byte ∷ rest → (byte < 128) ⊎ (1 < byte % 128) → IsLarge zero bytes
large_here byte bytes rest e h =
    let n = not_last byte h in
    record { prefix = []; byte = byte; rest = rest; joined = e; count = refl; low = tt; not_128 = n.0; not_129 = n.1 }

none_low : (bytes : List ℕ) → length bytes < 1 → AllLow bytes
none_low [] h = tt
none_low (byte ∷ bytes) h = absurd (omega arith)

ends_here : (n : ℕ) (bytes : List ℕ) (c : Cause) → ErrorInBytes 1 bytes c → ErrorUpTo n bytes c
ends_here n bytes c h = let q = bytes_error 1 bytes c h in inl (q.0, omega (arith, q.1), none_low bytes q.1)

last_errors : (bytes : List ℕ) (c : Cause) → AllBytes bytes → InThen (ErrorInBytes 1) IsCode ErrorInLast bytes c → ErrorUpTo zero bytes c
last_errors bytes c small p = elim p [
  | inl q ↦ ends_here zero bytes c q
  | inr q ↦
      let e : bytes ≡ q.0 ∷ q.1.rest = byte_first q.0 bytes q.1 in
      elim q.1.second [
        | inl r ↦ inr (r.1, large_here q.0 bytes q.1.rest e (inl (ltb-true _ _ r.0)))
        | inr r ↦ elim r.1 [ inl s ↦ inr (s.1, large_here q.0 bytes q.1.rest e (inr (ltb-true _ _ s.0))) | inr s ↦ absurd s.1 ]
      ]
]

-- ---- a group and those after it

abbrev More : ℕ → ℕ → List ℕ → ℕ → Type 0
More n byte bytes number = ((ltb byte 128 ≡ true) × ((high : ℕ) × UpTo n bytes high × (number ≡ byte % 128 + 128 * high))) ⊎ ((ltb byte 128 ≡ false) × ((bytes ≡ []) × (number ≡ byte % 128)))

abbrev ErrorInMore : ℕ → ℕ → List ℕ → Cause → Type 0
ErrorInMore n byte bytes c = ((ltb byte 128 ≡ true) × ErrorUpTo n bytes c) ⊎ ((ltb byte 128 ≡ false) × ⊥)

more_to : (n : ℕ) (bytes : List ℕ) (number : ℕ) → AllBytes bytes → InTurn IsCode (More n) bytes number → UpTo (suc n) bytes number
unfolding limit
more_to n bytes number small p =
    let e : bytes ≡ p.0 ∷ p.1.rest = byte_first p.0 bytes p.1 in
    elim p.1.second [
      | inl q ↦
          let h = q.1.1 in
          let low : p.0 < 128 = ltb-true _ _ q.0 in
          let is : p.0 + 128 * q.1.0 ≡ number = omega (arith, q.1.2) in
          record {
            groups = subst (λ (l : List ℕ). Groups l number) (sym e) (subst (Groups (p.0 ∷ p.1.rest)) is (more low h.groups));
            short = omega (arith, ap length e, h.short);
            fits = omega (arith, q.1.2, h.fits);
          }
      | inr q ↦
          let one : bytes ≡ p.0 ∷ [] = e ∙ ap (λ (l : List ℕ). p.0 ∷ l) q.1.0 in
          record { groups = one_group p.0 number bytes one small (ltb-false _ _ q.0) q.1.1; short = omega (arith, ap length one); fits = omega (arith, q.1.1, limit_positive n) }
    ]

more_parts : (n : ℕ) (bytes : List ℕ) (number : ℕ) → Groups bytes number → length bytes ≤ n + 2 → number < 128 * limit n → InTurn IsCode (More n) bytes number
more_parts n _ _ (last {n = m} small) short fits =
    (m + 128, record { prefix = (m + 128) ∷ []; rest = []; joined = refl; first = refl; second = inr (le-ltb _ _ (omega arith), (refl, omega arith)) })
more_parts n _ _ (more {b = b} {high = high} {bytes = bytes} low g) short fits =
    let rest : UpTo n bytes high = record { groups = g; short = omega arith; fits = omega arith } in
    (b, record { prefix = b ∷ []; rest = bytes; joined = refl; first = refl; second = inl (lt-ltb _ _ low, (high, rest, omega arith)) })

more_from : (n : ℕ) (bytes : List ℕ) (number : ℕ) → UpTo (suc n) bytes number → InTurn IsCode (More n) bytes number
unfolding limit
more_from n bytes number h = more_parts n bytes number h.groups (omega (arith, h.short)) h.fits

more_errors : (n : ℕ) (bytes : List ℕ) (c : Cause) → AllBytes bytes → InThen (ErrorInBytes 1) IsCode (ErrorInMore n) bytes c → ErrorUpTo (suc n) bytes c
more_errors n bytes c small p = elim p [
  | inl q ↦ ends_here (suc n) bytes c q
  | inr q ↦
      let e : bytes ≡ q.0 ∷ q.1.rest = byte_first q.0 bytes q.1 in
      elim q.1.second [
        | inl r ↦
            let low : q.0 < 128 = ltb-true _ _ r.0 in
            elim r.1 [
              | inl s ↦ inl (s.0, omega (arith, ap length e, s.1), subst AllLow (sym e) (low, s.2))
              | inr s ↦ inr (s.0, record { prefix = q.0 ∷ s.1.prefix; byte = s.1.byte; rest = s.1.rest; joined = e ∙ ap (λ (l : List ℕ). q.0 ∷ l) s.1.joined; count = ap suc s.1.count; low = (low, s.1.low); not_128 = s.1.not_128; not_129 = s.1.not_129 })
            ]
        | inr r ↦ absurd r.1
      ]
]

after : ℕ → ℕ → List ℕ → Result (ℕ × List ℕ) (Cause × List ℕ)
after n byte bytes = cond (ltb byte 128) (groups_at n bytes >>= make (λ high. byte % 128 + 128 * high)) (Ok (byte % 128, bytes))

groups_agree : (n : ℕ) → Agrees UnexpectedEnd (groups_at n) (UpTo n) (ErrorUpTo n)
unfolding groups_at after
groups_agree zero = agrees_too (λ bytes. refl) last_to last_from last_errors (in_turn code_agrees last_agrees)
groups_agree (suc n) = agrees_too (λ bytes. refl) (more_to n) (more_from n) (more_errors n)
    (in_turn {b = after n} code_agrees (λ byte. chosen (ltb byte 128) (made (λ high. byte % 128 + 128 * high) (groups_agree n)) (nothing_read UnexpectedEnd (byte % 128))))

number_errors : (bytes : List ℕ) (c : Cause) → AllBytes bytes → ErrorUpTo 9 bytes c → ErrorInNumber bytes c
number_errors bytes c small h = elim h [
  | inl p ↦ subst (ErrorInNumber bytes) (sym p.0) (number_ends (omega (arith, p.1)) p.2)
  | inr p ↦ subst (ErrorInNumber bytes) (sym p.0) (number_large p.1.prefix p.1.rest p.1.byte p.1.joined p.1.count p.1.low p.1.not_128 p.1.not_129)
]

pub vint_agrees : Agrees UnexpectedEnd (groups_at 9) VNum ErrorInNumber
unfolding limit
vint_agrees = agrees_too (λ bytes. refl)
    (λ bytes n small h. record { groups = h.groups; at_most_ten = h.short; fits = h.fits })
    (λ bytes n h. record { groups = h.groups; short = h.at_most_ten; fits = h.fits })
    number_errors
    (groups_agree 9)
