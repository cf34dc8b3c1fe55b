-- What is borrowed of a source is a prefix of the bytes that it has left.
use Rattle.std.proofs.Common.{◌≡◌, ℕ, ◌+◌, ◌-◌, ◌%◌, ◌<◌, ◌≤◌, true, false, ltb, List, [], ◌∷◌, ◌++◌, length, take, drop, get_or, Some, Ok, refl, sym, ap, subst, ◌∙◌, arith, take_at, take_all, length-append, length-drop, length-take-le}
use Rattle.std.proofs.lemmas.Bool.{le-ltb}
use Rattle.std.proofs.lemmas.List.{append_cancel_right, drop_more, take-append-drop}
use lib.Seq.{take-append-le}
use Rattle.tv_base.specs.Lend.{Passes, TakesContent, PassesNumber}
use Rattle.tv_base.specs.Number.{VNum}
use Rattle.tv_base.specs.Reading.{bytes_at, u8_at, vint_at, groups_at}
use Rattle.tv_base.specs.Sink.{IsPrefix}
use Rattle.tv_base.specs.Source.{AllBytes}
use Rattle.tv_base.specs.Stop.{◌>>=◌, Taken}
use Rattle.tv_base.proofs.AgreeNumbers.{vint_agrees}
use Rattle.tv_base.proofs.AgreeWidths.{bytes_agree}
use Rattle.tv_base.proofs.SmallBytes.{bytes_before}
use Rattle.tv_base.proofs.TakenGroups.{with_low, after_group, first_group}

-- the bytes that were lent, as many as were passed
prefix_lent : (old new lent : List ℕ) (n : ℕ) → IsPrefix lent old → n ≤ length lent → (p : (prefix : List ℕ) × (old ≡ prefix ++ new) × (length prefix ≡ n)) → p.0 ≡ take n lent
prefix_lent old new lent n lend within p =
    sym (take_at p.0 new n p.2) ∙ ap (take n) (sym p.1 ∙ lend.1) ∙ take-append-le n lent lend.0 within

-- a buffer that is full is what reading gives
pub full : (old new buf : List ℕ) (n : ℕ) (taken : List ℕ) → n ≡ length buf → TakesContent old new buf true → old ≡ taken ++ new → (behind : List ℕ) → bytes_at n (taken ++ behind) ≡ Ok (buf, behind)
full old new buf n taken len e joined behind =
    ap (λ (l : List ℕ). bytes_at n (l ++ behind)) (append_cancel_right taken buf new (sym joined ∙ e)) ∙ (bytes_agree n).complete buf buf behind (sym len, refl)

pub full_taken : {old new : List ℕ} (buf : List ℕ) {n i k : ℕ} → n ≡ length buf → k ≡ i + n → TakesContent old new buf true → Taken old new i k
full_taken buf len counted e = record { prefix = buf; joined = e; counted = omega (arith, len, counted) }

-- ---- a buffered number

-- the next group
pub group_at : (value weight i : ℕ) (bytes : List ℕ) → i < 9 → i < length bytes
    → with_low value weight (groups_at (9 - i) (drop i bytes)) ≡ with_low value weight (after_group (9 - (i + 1)) (get_or bytes i 0, drop (i + 1) bytes))
unfolding u8_at
group_at value weight i bytes lt within =
    first_group value weight i lt (drop i bytes) ∙ ap (λ (l : List ℕ). u8_at l >>= λ first. with_low value weight (after_group (9 - (i + 1)) first)) (drop_more bytes i 0 within)

-- an encoding that is lent was passed
pub number_passed : (old new lent : List ℕ) (n len : ℕ) → AllBytes old → IsPrefix lent old → len ≤ length lent → vint_at lent ≡ Ok (n, drop len lent) → Passes old new len true → PassesNumber old new (Some (n, len))
number_passed old new lent n len small lend within read p =
    let s = vint_agrees.sound lent (n, drop len lent) (bytes_before old lent lend.0 lend.1 small) read in
    let long : length s.0 ≡ len = omega (arith, ap length s.2, length-append s.0 (drop len lent), length-drop len lent) in
    let same : s.0 ≡ p.0 = sym (take_at s.0 (drop len lent) len long) ∙ ap (take len) (sym s.2) ∙ sym (prefix_lent old new lent len lend within p) in
    (p.0, subst (λ l. VNum l n) same s.1, p.1, p.2)

-- a slice without its first bytes
pub passed : (bytes : List ℕ) (n : ℕ) → n ≤ length bytes → (prefix : List ℕ) × (bytes ≡ prefix ++ take (length bytes - n) (drop n bytes)) × (length prefix ≡ n)
passed bytes n within = (
  take n bytes,
  sym (take-append-drop n bytes) ∙ ap (λ (l : List ℕ). take n bytes ++ l) (sym (take_all (length bytes - n) (drop n bytes) (omega (arith, length-drop n bytes)))),
  length-take-le n bytes within,
)

-- what was passed is what is read
pub number_read : (old new : List ℕ) (n len : ℕ) (taken : List ℕ) → PassesNumber old new (Some (n, len)) → old ≡ taken ++ new → (behind : List ℕ) → vint_at (taken ++ behind) ≡ Ok (n, behind)
number_read old new n len taken p joined behind = ap (λ (l : List ℕ). vint_at (l ++ behind)) (append_cancel_right taken p.0 new (sym joined ∙ p.2)) ∙ vint_agrees.complete p.0 n behind p.1

pub number_taken : {old new : List ℕ} {n len i k : ℕ} → k ≡ i + len → PassesNumber old new (Some (n, len)) → Taken old new i k
number_taken counted p = record { prefix = p.0; joined = p.2; counted = omega (arith, counted, p.3) }

-- a number of one byte
pub number_of_one : (bytes : List ℕ) (first : ℕ) → 0 < length bytes → first ≡ get_or bytes 0 0 → 128 ≤ first → vint_at bytes ≡ Ok (first % 128, drop 1 bytes)
unfolding groups_at u8_at
number_of_one [] first some e high = absurd (omega arith)
number_of_one (b ∷ rest) first some e high =
    let is : first ≡ b = e in
    let test : ltb b 128 ≡ false = le-ltb _ _ (omega (arith, is, high)) in
    let read : vint_at (b ∷ rest) ≡ Ok (b % 128, rest) = rw test refl in
    read ∙ ap (λ (n : ℕ). Ok (n % 128, rest)) (sym is)
