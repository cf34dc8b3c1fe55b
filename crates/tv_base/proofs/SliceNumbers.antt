-- A number of variable length that is read in place.
use Rattle.std.proofs.Common.{◌≡◌, ℕ, ◌-◌, ◌^◌, ◌<◌, ◌≤◌, List, ◌++◌, length, take, Ok, Err, Option, Some, None, refl, sym, ap, subst, ◌∙◌, arith, length-append, take_at}
use Rattle.std.proofs.lemmas.List.{append_cancel_right}
use Rattle.tv_base.specs.declared.cause.Cause.{Cause}
use Rattle.tv_base.specs.declared.cause.Cause.TheVariants.{TooLong}
use Rattle.tv_base.specs.declared.cause.ReadError.{ReadError}
use Rattle.tv_base.specs.declared.cause.ReadError.TheVariants.{Corrupted, Io, Memory}
use Rattle.tv_base.specs.Number.{VNum}
use Rattle.tv_base.specs.ErrorInPart.{ErrorInNumber}
use Rattle.tv_base.specs.Reading.{vint_at}
use Rattle.tv_base.specs.Source.{AllBytes, Failures}
use Rattle.tv_base.specs.Stop.{Stops, CountsStop, Taken}
use Rattle.tv_base.specs.Take.{read_stop, MayStopLean}
use Rattle.tv_base.proofs.AgreeNumbers.{vint_agrees}
use Rattle.tv_base.proofs.Agrees.{ok_is}

-- what was read is encoded by what was taken
pub number_found : (bytes rest : List ℕ) (n count : ℕ) → AllBytes bytes → vint_at bytes ≡ Ok (n, rest) → Taken bytes rest 0 count → (count ≤ length bytes) × VNum (take count bytes) n
number_found bytes rest n count small read t =
    let s = vint_agrees.sound bytes (n, rest) small read in
    let same : s.0 ≡ t.prefix = append_cancel_right s.0 t.prefix rest (sym s.2 ∙ t.joined) in
    let len : count ≡ length s.0 = omega (arith, t.counted, ap length same) in
    let taken : take count bytes ≡ s.0 = ap (λ (k : ℕ). take k bytes) len ∙ ap (take (length s.0)) s.2 ∙ take_at s.0 rest (length s.0) refl in
    (omega (arith, len, ap length s.2, length-append s.0 rest), subst (λ l. VNum l n) (sym taken) s.1)

-- and nothing else is encoded there
pub number_only : (bytes rest : List ℕ) (n count : ℕ) → vint_at bytes ≡ Ok (n, rest) → Taken bytes rest 0 count
    → (m : ℕ) (prefix tail : List ℕ) → bytes ≡ prefix ++ tail → VNum prefix m → let one : Option (ℕ × ℕ) = Some (n, count) in let other : Option (ℕ × ℕ) = Some (m, length prefix) in one ≡ other
number_only bytes rest n count read t m prefix tail joined encodes =
    let same = sym read ∙ ap vint_at joined ∙ vint_agrees.complete prefix m tail encodes in
    let both = ok_is (Cause × List ℕ) (n, rest) (m, tail) same in
    let number : n ≡ m = ap (λ z. z.0) both in
    let behind : rest ≡ tail = ap (λ z. z.1) both in
    let len : count ≡ length prefix = omega (arith, t.counted, ap length t.joined, ap length joined, ap length behind, length-append t.prefix rest, length-append prefix tail) in
    cc

-- a source that can't fail returns a failure
pub number_refused : (bytes rest : List ℕ) (count : ℕ) (e : ReadError) (failures : Failures) → failures.number ≡ 0 → count < 2 ^ 64 - 1 → MayStopLean e count → (t : Taken bytes rest 0 count)
    → Stops (read_stop e) vint_at t.prefix rest count → CountsStop (read_stop e) failures failures → (c : Cause) × (vint_at bytes ≡ Err (c, rest))
number_refused bytes rest count (Corrupted TooLong) failures none few may t gives counts = absurd (omega (arith, gives.0, few))
number_refused bytes rest count (Corrupted c) failures none few may t gives counts = (c, ap vint_at t.joined ∙ gives)
number_refused bytes rest count (Io kind) failures none few may t gives counts = absurd (omega (arith, none, counts.counted))
number_refused bytes rest count Memory failures none few may t gives counts = absurd (may.1 refl)

pub read_error_of : (bytes rest : List ℕ) → AllBytes bytes → (c : Cause) × (vint_at bytes ≡ Err (c, rest)) → (c : Cause) × ErrorInNumber bytes c
read_error_of bytes rest small read = (read.0, vint_agrees.refused bytes read.0 rest small read.1)

pub no_number : (bytes rest : List ℕ) → (c : Cause) × (vint_at bytes ≡ Err (c, rest))
    → (m : ℕ) (prefix tail : List ℕ) → bytes ≡ prefix ++ tail → VNum prefix m → let none : Option (ℕ × ℕ) = None in let other : Option (ℕ × ℕ) = Some (m, length prefix) in none ≡ other
no_number bytes rest read m prefix tail joined encodes =
    let same = sym read.1 ∙ ap vint_at joined ∙ vint_agrees.complete prefix m tail encodes in
    absurd cc
