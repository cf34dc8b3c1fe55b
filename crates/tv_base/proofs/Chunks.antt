-- Bytes that are read chunk by chunk.
use Rattle.std.proofs.Common.{◌≡◌, ℕ, ◌+◌, ◌-◌, ◌<◌, ◌≤◌, true, false, ltb, List, [], ◌++◌, length, take, drop, Result, Ok, Err, refl, ap, ◌∙◌, append_assoc, arith, length-drop, inl, inr}
use Rattle.std.proofs.lemmas.Bool.{le-ltb, lt-ltb, cases_lt}
use Rattle.std.proofs.lemmas.List.{append-nil, drop-drop}
use lib.Seq.{take-add}
use Rattle.tv_base.specs.declared.cause.Cause.{Cause}
use Rattle.tv_base.specs.declared.cause.Cause.TheVariants.{UnexpectedEnd}
use Rattle.tv_base.specs.Stop.{◌>>=◌}
use Rattle.tv_base.specs.Reading.{bytes_at, more_at}

pub short : (n : ℕ) (bytes : List ℕ) → length bytes < n → bytes_at n bytes ≡ Err (UnexpectedEnd, [])
unfolding bytes_at
short n bytes lt =
    let test : ltb (length bytes) n ≡ true = lt-ltb _ _ lt in
    rw test refl

pub long : (n : ℕ) (bytes : List ℕ) → n ≤ length bytes → bytes_at n bytes ≡ Ok (take n bytes, drop n bytes)
unfolding bytes_at
long n bytes le =
    let test : ltb (length bytes) n ≡ false = le-ltb _ _ le in
    rw test refl

-- n bytes and m more
pub split : (prefix : List ℕ) (n m : ℕ) (bytes : List ℕ) → more_at prefix (n + m) bytes ≡ (more_at prefix n bytes >>= λ x. more_at x.0 m x.1)
split prefix n m bytes = elim (cases_lt (length bytes) n) [
  | inl lt ↦ rw (short (n + m) bytes (omega arith), short n bytes lt) refl
  | inr le ↦ elim (cases_lt (length (drop n bytes)) m) [
    | inl lt ↦ rw (short (n + m) bytes (omega (arith, length-drop n bytes)), long n bytes le, short m (drop n bytes) lt) refl
    | inr more ↦ rw (long (n + m) bytes (omega (arith, length-drop n bytes)), long n bytes le, long m (drop n bytes) more) (cc (take-add n m bytes, drop-drop m n bytes, append_assoc prefix (take n bytes) (take m (drop n bytes))))
  ]
]

begins : (read : Result (List ℕ × List ℕ) (Cause × List ℕ)) → read ≡ (read >>= λ x. Ok ([] ++ x.0, x.1))
begins (Ok x) = refl
begins (Err c) = refl

-- nothing is missing
pub none : (prefix : List ℕ) (n : ℕ) → n ≡ 0 → (bytes : List ℕ) → more_at prefix n bytes ≡ Ok (prefix, bytes)
none prefix n zero bytes = rw (zero, long 0 bytes (omega arith)) (ap (λ l. Ok (l, bytes)) (append-nil prefix))

-- a chunk of n of the bytes that are missing
pub chunk : (prefix : List ℕ) (missing n : ℕ) → n ≤ missing → (bytes : List ℕ) → more_at prefix missing bytes ≡ (more_at prefix n bytes >>= λ x. more_at x.0 (missing - n) x.1)
chunk prefix missing n le bytes =
    let k : missing ≡ n + (missing - n) = omega arith in
    ap (λ (m : ℕ). more_at prefix m bytes) k ∙ split prefix n (missing - n) bytes

-- before the first chunk
pub start : (n : ℕ) (bytes : List ℕ) → bytes_at n bytes ≡ more_at [] n bytes
start n bytes = begins (bytes_at n bytes)
