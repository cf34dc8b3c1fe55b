-- The steps of taking a legacy object byte by byte.
use Rattle.std.proofs.Common.{◌≡◌, ℕ, ◌+◌, ◌<◌, ◌≤◌, cond, true, false, List, [], ◌∷◌, ◌++◌, length, Result, Ok, Err, refl, sym, ap, subst, ◌∙◌, arith, length-append}
use Rattle.std.proofs.lemmas.Bool.{ne_eqb}
use Rattle.std.specs.Prelude.{◌==◌, IfErr}
use Rattle.std.proofs.lemmas.List.Sums.{count_by-le-length}
use Rattle.tv_base.specs.declared.cause.Cause.{Cause}
use Rattle.tv_base.specs.declared.cause.Cause.TheVariants.{LegacyJson, TooLong}
use Rattle.tv_base.specs.declared.cause.ReadError.{ReadError}
use Rattle.tv_base.specs.declared.cause.ReadError.TheVariants.{Corrupted, Io, Memory}
use Rattle.tv_base.specs.Source.{Failures}
use Rattle.tv_base.specs.Stop.{◌>>=◌, Takes}
use Rattle.tv_base.specs.Take.{read_stop, MayStop}
use Rattle.tv_base.proofs.TakeSteps.{SoFar, SoFar-returns, SoFar-refuses, SoFar-stops}
use Rattle.tv_format.specs.Tree.{Tree}
use Rattle.tv_value.specs.Owned.{owned_tree}
use Rattle.tv_value.specs.declared.owned_value.OwnedValue.{OwnedValue}
use Rattle.tv_base.specs.Reading.{u8_at}
use Rattle.tv_reader.specs.Legacy.{BytePlace, outside, inside, escaped, next, opened, closed, behind}
use Rattle.tv_reader.specs.LegacyReading.{is_blank, nonblank_at, is_even, rest_at, braced_at, slice_at, slice_tree, beside, AnswersSlice}
use Rattle.tv_reader.specs.LegacyScan.{brace_count}
use Rattle.tv_reader.proofs.Braces.{opened-push, closed-push, behind-push}

-- a byte that was taken, and what follows it
abbrev pub nonblank_from : ℕ → List ℕ → Result (ℕ × List ℕ) (Cause × List ℕ)
nonblank_from b bytes = cond (is_blank b) (nonblank_at bytes) (Ok (b, bytes))

pub by_byte : (bytes : List ℕ) → nonblank_at bytes ≡ (u8_at bytes >>= λ x. nonblank_from x.0 x.1)
unfolding nonblank_at u8_at
by_byte [] = refl
by_byte (b ∷ bytes) = refl

pub is_skipped : (b : ℕ) → is_blank b ≡ true → (bytes : List ℕ) → nonblank_from b bytes ≡ nonblank_at bytes
is_skipped b e bytes = rw e refl

pub is_nonblank : (b : ℕ) → is_blank b ≡ false → (bytes : List ℕ) → nonblank_from b bytes ≡ Ok (b, bytes)
is_nonblank b e bytes = rw e refl

-- a prefix that was taken, which is closed already or goes on
abbrev pub rest_from : List ℕ → List ℕ → Result (List ℕ × List ℕ) (Cause × List ℕ)
rest_from prefix bytes = cond (is_even prefix) (Ok (prefix, bytes)) (rest_at prefix bytes)

pub rest_by_byte : (prefix bytes : List ℕ) → rest_at prefix bytes ≡ (u8_at bytes >>= λ x. rest_from (prefix ++ x.0 ∷ []) x.1)
unfolding rest_at u8_at
rest_by_byte prefix [] = refl
rest_by_byte prefix (b ∷ bytes) = refl

-- this many braces are open
abbrev pub IsDepth : ℕ → List ℕ → Type 0
IsDepth depth prefix = depth + closed prefix ≡ opened prefix

pub is_open : (prefix : List ℕ) (depth : ℕ) → IsDepth depth prefix → 0 < depth → (bytes : List ℕ) → rest_from prefix bytes ≡ rest_at prefix bytes
is_open prefix depth h positive bytes =
    let e : is_even prefix ≡ false = ne_eqb (closed prefix) (opened prefix) (λ same. omega (arith, h, same)) in
    rw e refl

-- after the first brace
pub first_brace : (prefix : List ℕ) → prefix ≡ 123 ∷ [] → (bytes : List ℕ) → rest_at prefix bytes ≡ rest_from prefix bytes
first_brace prefix e bytes = ap (λ l. rest_at l bytes) e ∙ ap (λ (l : List ℕ). rest_from l bytes) (sym e)

pub first_depth : (prefix : List ℕ) → prefix ≡ 123 ∷ [] → IsDepth 1 prefix
first_depth prefix e = subst (IsDepth 1) (sym e) refl

pub first_place : (prefix : List ℕ) → prefix ≡ 123 ∷ [] → outside ≡ behind prefix
first_place prefix e = ap behind (sym e)

pub next_place : (prefix : List ℕ) (b : ℕ) (old new : BytePlace) → old ≡ behind prefix → new ≡ next old b → new ≡ behind (prefix ++ b ∷ [])
next_place prefix b old new h step = step ∙ ap (λ p. next p b) h ∙ sym (behind-push prefix b)

pub next_depth : (prefix : List ℕ) (b old new : ℕ) → IsDepth old prefix → new + brace_count 125 (behind prefix) b ≡ old + brace_count 123 (behind prefix) b → IsDepth new (prefix ++ b ∷ [])
next_depth prefix b old new h step = omega (arith, h, step, closed-push prefix b, opened-push prefix b)

one_brace : (brace : ℕ) (place : BytePlace) (b : ℕ) → brace_count brace place b ≤ 1
one_brace brace outside b = count_by-le-length (λ c. c == brace) (b ∷ [])
one_brace brace inside b = omega arith
one_brace brace escaped b = omega arith

pub next_bound : (prefix : List ℕ) (b old new : ℕ) (place : BytePlace) → old ≤ length prefix → new + brace_count 125 place b ≡ old + brace_count 123 place b → new ≤ length (prefix ++ b ∷ [])
next_bound prefix b old new place h step = omega (arith, h, step, one_brace 123 place b, length-append prefix (b ∷ []))

-- ---- blanks, and then the slice

pub slice_parts : (bytes : List ℕ) → slice_at bytes ≡ (nonblank_at bytes >>= λ x. braced_at x.0 x.1)
unfolding slice_at
slice_parts bytes = refl

-- another byte than a brace
pub is_other : (b : ℕ) → ¬ (b ≡ 123) → (bytes : List ℕ) → braced_at b bytes ≡ Err (LegacyJson, bytes)
is_other b other bytes =
    let e : (b == 123) ≡ false = ne_eqb b 123 other in
    rw e refl

-- a brace, of which a prefix was made
pub is_brace : (b : ℕ) (prefix : List ℕ) → b ≡ 123 → prefix ≡ 123 ∷ [] → (bytes : List ℕ) → braced_at b bytes ≡ rest_at prefix bytes
is_brace b prefix e made bytes = ap (λ n. braced_at n bytes) e ∙ ap (λ l. rest_at l bytes) (sym made)

same_and_nothing : (r : Result (List ℕ × List ℕ) (Cause × List ℕ)) → r ≡ (r >>= λ x. Ok x)
same_and_nothing (Ok x) = refl
same_and_nothing (Err e) = refl

-- a reading is itself and then nothing
pub and_nothing : (prefix bytes : List ℕ) → rest_at prefix bytes ≡ (rest_at prefix bytes >>= λ x. Ok x)
and_nothing prefix bytes = same_and_nothing (rest_at prefix bytes)

-- ---- the object that the slice reads as

-- what is returned for a slice that was taken
pub answered : {P : Type 0} {is_known : P → Type 0} {left : P → List ℕ} {count : P → ℕ} {failures : P → Failures} {old now : P} {whole : List ℕ → Result (Tree × List ℕ) (Cause × List ℕ)} (slice : List ℕ) (result : Result OwnedValue ReadError)
    → AnswersSlice slice result → ((n : ℕ) → IfErr result (λ e. MayStop e n)) → SoFar is_known left count failures old now whole (λ bytes. beside bytes (slice_tree slice)) → Takes read_stop MayStop is_known left count failures old now owned_tree result whole
answered slice (Ok value) h may so_far = SoFar-returns read_stop owned_tree value (λ bytes. ap (beside bytes) h) so_far
answered slice (Err (Corrupted TooLong)) h may so_far = absurd (omega (arith, may 0))
answered {count = count} {now = now} slice (Err (Corrupted c)) h may so_far = SoFar-refuses read_stop owned_tree (Corrupted c) c refl (may (count now)) (λ bytes. ap (beside bytes) h) so_far
answered slice (Err (Io kind)) h may so_far = absurd h
answered slice (Err Memory) h may so_far = SoFar-stops read_stop owned_tree Memory refl tt so_far
