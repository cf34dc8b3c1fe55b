-- Runs: pairs of a term and a count as bytes, one after the other, the terms rising; and several runs merged.
use Rattle.std.specs.Prelude.{◌≡◌, ◌≢◌, ◌⊎◌, ◌-◌, ◌^◌, ◌<◌, ◌≤◌, min, ℕ, Bool, true, false, List, [], ◌∷◌}
use Rattle.std.specs.Prelude.{◌++◌, length, map, sum_by, All, Any, AllPairs, slice_index_or, Option, Some}
use Rattle.std.specs.Prelude.{None, Result, Ok, Err, if◌then◌else◌, nat_eq}
use Rattle.std.specs.Cmp.Lexicographic.{slice_cmp, pointwise}
use Rattle.std.specs.Ordering.{nat_cmp, is_gt}
use Rattle.std.specs.declared.cmp.Ordering.TheVariants.{Less}
use Rattle.tv_base.specs.Number.{eight_bytes}
use Rattle.tv_base.specs.Reading.{bytes_at, u64_at}
use Rattle.tv_base.specs.Stop.{CountsStop, ◌>>=◌}
use Rattle.tv_base.specs.Take.{read_stop}
use Rattle.tv_base.specs.declared.cause.Cause.{Cause}
use Rattle.tv_base.specs.declared.cause.Cause.TheVariants.{UnexpectedEnd, TooLong}
use Rattle.tv_base.specs.declared.cause.ReadError.{ReadError}
use Rattle.tv_base.specs.declared.cause.ReadError.TheVariants.{Corrupted, Io, Memory}
use Rattle.tv_base.specs.declared.source.ByteSource.{Ghosts}
use Rattle.tv_lines.specs.declared.term_runs.MergeError.{MergeError}
use Rattle.tv_lines.specs.declared.term_runs.MergeError.TheVariants as merging
use Rattle.tv_lines.specs.declared.term_runs.RunReader.{RunReader}

-- ---- the encoding

-- a term's bytes, and a count
abbrev pub Pair : Type 0
Pair = List ℕ × ℕ

-- the length of the term, the term and the count; each number in 8 bytes
abbrev pub pair_bytes : Pair → List ℕ
pair_bytes p = eight_bytes (length p.0) ++ (p.0 ++ eight_bytes p.1)

abbrev pub run_bytes : List Pair → List ℕ
run_bytes [] = []
run_bytes (p ∷ ps) = pair_bytes p ++ run_bytes ps

-- both numbers fit 8 bytes
abbrev pub FitsRun : Pair → Type 0
FitsRun p = (length p.0 < 2 ^ 64) × (p.1 < 2 ^ 64)

-- each term comes before the later ones, byte by byte
abbrev pub IsSortedRun : List Pair → Type 0
IsSortedRun pairs = AllPairs (λ p q. slice_cmp nat_cmp p.0 q.0 ≡ Less) pairs

-- the bytes are those of these pairs
abbrev pub IsRun : List ℕ → List Pair → Type 0
IsRun bytes pairs = All FitsRun pairs × (bytes ≡ run_bytes pairs)

-- ---- the next pair

-- Why no pair can be read: something is left, and it begins with none; more bytes are left than are counted;
-- a read failed; or memory was refused.
abbrev pub RefusesRun : List ℕ → ReadError → Type 0
RefusesRun bytes (Corrupted UnexpectedEnd) = (bytes ≢ [])
    × ((p : Pair) (rest : List ℕ) → FitsRun p → bytes ≢ pair_bytes p ++ rest)
RefusesRun bytes (Corrupted TooLong) = 2 ^ 64 - 1 ≤ length bytes
RefusesRun bytes (Corrupted _) = ⊥
RefusesRun bytes (Io kind) = Unit {0}
RefusesRun bytes Memory = Unit {0}

-- the pair was taken with which the bytes begin, or there are none, or there is a reason why not
abbrev pub TakesPair : List ℕ → List ℕ → Pair → Result Bool ReadError → Type 0
TakesPair bytes left pair (Ok true) = FitsRun pair × (bytes ≡ pair_bytes pair ++ left)
TakesPair bytes left pair (Ok false) = (bytes ≡ []) × (left ≡ [])
TakesPair bytes left pair (Err error) = RefusesRun bytes error

-- ---- several runs

module _ {S : Type 0} where
  -- the pair that was read last
  abbrev pub pair_of : RunReader S → Pair
  pair_of r = (r.term.items, r.count)

  -- What a reader has left: the pair that was read, and those that its source has left. Where none was read,
  -- none is left.
  abbrev pub HasLeft : Ghosts S → RunReader S → List Pair → Type 0
  HasLeft source r [] = (r.has_pair ≡ false) × (source.left r.source ≡ [])
  HasLeft source r (p ∷ ps) = (r.has_pair ≡ true) × (pair_of r ≡ p) × IsRun (source.left r.source) ps

  -- the same of each of several, whose sources are known
  pub record HaveLeft (source : Ghosts S) (readers : List (RunReader S))
      (runs : List (List Pair)) : Type 0 where
    pub as_many : length runs ≡ length readers
    pub known : All (λ r. source.is_known r.source) readers
    pub each : (k : ℕ) (default : RunReader S) → k < length readers
        → HasLeft source (slice_index_or readers k default) (slice_index_or runs k [])

-- whether the pair has this term
abbrev pub is_of : List ℕ → Pair → Bool
is_of term p = pointwise nat_eq p.0 term

-- what is left without a first pair of this term, and the count of that pair
abbrev pub without : List ℕ → List Pair → List Pair
without term [] = []
without term (p ∷ ps) = if is_of term p then ps else p ∷ ps

abbrev pub count_of : List ℕ → List Pair → ℕ
count_of term [] = 0
count_of term (p ∷ ps) = if is_of term p then p.1 else 0

-- a comes before b, or is b
abbrev pub IsAtMost : List ℕ → List ℕ → Type 0
IsAtMost a b = is_gt (slice_cmp nat_cmp a b) ≡ false

-- the run begins with this term; it begins with none that comes before
abbrev pub BeginsWith : List ℕ → List Pair → Type 0
BeginsWith term [] = ⊥
BeginsWith term (p ∷ ps) = p.0 ≡ term

abbrev pub BeginsWithNoneBefore : List ℕ → List Pair → Type 0
BeginsWithNoneBefore term [] = Unit {0}
BeginsWithNoneBefore term (p ∷ ps) = IsAtMost term p.0

-- the least of the terms with which the runs begin
pub record IsLeast (term : List ℕ) (runs : List (List Pair)) : Type 0 where
  pub begins : Any (BeginsWith term) runs
  pub least : All (BeginsWithNoneBefore term) runs

-- each pair that is left comes after the term
abbrev pub IsAfter : List ℕ → List Pair → Type 0
IsAfter term pairs = All (λ p. slice_cmp nat_cmp term p.0 ≡ Less) pairs

-- Where the runs rise, what is left of them without the term rises and comes after it.
abbrev pub RisesOn : List ℕ → List (List Pair) → Type 0
RisesOn term runs = All IsSortedRun runs → All (λ pairs. IsSortedRun pairs × IsAfter term pairs)
    (map (without term) runs)

-- a read failed, memory was refused, or a pair has more bytes than are counted
abbrev pub IsOfReading : ReadError → Type 0
IsOfReading (Io kind) = Unit {0}
IsOfReading Memory = Unit {0}
IsOfReading (Corrupted TooLong) = Unit {0}
IsOfReading (Corrupted _) = ⊥

-- The least term was taken from each run that begins with it, and the sum of its counts: 2^64 - 1 where that
-- is more. Or none was left. Or the run of this number couldn't be read.
abbrev pub MergesNext : {S : Type 0} → Ghosts S → List (RunReader S) → List (List Pair) → Pair
    → Result Bool MergeError → Type 0
MergesNext source readers runs pair (Ok true) = IsLeast pair.0 runs
    × (pair.1 ≡ min (sum_by (count_of pair.0) runs) (2 ^ 64 - 1))
    × HaveLeft source readers (map (without pair.0) runs) × RisesOn pair.0 runs
MergesNext source readers runs pair (Ok false) = All (λ pairs. pairs ≡ []) runs × HaveLeft source readers runs
MergesNext source readers runs pair (Err (merging.Read run error)) = (run < length runs) × IsOfReading error
MergesNext source readers runs pair (Err merging.Memory) = Unit {0}

-- no source failed
abbrev pub NoneFails : {S : Type 0} → Ghosts S → List (RunReader S) → List (RunReader S) → Type 0
NoneFails {S} source old new = (k : ℕ) (default : RunReader S) → k < length old
    → source.failures (slice_index_or new k default).source
    ≡ source.failures (slice_index_or old k default).source

-- the source of this reader failed as the error says, and no other
pub record FailsAt {S : Type 0} (source : Ghosts S) (old new : List (RunReader S)) (run : ℕ)
    (error : ReadError) : Type 0 where
  pub within : run < length old
  pub there : (default : RunReader S) → CountsStop (read_stop error)
      (source.failures (slice_index_or old run default).source)
      (source.failures (slice_index_or new run default).source)
  pub others : (k : ℕ) (default : RunReader S) → k < length old → k ≢ run
      → source.failures (slice_index_or new k default).source
      ≡ source.failures (slice_index_or old k default).source

abbrev pub CountsMerge : {S T : Type 0} → Ghosts S → List (RunReader S) → List (RunReader S)
    → Result T MergeError → Type 0
CountsMerge source old new (Ok x) = NoneFails source old new
CountsMerge source old new (Err (merging.Read run error)) = FailsAt source old new run error
CountsMerge source old new (Err merging.Memory) = NoneFails source old new

-- ---- for private clauses

-- what is read of the bytes of a pair
unfoldable pub pair_at : List ℕ → Result (Pair × List ℕ) (Cause × List ℕ)
pair_at bytes = u64_at bytes >>= λ len. bytes_at len.0 len.1 >>= λ term. u64_at term.1 >>= λ count.
    Ok ((term.0, count.0), count.1)

-- the least of the terms that were read and not yet taken
abbrev pub IsLeastRead : {S : Type 0} → List (RunReader S) → Option (List ℕ) → Type 0
IsLeastRead readers None = All (λ r. r.has_pair ≡ false) readers
IsLeastRead readers (Some term) = Any (λ r. (r.has_pair ≡ true) × (r.term.items ≡ term)) readers
    × All (λ r. r.has_pair ≡ true → IsAtMost term r.term.items) readers

-- the term was taken from each run that begins with it, with the sum of its counts
abbrev pub TakesFromEach : {S : Type 0} → Ghosts S → List ℕ → List (RunReader S) → List (List Pair)
    → Result ℕ MergeError → Type 0
TakesFromEach source term readers runs (Ok total) =
    (total ≡ min (sum_by (count_of term) runs) (2 ^ 64 - 1))
    × HaveLeft source readers (map (without term) runs)
TakesFromEach source term readers runs (Err (merging.Read run error)) =
    (run < length runs) × IsOfReading error
TakesFromEach source term readers runs (Err merging.Memory) = ⊥

-- the same of one run
abbrev pub TakesFrom : {S : Type 0} → Ghosts S → List ℕ → RunReader S → List Pair → Result ℕ ReadError
    → Type 0
TakesFrom source term reader pairs (Ok count) = (count ≡ count_of term pairs)
    × HasLeft source reader (without term pairs)
TakesFrom source term reader pairs (Err error) = IsOfReading error

-- which term is the lesser of this one and another, if there is another
abbrev pub IsLesser : Option (List ℕ) → List ℕ → List ℕ → Type 0
IsLesser None term now = now ≡ term
IsLesser (Some other) term now = ((now ≡ other) ⊎ (now ≡ term)) × IsAtMost now other
