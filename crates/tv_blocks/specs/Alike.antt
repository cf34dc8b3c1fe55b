-- What two calls with the same arguments answer.
--
-- The words of the laws:
-- `HasOneAnswer`: both answer the same content or value, or both the same error.
-- `AnswersAlike`: the same, where two contents are the same in what counts.
-- `BoundSame`: the contents are of ranges that have the same terms.
use Rattle.std.specs.Prelude.{◌≡◌, List, ℕ}
use Rattle.std.specs.List.{flat_map}
use Rattle.tv_blocks.specs.Query.{range_record}
use Rattle.tv_blocks.specs.declared.block_error.BlockError.{BlockError}
use Rattle.tv_blocks.specs.declared.block_error.BlockError.TheVariants as errors
use Rattle.tv_blocks.specs.declared.block_error.DocumentRefusal.TheVariants as documents
use Rattle.tv_indexing.specs.Agree.{FindSame}
use Rattle.tv_term.specs.declared.range.TermRange.{TermRange}

-- the arguments decide the error: memory wasn't refused, and no document lacks room
abbrev pub IsDecided : BlockError → Type 0
IsDecided errors.Memory = ⊥
IsDecided (errors.BadDocument start documents.HeapFull) = ⊥
IsDecided error = Unit {0}

-- A call answers what `Holds`, or an error that `Refuses`. Two answers that hold are the same. Two errors
-- that the arguments decide are equal. And where there is such an error, no answer holds.
pub record AnswersAlike {Answer : Type 0} (Same : Answer → Answer → Type 0) (Holds : Answer → Type 0)
    (Refuses : BlockError → Type 0) : Type 0 where
  pub answer : (one other : Answer) → Holds one → Holds other → Same one other
  pub error : (one other : BlockError) → IsDecided one → IsDecided other → Refuses one → Refuses other
      → one ≡ other
  pub apart : (one : Answer) (error : BlockError) → IsDecided error → Holds one → ¬ Refuses error

abbrev pub HasOneAnswer : {Answer : Type 0} → (Answer → Type 0) → (BlockError → Type 0) → Type 0
HasOneAnswer Holds Refuses = AnswersAlike (λ one other. one ≡ other) Holds Refuses

-- both contents are the records of ranges, which have the same terms
abbrev pub BoundSame : List ℕ → List ℕ → Type 0
BoundSame content other = (ranges : List TermRange) × (others : List TermRange)
    × (content ≡ flat_map range_record ranges) × (other ≡ flat_map range_record others)
    × FindSame ranges others
