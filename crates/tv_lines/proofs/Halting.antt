-- How a run over lines ends.
use Rattle.std.proofs.Common.{◌≡◌, ℕ, ◌-◌, ◌^◌, List, arith}
use Rattle.tv_base.specs.Stop.{Taken}
use Rattle.tv_base.specs.ReadsAs.{TakesMost}
use Rattle.tv_base.specs.Source.{Failures}
use Rattle.tv_lines.specs.Run.{HasReason, IsWhole}
use Rattle.tv_lines.specs.declared.runs.RunEnd.{RunEnd}
use Rattle.tv_lines.specs.declared.runs.RunEnd.TheVariants.{Done, BadSchema, Broken}

-- in a whole run no read and no write failed
pub has_reason : {read new_read written new_written : Failures} (is_known : Type 0) (left new_left : List ℕ) (end : RunEnd) → IsWhole end → new_read ≡ read → new_written ≡ written
    → HasReason end read new_read written new_written is_known left new_left
has_reason is_known left new_left Done whole reads writes = (reads, writes)
has_reason is_known left new_left BadSchema whole reads writes = (reads, writes)
has_reason is_known left new_left Broken whole reads writes = absurd whole

-- all bytes that are counted were taken
pub most_taken : (a b : List ℕ) (m n : ℕ) → Taken a b m n → m ≡ 0 → n ≡ 2 ^ 64 - 1 → TakesMost a b
most_taken a b m n t start full = (t.prefix, t.joined, omega (arith, t.counted, start, full))
