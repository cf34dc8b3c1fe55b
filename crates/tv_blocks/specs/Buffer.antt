-- What a call that writes into a buffer of the caller's returns, and leaves there.
use Rattle.std.specs.Prelude.{◌≡◌, ℕ, ◌<◌, ◌≤◌, List, ◌++◌, length, drop, Result, Ok, Err}
use Rattle.tv_blocks.specs.declared.block_error.BlockError.{BlockError}
use Rattle.tv_blocks.specs.declared.block_error.BlockError.TheVariants as errors

-- Such content was written at the buffer's beginning, and the rest of the buffer is as it was.
pub record Written (Holds : List ℕ → Type 0) (old new : List ℕ) (size : ℕ) : Type 0 where
  pub content : List ℕ
  pub is : Holds content
  pub measured : size ≡ length content
  pub fits : size ≤ length old
  pub put : new ≡ content ++ drop size old

-- Such content is to be written, and is longer than the buffer.
pub record LacksSpace (Holds : List ℕ → Type 0) (old : List ℕ) (size : ℕ) : Type 0 where
  pub content : List ℕ
  pub is : Holds content
  pub measured : size ≡ length content
  pub larger : length old < size

-- Content of which P holds is written, or its size is returned; or nothing is written for a reason of which R
-- holds, or because memory was refused.
abbrev pub FillsBuffer : (List ℕ → Type 0) → (BlockError → Type 0) → List ℕ → List ℕ → Result ℕ BlockError
    → Type 0
FillsBuffer P R old new (Ok size) = Written P old new size
FillsBuffer P R old new (Err (errors.TooSmall size lines)) = LacksSpace P old size × (lines ≡ 0) × (new ≡ old)
FillsBuffer P R old new (Err errors.Memory) = new ≡ old
FillsBuffer P R old new (Err error) = R error × (new ≡ old)
