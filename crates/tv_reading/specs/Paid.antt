-- What is paid for by the bytes that were read.
use Rattle.std.specs.Prelude.{ℕ, ◌*◌, ◌≤◌, length}
use Rattle.tv_builder.specs.State.{lists_of, children_of}
use Rattle.tv_builder.specs.declared.pair_builder.PairBuilder.{PairBuilder}
use Rattle.tv_builder.specs.Builder.{state_of, heap_so_far}

-- The heap takes at most 7 bytes for each that was read, an open list two of these at least, and a finished
-- child of one a byte.
pub record PaidBy (builder : PairBuilder) (bytes_read : ℕ) : Type 0 where
  pub heap : length (heap_so_far builder) ≤ 7 * bytes_read
  pub lists : 2 * length (lists_of (state_of builder)) ≤ bytes_read
  pub children : children_of (lists_of (state_of builder)) ≤ bytes_read
