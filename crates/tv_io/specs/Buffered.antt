-- What is taken of the bytes that a reader of std has buffered.
use Rattle.std.specs.Prelude.{◌≡◌, ℕ, List, ◌++◌}
use Rattle.std.specs.Io.Buffered.{reader_buffer, reader_capacity, reader_inner}
use Rattle.std.specs.declared.io.buffered.BufReader.{BufReader}

-- These bytes were taken off the start of those that are buffered. The reader after the buffer wasn't called,
-- and the buffer's size stays.
pub record TakesBuffered {R A : Type 0} (old new : BufReader R A) (taken : List ℕ) : Type 0 where
  pub joined : reader_buffer old ≡ taken ++ reader_buffer new
  pub uncalled : reader_inner new ≡ reader_inner old
  pub same_size : reader_capacity new ≡ reader_capacity old
