-- The promise of writing: what a call returns, and what the sink holds then.
--
-- A call that makes this promise does the following.
--   appends      Where it succeeds, the sink holds all that was to be written after what it held. After an
--                error it holds a beginning of that; where a value is refused, just what is written before
--                the refusal.
--   stays_known  What is known of the sink stays known.
--   counts       It says that the sink failed exactly where the sink did, with the kind that the sink
--                returned.
use Rattle.std.specs.Prelude.{ℕ, List, Result, Ok}
use Rattle.tv_base.specs.declared.sink.ByteSink.{Ghosts}
use Rattle.tv_base.specs.declared.cause.WriteError.{WriteError}
use Rattle.tv_base.specs.Sink.{WritesBy}
use Rattle.tv_base.specs.Stop.{Stop}
use Rattle.tv_base.specs.Stop.Stop.{Failed}

-- a writer that refuses nothing
abbrev pub io_stop : WriteError → Stop ⊥
io_stop error = Failed error.0

-- this text is written
abbrev pub Writes : {S T : Type 0} (sink : Ghosts S) (old new : S) (result : Result T WriteError)
    (text : List ℕ) → Type 0
Writes sink old new result text = WritesBy io_stop sink.is_known sink.held sink.failures old new result
    (Ok text)
