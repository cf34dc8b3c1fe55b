-- What a call says of the source that it reads from and of the sink that it writes to, whatever it reads and
-- writes: each failed read or write is its error, with its kind, no other error is one of a read or a write,
-- and what is known of the source or the sink stays known.
use Rattle.std.specs.Prelude.{Result}
use Rattle.tv_base.specs.Stop.{Counts, Stop}
use Rattle.tv_base.specs.declared.sink.ByteSink.{Ghosts as Sink}
use Rattle.tv_base.specs.declared.source.ByteSource.{Ghosts as Source}

pub record ReportsReads {S E F T : Type 0} (source : Source S) (stop : E → Stop F) (old new : S)
    (result : Result T E) : Type 0 where
  pub failures : Counts stop result (source.failures old) (source.failures new)
  pub is_known : source.is_known old → source.is_known new

pub record ReportsWrites {K E F T : Type 0} (sink : Sink K) (stop : E → Stop F) (old new : K)
    (result : Result T E) : Type 0 where
  pub failures : Counts stop result (sink.failures old) (sink.failures new)
  pub is_known : sink.is_known old → sink.is_known new
