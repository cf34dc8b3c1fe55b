use Rattle.std.proofs.Common.{◌≡◌, ◌+◌, ◌≤◌, Ok, false}
use Rattle.tv_reader.specs.Finds.{Finds, Nothing}
use Rattle.tv_reader.specs.Version.{version_of}
use Rattle.tv_reading.specs.Prefix.{IsDone}
use Rattle.tv_reading.proofs.WholeDocuments.{Goes}
use Rattle.tv_store.proofs.TestedParts.{Came, Passes}
use Rattle.tv_store.proofs.limits.take_within.Given as goal

-- what was taken encodes what has come since and came within the limits, and each part took a byte
abbrev pub invariant-loop : goal.invariant-loop
invariant-loop g l =
    let source = g.S.ByteSource in
    record {
      not_failed : l.decoder.failed ≡ false;
      more : ¬ IsDone l.decoder.reading;
      version : l.decoder.version ≡ l.initial.decoder.version;
      finds : Finds source l.initial.source l.initial.decoder.count l.source l.decoder.count (Ok l.decoder.reading) (Goes (version_of l.initial.decoder.version) l.initial.decoder.reading) Nothing;
      passes : Passes l.limits l.decoder.reading;
      came : source.is_known l.initial.source → Came (version_of l.initial.decoder.version) l.limits l.decoder.reading (source.left l.initial.source) (source.left l.source);
      counted : source.is_known l.initial.source → l.counter + l.initial.decoder.count ≤ l.decoder.count;
    }
