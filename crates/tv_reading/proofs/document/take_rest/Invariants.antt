use Rattle.std.proofs.Common.{◌+◌, ◌≤◌, Ok}
use Rattle.tv_reader.specs.Finds.{Finds, Nothing}
use Rattle.tv_reader.specs.Version.{version_of}
use Rattle.tv_reading.specs.Prefix.{IsSound}
use Rattle.tv_reading.proofs.WholeDocuments.{Goes}
use Rattle.tv_reading.proofs.document.take_rest.Given as goal

-- what was taken encodes what has come since, and each part took a byte
abbrev pub invariant-loop : goal.invariant-loop
invariant-loop g l =
    let source = g.S.ByteSource in
    IsSound l.reading × Finds source l.initial.source l.initial.count l.source l.count (Ok l.reading) (Goes (version_of l.version) l.initial.reading) Nothing
    × (source.is_known l.initial.source → l.counter + l.initial.count ≤ l.count)
