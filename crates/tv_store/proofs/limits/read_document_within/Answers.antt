use Rattle.tv_reader.specs.Version.{version_of}
use Rattle.tv_store.proofs.WithinLimits.{reads_within, stops_within}
use Rattle.tv_store.proofs.limits.read_document_within.Goals as goal

pub returns-clause-reads : goal.returns-clause-reads
returns-clause-reads g c =
    let read = c.read_parts in
    reads_within g.S.ByteSource (version_of c.args.version) c.args.limits read.result read.ensures.comes read.ensures.errors read.ensures.failures read.ensures.stays_known

pub returns-clause-stops : goal.returns-clause-stops
returns-clause-stops g c = stops_within g.S.ByteSource (version_of c.args.version) c.args.limits c.read_parts.result c.read_parts.ensures.comes c.read_parts.ensures.parts
