use Rattle.std.proofs.Common.{◌≡◌, ◌+◌, ◌≤◌, false, length}
use Rattle.tv_blocks.specs.SchemaTerms.{SchemaTermsSoFar}
use Rattle.tv_reader.specs.Version.{version_of}
use Rattle.tv_blocks.proofs.schema_terms.block_records.Given as goal

abbrev pub invariant-loop-reader : goal.invariant-loop-reader
invariant-loop-reader l = record {
  not_failed : l.reader.failed ≡ false;
  version : l.reader.version ≡ l.fn.version;
  few : l.records.document + length l.source.rest.now ≤ length l.block;
  placed : l.reader.start + length l.source.rest.now ≡ length l.block;
  so_far : SchemaTermsSoFar l.with_faults l.schema (version_of l.fn.version) l.block l.source.rest.now l.records.content.items l.records.document;
}

abbrev pub decreases-loop-reader : goal.decreases-loop-reader
decreases-loop-reader l = length l.source.rest.now
