use Rattle.std.proofs.Common.{◌≡◌, ◌+◌, ◌≤◌, false, length}
use Rattle.tv_blocks.specs.FieldValues.{ValuesSoFar}
use Rattle.tv_reader.specs.Version.{version_of}
use Rattle.tv_blocks.proofs.field_values.append_block.Given as goal

abbrev pub invariant-loop-reader : goal.invariant-loop-reader
invariant-loop-reader l = record {
  not_failed : l.reader.failed ≡ false;
  version : l.reader.version ≡ l.fn.version;
  few : l.number + length l.source.rest.now ≤ length l.block;
  placed : l.reader.start + length l.source.rest.now ≡ length l.block;
  so_far : ValuesSoFar (version_of l.fn.version) l.field.id l.block l.source.rest.now l.values.items l.number;
}

abbrev pub decreases-loop-reader : goal.decreases-loop-reader
decreases-loop-reader l = length l.source.rest.now
