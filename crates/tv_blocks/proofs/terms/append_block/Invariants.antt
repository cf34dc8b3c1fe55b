use Rattle.std.proofs.Common.{◌≡◌, ◌+◌, ◌≤◌, false, length}
use Rattle.tv_blocks.specs.Terms.{TermsSoFar}
use Rattle.tv_reader.specs.Version.{version_of}
use Rattle.tv_blocks.proofs.terms.append_block.Given as goal

abbrev pub invariant-loop-writer : goal.invariant-loop-writer
invariant-loop-writer l = record {
  not_failed : l.reader.failed ≡ false;
  version : l.reader.version ≡ l.fn.version;
  few : l.number + length l.source.rest.now ≤ length l.block;
  placed : l.reader.start + length l.source.rest.now ≡ length l.block;
  so_far : TermsSoFar (version_of l.fn.version) l.field.id l.block l.source.rest.now l.terms.items l.number;
}

abbrev pub decreases-loop-writer : goal.decreases-loop-writer
decreases-loop-writer l = length l.source.rest.now
