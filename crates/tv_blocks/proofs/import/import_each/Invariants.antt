use Rattle.std.proofs.Common.{◌≡◌}
use Rattle.tv_blocks.specs.Imports.{lenient}
use Rattle.tv_blocks.proofs.Importing.{ImportedSoFar}
use Rattle.tv_lines.specs.Importing.{left_to, most_to}
use Rattle.tv_blocks.proofs.import.import_each.Given as goal

abbrev pub invariant-loop-outcome : goal.invariant-loop-outcome
invariant-loop-outcome l = record {
  rules : l.importer.rules ≡ lenient;
  so_far : ImportedSoFar l.schema l.lines (left_to l.importer l.source.rest.now) l.block.bytes.items l.answers.items;
}

abbrev pub decreases-loop-outcome : goal.decreases-loop-outcome
decreases-loop-outcome l = most_to l.importer
