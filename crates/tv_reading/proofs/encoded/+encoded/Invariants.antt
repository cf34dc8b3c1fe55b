use Rattle.std.proofs.Common.{◌+◌, ◌*◌}
use Rattle.tv_format.specs.WriteVersion.{written_version}
use Rattle.tv_reading.specs.Skip.{BeginsItems}
use Rattle.tv_reading.proofs.encoded.+encoded.Given as goal

-- each list takes a level
abbrev pub decreases-behind_value : goal.decreases-behind_value
decreases-behind_value l = 2 * l.levels + 1

abbrev pub decreases-behind_items : goal.decreases-behind_items
decreases-behind_items l = 2 * l.levels

abbrev pub invariant-behind_items-loop-i : goal.invariant-behind_items-loop-i
invariant-behind_items-loop-i l = BeginsItems (written_version l.version) l.kind l._i l.bytes l.rest
