use Rattle.std.proofs.Common.{◌≡◌, ◌++◌, take}
use Rattle.std.specs.List.{flat_map}
use Rattle.tv_blocks.specs.Query.{range_record}
use Rattle.tv_blocks.proofs.query.append_ranges.Given as goal

abbrev pub invariant-loop-range : goal.invariant-loop-range
invariant-loop-range l = l.content.items ≡ l.initial.content.items ++ flat_map range_record (take l.range-index l.ranges)
