use Rattle.std.proofs.Common.{[], length}
use Rattle.tv_format.specs.Version.{Version}
use Rattle.tv_reading.specs.Skip.{Passed, open_items}
use Rattle.tv_reading.proofs.items.next_item.Given as goal

-- none of the lists that ended has an item left
abbrev pub invariant-loop-items : goal.invariant-loop-items
invariant-loop-items l = (v : Version) → Passed v (open_items l.initial.items l.initial.outer) (open_items l.items l.outer) []

abbrev pub decreases-loop-items : goal.decreases-loop-items
decreases-loop-items l = length l.outer.items
