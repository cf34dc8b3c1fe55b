use Rattle.std.proofs.Common.{length}
use Rattle.tv_builder.proofs.Handing.{GivesSoFar}
use Rattle.tv_builder.proofs.building.Building.give.Given as goal

abbrev pub invariant-loop-frame : goal.invariant-loop-frame
invariant-loop-frame l = GivesSoFar l.fn.self l.fn.place l.self.heap.items l.self.places.items l.self.frames.items l.self.pending l.self.complete l.self.open l.finished

abbrev pub decreases-loop-frame : goal.decreases-loop-frame
decreases-loop-frame l = length l.self.frames.items
