use Rattle.std.proofs.Common.{◌∷◌, [], ◌-◌, ◌^◌, Ok}
use Rattle.tv_reader.specs.Finds.{FindsRoomy, Nothing}
use Rattle.tv_reader.specs.Version.{version_of}
use Rattle.tv_reading.specs.Skip.{Passed, open_items}
use Rattle.tv_reading.proofs.items.skip_items.Given as goal

-- what was taken and what is left are all that was left
abbrev pub invariant-lists : goal.invariant-lists
invariant-lists g l =
    let source = g.S.ByteSource in
    record {
      finds : FindsRoomy source l.fn.source l.fn.count l.source l.count (Ok (tt {0})) (λ b _. Passed (version_of l.version) (l.fn.first ∷ []) (open_items l.items l.outer) b) Nothing;
    }

abbrev pub decreases-lists : goal.decreases-lists
decreases-lists g l = 2 ^ 64 - l.count
