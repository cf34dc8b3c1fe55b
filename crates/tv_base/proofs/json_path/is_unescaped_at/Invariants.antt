use Rattle.std.proofs.Common.{◌≡◌, ◌+◌, ◌≤◌}
use Rattle.tv_base.specs.Escapes.{run_before}
use Rattle.tv_base.proofs.json_path.is_unescaped_at.Given as goal

abbrev pub invariant-loop-start : goal.invariant-loop-start
invariant-loop-start l =
    (l.start ≤ l.place) × (run_before l.bytes l.place + l.start ≡ run_before l.bytes l.start + l.place)

abbrev pub decreases-loop-start : goal.decreases-loop-start
decreases-loop-start l = l.start
