use Rattle.std.proofs.Common.{◌-◌, ◌≤◌, ◌*◌, ◌≡◌, ℕ, take}
use Rattle.simdutf8.specs.Tracks.{HasRead}
use Rattle.tv_value.proofs.utf8.is_utf8_in_blocks.Given as goal

abbrev pub invariant-loop-at : goal.invariant-loop-at
invariant-loop-at l = (l.at ≤ l.whole) × ((blocks : ℕ) × (l.at ≡ 64 * blocks)) × HasRead l.checker (take l.at l.bytes)

abbrev pub decreases-loop-at : goal.decreases-loop-at
decreases-loop-at l = l.whole - l.at
