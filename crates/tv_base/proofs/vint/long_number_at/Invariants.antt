use Rattle.std.proofs.Common.{◌≡◌, ◌-◌, ◌^◌, ◌<◌, ◌≤◌, drop, length}
use Rattle.tv_base.specs.Reading.{groups_at}
use Rattle.tv_base.proofs.TakenGroups.{with_low}
use Rattle.tv_base.proofs.vint.long_number_at.Given as goal

abbrev pub invariant-loop-i : goal.invariant-loop-i
invariant-loop-i l = record {
  small : l.value < l.weight;
  weight : l.weight ≡ 128 ^ l.i;
  within : l.i ≤ length l.bytes;
  nine : l.i ≤ 9;
  read : groups_at 9 l.bytes ≡ with_low l.value l.weight (groups_at (9 - l.i) (drop l.i l.bytes));
}
