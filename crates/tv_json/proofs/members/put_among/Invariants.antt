use Rattle.std.proofs.Common.{◌≡◌, ◌-◌, ◌≤◌, length, drop}
use Rattle.tv_json.proofs.Rising.{IsBelow, Passed}
use Rattle.tv_json.proofs.members.put_among.Given as goal

-- the key belongs between the two places
abbrev pub invariant-halves : goal.invariant-halves
invariant-halves l = record {
  passed : Passed l.key l.value l.members.items l.low;
  below : IsBelow l.key (drop l.high l.members.items);
  ordered : l.low ≤ l.high;
  within : l.high ≤ length l.members.items;
  same : l.members.items ≡ l.fn.members.items;
}

abbrev pub decreases-halves : goal.decreases-halves
decreases-halves l = l.high - l.low
