use Rattle.std.proofs.Common.{ℕ, ◌<◌, take}
use Rattle.tv_json.specs.Faults.{start, Leads}
use Rattle.tv_json.specs.LargeNumber.{IsLargeNumber}
use Rattle.tv_json.proofs.large_number.large_number.Given as goal

abbrev pub invariant-loop-offset : goal.invariant-loop-offset
invariant-loop-offset l = record {
  passed : Leads start (take l.offset l.bytes) l.scan;
  none : (k : ℕ) → k < l.offset → ¬ (IsLargeNumber l.bytes k);
}
