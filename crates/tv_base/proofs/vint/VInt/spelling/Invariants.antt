use Rattle.std.proofs.Common.{◌≡◌, ◌≤◌, ◌++◌, ◌-◌, ◌*◌, ◌^◌, take, length}
use Rattle.tv_base.specs.Number.{groups_of, vnum}
use Rattle.tv_base.proofs.vint.VInt.spelling.Given as goal

abbrev pub invariant-loop-i : goal.invariant-loop-i
invariant-loop-i l = record {
  so_far : take l.i l.bytes ++ groups_of (10 - l.i) l.rest ≡ vnum l.fn.self.0;
  room : length l.bytes ≡ 10;
  small : l.rest * 128 ^ l.i ≤ l.fn.self.0;
}
