use Rattle.std.proofs.Common.{◌≡◌, take}
use Rattle.tv_json.proofs.member_order.compare.Given as goal

-- the bytes that were passed are the same
abbrev pub invariant-loop-at : goal.invariant-loop-at
invariant-loop-at l = take l.at l.ones ≡ take l.at l.twos
