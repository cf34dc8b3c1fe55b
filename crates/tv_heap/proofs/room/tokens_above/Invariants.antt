use Rattle.std.proofs.Common.{◌≡◌, ◌+◌, ◌<◌, ◌^◌}
use Rattle.std.specs.List.{sum_by}
use Rattle.tv_value.specs.PreTokenized.{tokens_left}
use Rattle.tv_heap.specs.Room.{token_room}
use Rattle.tv_heap.proofs.room.tokens_above.Given as goal

-- with the room of the tokens that are left
abbrev pub invariant-loop-token : goal.invariant-loop-token
invariant-loop-token l = record {
  fits : l.total < 2 ^ 32;
  sum : l.total + sum_by token_room (tokens_left l.token-iterator) ≡ l.fn.base + sum_by token_room (tokens_left l.fn.tokens);
}
