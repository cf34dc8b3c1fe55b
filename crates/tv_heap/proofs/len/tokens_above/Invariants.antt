use Rattle.std.proofs.Common.{◌≡◌, ◌+◌, ◌<◌, ◌^◌, length}
use Rattle.std.specs.List.{flat_map}
use Rattle.tv_value.specs.PreTokenized.{tokens_left}
use Rattle.tv_format.specs.Short.{short_token}
use Rattle.tv_heap.proofs.len.tokens_above.Given as goal

-- with the encodings of the tokens that are left
abbrev pub invariant-loop-token : goal.invariant-loop-token
invariant-loop-token l = record {
  fits : l.total < 2 ^ 32;
  sum : l.total + length (flat_map short_token (tokens_left l.token-iterator)) ≡ l.fn.base + length (flat_map short_token (tokens_left l.fn.tokens));
}
