use Rattle.std.proofs.Common.{◌≡◌, ◌++◌}
use Rattle.tv_value.specs.PreTokenized.{tokens_left}
use Rattle.tv_value.specs.JsonOf.{tokens_json}
use Rattle.tv_json.specs.Rising.{rest_of_array}
use Rattle.tv_json.proofs.write.write_tokens.Given as goal

abbrev pub invariant-loop-token : goal.invariant-loop-token
invariant-loop-token l = record {
  tokens : l.out.tokens ++ rest_of_array (tokens_json (tokens_left l.token-iterator)) ≡ l.initial.out.tokens ++ rest_of_array (tokens_json (tokens_left l.initial.token-iterator));
  before : l.out.before ≡ l.initial.out.before;
}
