use Rattle.std.proofs.Common.{◌≡◌}
use Rattle.tv_value.specs.PreTokenized.{tokens_left}
use Rattle.tv_value.specs.JsonOf.{tokens_json}
use Rattle.tv_value.proofs.JsonParts.{items_before}
use Rattle.tv_value.proofs.json_value.token_values.Given as goal

abbrev pub invariant-loop-token : goal.invariant-loop-token
invariant-loop-token l = items_before l.values.items (tokens_json (tokens_left l.token-iterator)) ≡ tokens_json (tokens_left l.initial.token-iterator)
