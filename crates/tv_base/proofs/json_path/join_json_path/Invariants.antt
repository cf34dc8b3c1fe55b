use Rattle.std.proofs.Common.{◌≡◌, map, string_bytes}
use Rattle.tv_base.specs.JsonPath.{expanded}
use Rattle.tv_base.proofs.JsonPaths.{joined_with}
use Rattle.tv_base.proofs.json_path.join_json_path.Given as goal

abbrev pub invariant-loop-segment : goal.invariant-loop-segment
invariant-loop-segment l = string_bytes l.text ≡ joined_with (string_bytes l.initial.text) (λ segment. map (expanded l.expand_dots) (string_bytes segment)) l.others l.segment-index
