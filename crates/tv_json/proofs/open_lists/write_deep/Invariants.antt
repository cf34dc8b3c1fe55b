use Rattle.std.proofs.Common.{◌≡◌, ◌++◌, length}
use Rattle.tv_value.specs.JsonOf.{json_of}
use Rattle.tv_json.specs.Open.{list_left, open_left}
use Rattle.tv_json.specs.Rising.{data_tokens}
use Rattle.tv_json.proofs.open_lists.write_deep.Given as goal

abbrev pub invariant-loop-list : goal.invariant-loop-list
invariant-loop-list g l = record {
  tokens : l.json.out.tokens ++ open_left (list_left g.N.Nested.tree g.N.Nested.array_rest g.N.Nested.object_rest) l.lists.items ≡ l.fn.json.out.tokens ++ data_tokens (json_of (g.N.Nested.tree l.value));
  before : l.json.out.before ≡ l.fn.json.out.before;
}

abbrev pub decreases-loop-list : goal.decreases-loop-list
decreases-loop-list g l = length (open_left (list_left g.N.Nested.tree g.N.Nested.array_rest g.N.Nested.object_rest) l.lists.items)
