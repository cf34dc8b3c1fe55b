use Rattle.std.proofs.Common.{◌≡◌, ◌++◌, map, drop}
use Rattle.tv_json.specs.Named.{named_json, named_trees}
use Rattle.tv_json.specs.Rising.{rest_of_object}
use Rattle.tv_json.proofs.named.write_lists.Given as goal

abbrev pub invariant-loop-name : goal.invariant-loop-name
invariant-loop-name g l = record {
  tokens : l.json.out.tokens ++ rest_of_object (named_json (map (named_trees g.V.Value.tree) (drop l.name-index l.fn.named)))
      ≡ l.initial.json.out.tokens ++ rest_of_object (named_json (map (named_trees g.V.Value.tree) l.fn.named));
  before : l.json.out.before ≡ l.initial.json.out.before;
}
