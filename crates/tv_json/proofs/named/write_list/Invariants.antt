use Rattle.std.proofs.Common.{◌≡◌, ◌++◌, map, drop}
use Rattle.tv_format.specs.Tree.{elements}
use Rattle.tv_value.specs.JsonOf.{elements_json}
use Rattle.tv_json.specs.Rising.{rest_of_array}
use Rattle.tv_json.proofs.named.write_list.Given as goal

abbrev pub invariant-loop-value : goal.invariant-loop-value
invariant-loop-value g l = record {
  tokens : l.json.out.tokens ++ rest_of_array (elements_json (elements (map (λ pair. g.V.Value.tree pair.1) (drop l.value-index l.fn.pairs))))
      ≡ l.initial.json.out.tokens ++ rest_of_array (elements_json (elements (map (λ pair. g.V.Value.tree pair.1) l.fn.pairs)));
  before : l.json.out.before ≡ l.initial.json.out.before;
}
