use Rattle.std.proofs.Common.{◌≡◌, ◌++◌, ◌+◌, ◌*◌}
use Rattle.tv_format.specs.Tree.{elements}
use Rattle.tv_value.specs.JsonOf.{elements_json}
use Rattle.tv_json.specs.Rising.{rest_of_array, rest_of_object, listed_json, pair_entries}
use Rattle.tv_json.proofs.compact.+write_value.Given as goal

-- each list is written for one level less than its children leave
abbrev pub decreases-write_value : goal.decreases-write_value
decreases-write_value g l = 2 * l.levels + 1

abbrev pub decreases-write_array : goal.decreases-write_array
decreases-write_array g l = 2 * l.levels + 2

abbrev pub decreases-write_members : goal.decreases-write_members
decreases-write_members g l = 2 * l.levels + 2

abbrev pub decreases-write_by_key : goal.decreases-write_by_key
decreases-write_by_key g l = 2 * l.levels + 2

abbrev pub invariant-write_array-loop-item : goal.invariant-write_array-loop-item
invariant-write_array-loop-item g l = record {
  tokens : l.json.out.tokens ++ rest_of_array (elements_json (elements (g.N.Nested.array_rest l.item-iterator))) ≡ l.initial.json.out.tokens ++ rest_of_array (elements_json (elements (g.N.Nested.array_rest l.fn.items)));
  before : l.json.out.before ≡ l.initial.json.out.before;
}

abbrev pub invariant-write_members-loop-key : goal.invariant-write_members-loop-key
invariant-write_members-loop-key g l = record {
  tokens : l.json.out.tokens ++ rest_of_object (listed_json (g.N.Nested.object_rest l.key-iterator)) ≡ l.initial.json.out.tokens ++ rest_of_object (listed_json (g.N.Nested.object_rest l.fn.members));
  before : l.json.out.before ≡ l.initial.json.out.before;
}

abbrev pub invariant-write_by_key-loop-key : goal.invariant-write_by_key-loop-key
invariant-write_by_key-loop-key g l = record {
  tokens : l.json.out.tokens ++ rest_of_object (listed_json (pair_entries g.N.Nested.tree l.key-iterator)) ≡ l.initial.json.out.tokens ++ rest_of_object (listed_json (pair_entries g.N.Nested.tree l.initial.key-iterator));
  before : l.json.out.before ≡ l.initial.json.out.before;
}
