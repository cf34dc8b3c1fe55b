use Rattle.std.proofs.Common.{◌≡◌}
use Rattle.serde_json.specs.Data.{no_members}
use Rattle.tv_format.specs.Tree.{entries}
use Rattle.tv_value.specs.JsonOf.{entries_json}
use Rattle.tv_json.specs.Rising.{listed_json, pair_entries}
use Rattle.tv_json.proofs.member_order.by_key.Given as goal

abbrev pub invariant-loop-key : goal.invariant-loop-key
invariant-loop-key g l =
    entries_json (entries (g.N.Nested.object_rest l.key-iterator)) (listed_json (pair_entries g.N.Nested.tree l.found.entries)) ≡ entries_json (entries (g.N.Nested.object_rest l.fn.members)) no_members
