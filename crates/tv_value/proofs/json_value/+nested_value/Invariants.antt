use Rattle.std.proofs.Common.{◌≡◌, ◌≤◌}
use Rattle.serde_json.specs.Data.{no_members}
use Rattle.serde_json.specs.View.{members_view}
use Rattle.tv_format.specs.Size.{size, elements_size, entries_size}
use Rattle.tv_format.specs.Tree.{elements, entries}
use Rattle.tv_value.specs.JsonOf.{elements_json, entries_json}
use Rattle.tv_value.proofs.JsonParts.{items_before}
use Rattle.tv_value.proofs.json_value.+nested_value.Given as goal

abbrev pub decreases-nested_value : goal.decreases-nested_value
decreases-nested_value g l = size (g.N.Nested.tree l.value.now)

abbrev pub decreases-item_values : goal.decreases-item_values
decreases-item_values g l = elements_size (elements (g.N.Nested.array_rest l.items))

abbrev pub decreases-member_values : goal.decreases-member_values
decreases-member_values g l = entries_size (entries (g.N.Nested.object_rest l.members))

abbrev pub invariant-item_values-loop-item : goal.invariant-item_values-loop-item
invariant-item_values-loop-item g l =
    let rest = elements (g.N.Nested.array_rest l.item-iterator) in
    let all = elements (g.N.Nested.array_rest l.fn.items) in
    record {
      items : items_before l.values.items (elements_json rest) ≡ elements_json all;
      left : elements_size rest ≤ elements_size all;
    }

abbrev pub invariant-member_values-loop-key : goal.invariant-member_values-loop-key
invariant-member_values-loop-key g l =
    let rest = entries (g.N.Nested.object_rest l.key-iterator) in
    let all = entries (g.N.Nested.object_rest l.fn.members) in
    record {
      members : entries_json rest (members_view l.values.entries) ≡ entries_json all no_members;
      left : entries_size rest ≤ entries_size all;
    }
