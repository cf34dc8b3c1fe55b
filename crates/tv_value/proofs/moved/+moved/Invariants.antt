use Rattle.std.proofs.Common.{◌≡◌}
use Rattle.std.specs.Vec.Iter.{into_iter_items}
use Rattle.serde_json.specs.View.{items_view, members_view}
use Rattle.tv_value.specs.JsonTree.{whole_elements, whole_entries}
use Rattle.tv_value.proofs.MovedJson.{elements_before, entries_before}
use Rattle.tv_value.proofs.moved.+moved.Given as goal

abbrev pub invariant-moved_items-loop-item : goal.invariant-moved_items-loop-item
invariant-moved_items-loop-item l =
    whole_elements (items_view l.fn.items.items) ≡ elements_before l.made.items (whole_elements (items_view (into_iter_items l.item-iterator)))

abbrev pub invariant-moved_members-loop-key : goal.invariant-moved_members-loop-key
invariant-moved_members-loop-key l =
    whole_entries (members_view l.fn.members.entries) ≡ entries_before l.made.items (whole_entries (members_view l.key-iterator))
