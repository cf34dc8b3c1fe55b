use Rattle.std.specs.Prelude.{◌≡◌, take, map}
use Rattle.serde_json.specs.View.{view, members_view}
use Rattle.tv_json.specs.BorrowedData.{data_of, members_data}
use Rattle.tv_json.proofs.Copies.{RisesTo}
use Rattle.tv_json.proofs.value.+copies.Given as goal

abbrev pub invariant-copied_items-loop-item : goal.invariant-copied_items-loop-item
invariant-copied_items-loop-item l = map view l.made.items ≡ map data_of (take l.item-index l.items)

abbrev pub invariant-copied_members-loop-key : goal.invariant-copied_members-loop-key
invariant-copied_members-loop-key l = (members_view l.made.entries ≡ members_data (take l.key-index l.members)) × RisesTo l.last (take l.key-index l.members)
