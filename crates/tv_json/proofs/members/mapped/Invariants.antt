use Rattle.std.proofs.Common.{◌≡◌, ◌++◌, List}
use Rattle.std.specs.Vec.Iter.{into_iter_items}
use Rattle.tv_json.specs.BorrowedData.{members_data}
use Rattle.tv_json.proofs.Places.{Entry}
use Rattle.tv_json.proofs.members.mapped.Given as goal

-- the map has the members before those that are left
abbrev pub invariant-loop-key : goal.invariant-loop-key
invariant-loop-key l = (before : List Entry) × (l.fn.list.items ≡ before ++ into_iter_items l.key-iterator) × (members_data l.map.entries ≡ members_data before)
