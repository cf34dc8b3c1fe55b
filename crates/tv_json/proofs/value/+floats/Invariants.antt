use Rattle.std.specs.Prelude.{◌≡◌, drop}
use Rattle.serde_json.specs.Written.{items_have_float, members_have_float}
use Rattle.tv_json.specs.BorrowedData.{items_data, members_data}
use Rattle.tv_json.proofs.value.+floats.Given as goal

-- none was passed that has one
abbrev pub invariant-is_float_among_items-loop-item : goal.invariant-is_float_among_items-loop-item
invariant-is_float_among_items-loop-item l = items_have_float (items_data l.items) ≡ items_have_float (items_data (drop l.item-index l.items))

abbrev pub invariant-is_float_among_members-loop-member : goal.invariant-is_float_among_members-loop-member
invariant-is_float_among_members-loop-member l = members_have_float (members_data l.members) ≡ members_have_float (members_data (drop l.member-index l.members))
