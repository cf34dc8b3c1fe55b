use Rattle.std.proofs.Common.{◌≡◌, drop}
use Rattle.serde_json.specs.View.{items_view, members_view}
use Rattle.serde_json.specs.Written.{items_have_float, members_have_float}
use Rattle.tv_value.proofs.json.+has_float.Given as goal

abbrev pub invariant-some_item_has_float-loop-item : goal.invariant-some_item_has_float-loop-item
invariant-some_item_has_float-loop-item l =
    items_have_float (items_view l.item-items) ≡ items_have_float (items_view (drop l.item-index l.item-items))

abbrev pub invariant-some_member_has_float-loop-member : goal.invariant-some_member_has_float-loop-member
invariant-some_member_has_float-loop-member l =
    members_have_float (members_view l.members.entries) ≡ members_have_float (members_view l.member-iterator)
