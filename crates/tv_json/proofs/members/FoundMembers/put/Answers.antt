use Rattle.std.proofs.Common.{◌≡◌, ◌++◌, ◌∷◌, [], sym, ap, subst, ◌∙◌}
use Rattle.serde_json.specs.Data.{put}
use Rattle.tv_json.specs.BorrowedData.{data_of, members_data}
use Rattle.tv_json.specs.Found.{found_data}
use Rattle.tv_json.specs.RisingMembers.{Rise, EndsBelow}
use Rattle.tv_json.proofs.Places.{where_added}
use Rattle.tv_json.proofs.Rising.{put_at_end}
use Rattle.tv_json.proofs.members.FoundMembers.put.Goals as goal

pub returns-then-is_above_last : goal.returns-then-is_above_last
returns-then-is_above_last c =
    let ms = c.in-Listed.list.items in
    let whole : found_data c.args.self.now ≡ members_data ms = ap found_data c.in-Listed.is in
    let below : EndsBelow c.args.key.now ms = subst (EndsBelow c.args.key.now) c.as_slice.ensures.value (c.is_above_last.ensures c.if-is_above_last.true) in
    where_added (λ l. members_data l ≡ put c.args.key.now (data_of c.args.value) (found_data c.args.self.now)) c.push.result c.ok.result ms
    (ms ++ (c.args.key, c.args.value) ∷ []) c.push.new.self.items c.ok.ensures.value c.push.ensures.items
    (put_at_end (c.args.key, c.args.value) ms (subst Rise whole c.requires) below ∙ ap (put c.args.key.now (data_of c.args.value)) (sym whole))
