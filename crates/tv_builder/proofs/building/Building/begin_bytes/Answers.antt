use Rattle.std.proofs.Common.{◌≡◌, ◌<◌, ◌≤◌, ◌+◌, length, refl, ap, arith, rules}
use Rattle.tv_base.specs.Number.{vnum}
use Rattle.tv_builder.specs.Shows.{awaited_by}
use Rattle.tv_builder.specs.State.{head_awaits}
use Rattle.tv_builder.proofs.Opening.{begins_bytes, begins_full}
use Rattle.tv_builder.proofs.Rooms.{no_room}
use Rattle.tv_builder.proofs.building.Building.begin_bytes.Goals as goal

pub returns : goal.returns
returns c =
    let b = c.args.self.now in
    let await : awaited_by b ≡ head_awaits c.args.kind = search rules in
    let fits : c.len.result + (length (vnum c.args.announced) + c.args.announced) ≤ 4294967295 = c.has_room.ensures.0 c.if-not-has_room.false in
    let at : c.len-address.result ≡ length b.heap.items = omega (arith, c.len-address.ensures.len) in
    begins_bytes b _ c.args.kind c.args.announced _ await (omega (arith, fits, c.len.ensures.len))
    (ap (λ n. record { kind = c.args.kind; address = n; announced = c.args.announced; missing = c.args.announced }) at) c.in_ok-push_number.ensures.ok refl refl refl refl refl

pub returns-then-not-has_room : goal.returns-then-not-has_room
returns-then-not-has_room c =
    let b = c.args.self.now in
    let await : awaited_by b ≡ head_awaits c.args.kind = search rules in
    let full : 4294967295 < c.len.result + (length (vnum c.args.announced) + c.args.announced) = no_room c.has_room.result _ c.has_room.ensures c.if-not-has_room.true in
    begins_full b c.args.kind c.args.announced await (omega (arith, full, c.len.ensures.len))
