use Rattle.std.proofs.Common.{length-append, refl, arith}
use Rattle.tv_value.specs.Lent.{leaf_of}
use Rattle.tv_heap.specs.LeafBytes.{leaf_bytes}
use Rattle.tv_builder.proofs.Rooms.{over}
use Rattle.tv_builder.proofs.Giving.{prefix_same}
use Rattle.tv_builder.proofs.whole.put_leaf.Goals as goal

pub returns-then-not-has_value_room-clause-err : goal.returns-then-not-has_value_room-clause-err
returns-then-not-has_value_room-clause-err c =
    let heap = c.args.heap.now in
    let l = leaf_of c.args.value.now in
    let full = over c.leaf_len.result c.len.result _ c.has_value_room.result c.requires.most c.leaf_len.ensures c.has_value_room.ensures c.if-not-has_value_room.true in
    record { prefix = prefix_same _ _ refl; why = omega (arith, full, c.len.ensures.len, length-append heap.items (leaf_bytes l)); fits = λ h. c.requires.fits }
