use Rattle.std.proofs.Common.{◌≡◌, length, arith}
use Rattle.tv_heap.proofs.Writes.{leaf_fits}
use Rattle.tv_builder.specs.HeldPairs.{heap_of}
use Rattle.tv_builder.proofs.Kept.{room_fits, leaf_written, kept_fields, kept_adds, kept_memory, cut_fields, cut_unchanged}
use Rattle.tv_builder.proofs.heap_pairs.HeapPairs.add_leaf.Goals as goal

pub write_leaf-requires : goal.write_leaf-requires
write_leaf-requires c =
    let old = c.args.self.now in
    let free = room_fits c.leaf_room.result c.len-len.result _ c.has_value_room.result c.leaf_room.ensures c.has_value_room.ensures c.if-not-has_value_room.false in
    leaf_fits (length (heap_of old)) c.args.value.now (omega (arith, free, c.len-len.ensures.len))

pub invariant_of-self : goal.invariant_of-self
invariant_of-self c =
    let old = c.args.self.now in
    let len : c.len-len.result ≡ length (heap_of old) = omega (arith, c.len-len.ensures.len) in
    let fields = cut_fields old c.write_leaf.new.heap.items _ _ c.len-len.result c.in_default.ensures.err len c.truncate.ensures.items (λ i. old.pairs.items) in
    record { document = fields.document; bytes = fields.bytes; fits = fields.fits }

pub returns-in_default-clause-adds : goal.returns-in_default-clause-adds
returns-in_default-clause-adds c =
    let old = c.args.self.now in
    let len : c.len-len.result ≡ length (heap_of old) = omega (arith, c.len-len.ensures.len) in
    let free = room_fits c.leaf_room.result c.len-len.result _ c.has_value_room.result c.leaf_room.ensures c.has_value_room.ensures c.if-not-has_value_room.false in
    (omega (arith, free, len), cut_unchanged old _ c.write_leaf.new.heap.items c.len-len.result c.in_default.ensures.err len c.truncate.ensures.items (λ i. old.pairs.items))

pub invariant_of-self-2 : goal.invariant_of-self-2
invariant_of-self-2 c =
    let old = c.args.self.now in
    let len : c.len-len.result ≡ length (heap_of old) = omega (arith, c.len-len.ensures.len) in
    let free = room_fits c.leaf_room.result c.len-len.result _ c.has_value_room.result c.leaf_room.ensures c.has_value_room.ensures c.if-not-has_value_room.false in
    let e = c.in-Ok.ensures in
    let written = leaf_written old _ c.len-len.result c.args.field c.args.value.now c.in-Ok.place len (omega arith) (omega (arith, free, len)) e.heap e.place e.ok in
    let fields = kept_fields old _ _ _ _ _ _ _ _ written c.keep_pair.ensures in
    record { document = fields.document; bytes = fields.bytes; fits = fields.fits }

pub returns-clause-adds : goal.returns-clause-adds
returns-clause-adds c =
    let old = c.args.self.now in
    let len : c.len-len.result ≡ length (heap_of old) = omega (arith, c.len-len.ensures.len) in
    let free = room_fits c.leaf_room.result c.len-len.result _ c.has_value_room.result c.leaf_room.ensures c.has_value_room.ensures c.if-not-has_value_room.false in
    let e = c.in-Ok.ensures in
    let written = leaf_written old _ c.len-len.result c.args.field c.args.value.now c.in-Ok.place len (omega arith) (omega (arith, free, len)) e.heap e.place e.ok in
    kept_adds old _ _ _ _ _ _ _ (omega (arith, free, len)) written c.keep_pair.ensures

pub returns-clause-memory : goal.returns-clause-memory
returns-clause-memory c = kept_memory _ _ _ _ _ _ _ _ _ c.keep_pair.result c.keep_pair.ensures
