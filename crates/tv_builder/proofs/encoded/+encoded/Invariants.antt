use Rattle.std.proofs.Common.{◌+◌, ◌*◌}
use Rattle.tv_format.specs.WriteVersion.{written_version}
use Rattle.tv_builder.proofs.Encoding.{ItemsPut, MembersPut}
use Rattle.tv_builder.proofs.encoded.+encoded.Given as goal

-- each list takes a level
abbrev pub decreases-put_encoded : goal.decreases-put_encoded
decreases-put_encoded l = 2 * l.levels + 1

abbrev pub decreases-put_encoded_array : goal.decreases-put_encoded_array
decreases-put_encoded_array l = 2 * l.levels

abbrev pub decreases-put_encoded_object : goal.decreases-put_encoded_object
decreases-put_encoded_object l = 2 * l.levels

-- the children's places stand after those of others
abbrev pub invariant-put_encoded_array-loop-i : goal.invariant-put_encoded_array-loop-i
invariant-put_encoded_array-loop-i l =
    ItemsPut (written_version l.version) l.announced l._i l.bytes l.rest l.fn.heap.items l.fn.places.items l.heap.items l.places.items

abbrev pub invariant-put_encoded_object-loop-i : goal.invariant-put_encoded_object-loop-i
invariant-put_encoded_object-loop-i l =
    MembersPut (written_version l.version) l.announced l._i l.bytes l.rest l.fn.heap.items l.fn.places.items l.heap.items l.places.items
