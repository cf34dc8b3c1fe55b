use Rattle.std.proofs.Common.{◌≡◌, ◌∷◌, ◌<◌, length, rules}
use Rattle.tv_doc.specs.FieldValues.{pairs_left}
use Rattle.tv_heap.specs.Value.{tree_of}
use Rattle.tv_blocks.proofs.Documents.{one_more}
use Rattle.tv_blocks.proofs.document.foreign_field.Goals as goal

pub loop-pair-preserved : goal.loop-pair-preserved
loop-pair-preserved c =
    let l = c.loop-pair in
    let pair = c.in-Some.pair in
    let cut : pairs_left l.pair-iterator ≡ (pair.0.id, tree_of pair.1) ∷ pairs_left c.next.new.self = search rules in
    let within : pair.0.id < length c.args.schema.now = search rules in
    record { can_next = tt; is_finite = tt; so_far = one_more pair.0.id (tree_of pair.1) l.invariant.so_far cut within }
