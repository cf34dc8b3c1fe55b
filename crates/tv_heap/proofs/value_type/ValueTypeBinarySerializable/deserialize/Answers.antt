use Rattle.std.proofs.lemmas.Result.{err_from_is_err_and}
use Rattle.tv_heap.proofs.TypeBytes.{err_is, no_byte_read, other_byte_read}
use Rattle.tv_heap.proofs.value_type.ValueTypeBinarySerializable.deserialize.Goals as goal

pub returns-in_err-code : goal.returns-in_err-code
returns-in_err-code g c =
    let p = err_from_is_err_and c.from_residual.result c.from_residual.ensures.1 in
    let source = g.S.ByteSource in
    record { reads = rw (p.1, p.2) (no_byte_read source _ _ _ c.in_err-code.ensures.reads.0, λ is. c.in_err-code.ensures.reads.1 (err_is _ _ is)) }

pub returns-in-None : goal.returns-in-None
returns-in-None g c =
    let source = g.S.ByteSource in
    record { reads = (other_byte_read source _ _ _ c.in-None.ensures.none c.in_ok-code.ensures.reads.0, λ is. cc) }
