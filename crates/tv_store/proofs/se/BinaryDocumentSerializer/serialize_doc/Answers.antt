use Rattle.std.proofs.lemmas.Result.{err_from_is_err_and}
use Rattle.tv_base.proofs.Written.{Writes_then, Writes_prefix}
use Rattle.tv_store.proofs.Stores.{writes_for}
use Rattle.tv_store.proofs.se.BinaryDocumentSerializer.serialize_doc.Goals as goal

pub returns-in_err-write_vint-clause-writes : goal.returns-in_err-write_vint-clause-writes
returns-in_err-write_vint-clause-writes g c =
    let p = err_from_is_err_and c.from_residual.result c.from_residual.ensures.1 in
    rw (p.1, p.2, ← c.stored_count.ensures) (writes_for {T = Unit {0}} (Writes_prefix _ _ c.in_err-write_vint.ensures))

pub returns-clause-writes : goal.returns-clause-writes
returns-clause-writes g c = rw (← c.stored_count.ensures) (Writes_then _ _ c.in_ok-write_vint.ensures c.write_stored_pairs.ensures.writes)
