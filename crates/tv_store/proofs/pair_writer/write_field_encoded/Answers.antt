use Rattle.std.proofs.lemmas.Result.{err_from_is_err_and}
use Rattle.tv_base.proofs.Written.{Writes_then, Writes_prefix}
use Rattle.tv_store.proofs.Stores.{writes_for}
use Rattle.tv_store.proofs.pair_writer.write_field_encoded.Goals as goal

pub returns-in_err-write_u32-clause-writes : goal.returns-in_err-write_u32-clause-writes
returns-in_err-write_u32-clause-writes g c =
    let p = err_from_is_err_and c.from_residual.result c.from_residual.ensures.1 in
    rw (p.1, p.2, ← c.field_id.ensures) (writes_for {T = Unit {0}} (Writes_prefix _ _ c.in_err-write_u32.ensures))

pub returns-clause-writes : goal.returns-clause-writes
returns-clause-writes g c = rw (← c.field_id.ensures) (Writes_then _ _ c.in_ok-write_u32.ensures c.write_encoded.ensures.writes)
