use Rattle.std.proofs.Common.{◌∷◌, ◌∙◌, sym, ap}
use Rattle.std.specs.Int.{w32, to_le_bytes}
use Rattle.std.proofs.lemmas.Result.{err_from_is_err_and}
use Rattle.tv_base.proofs.Written.{Writes_both, Writes_some}
use Rattle.tv_writer.proofs.Coded.{four_listed}
use Rattle.tv_store.proofs.pair_writer.write_field_bytes.Goals as goal

pub returns : goal.returns
returns g c =
    let bytes = c.to_le_bytes.ensures ∙ ap (to_le_bytes w32) c.field_id.ensures in
    Writes_both c.in_ok-write_all.ensures c.write_all-2.ensures (sym (four_listed c.to_le_bytes.result c.args.field.id (c.args.code ∷ c.args.content.now) bytes))

pub returns-in_err-write_all : goal.returns-in_err-write_all
returns-in_err-write_all g c =
    let bytes = c.to_le_bytes.ensures ∙ ap (to_le_bytes w32) c.field_id.ensures in
    let p = err_from_is_err_and c.from_residual.result c.from_residual.ensures.1 in
    rw (p.1, p.2) (Writes_some c.args.content.now c.in_err-write_all.ensures (sym (four_listed c.to_le_bytes.result c.args.field.id (c.args.code ∷ c.args.content.now) bytes)))
