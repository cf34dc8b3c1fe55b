use Rattle.std.proofs.Common.{◌∙◌, ◌∷◌, ◌++◌, ap}
use Rattle.std.specs.Int.{w32, to_le_bytes}
use Rattle.tv_base.specs.Number.{four_bytes}
use Rattle.tv_base.proofs.Written.{Writes_as}
use Rattle.tv_writer.proofs.Coded.{four_listed, eight_listed}
use Rattle.tv_store.proofs.pair_writer.write_field_u64.Goals as goal

pub returns : goal.returns
returns g c =
    let bytes = c.to_le_bytes.ensures ∙ ap (to_le_bytes w32) c.field_id.ensures in
    let number = eight_listed c.to_le_bytes-2.result c.args.number c.to_le_bytes-2.ensures in
    Writes_as c.write_all.ensures (four_listed c.to_le_bytes.result c.args.field.id _ bytes ∙ ap (λ z. four_bytes c.args.field.id ++ (c.args.code ∷ z)) number)
