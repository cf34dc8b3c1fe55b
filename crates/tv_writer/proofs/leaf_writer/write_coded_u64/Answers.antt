use Rattle.std.proofs.Common.{◌∷◌, ap}
use Rattle.tv_base.proofs.Written.{Writes_as}
use Rattle.tv_writer.proofs.Coded.{eight_listed}
use Rattle.tv_writer.proofs.leaf_writer.write_coded_u64.Goals as goal

pub returns : goal.returns
returns g c = Writes_as c.write_all.ensures (ap (λ z. c.args.code ∷ z) (eight_listed c.to_le_bytes.result c.args.number c.to_le_bytes.ensures))
