use Rattle.std.proofs.Common.{sym}
use Rattle.tv_base.specs.Number.{one_byte}
use Rattle.tv_base.proofs.Numbers.{vnum-small}
use Rattle.tv_base.proofs.Written.{Writes_as}
use Rattle.tv_base.proofs.write.write_vint.Goals as goal

pub returns-then-number-lt128 : goal.returns-then-number-lt128
unfolding one_byte
returns-then-number-lt128 g c = Writes_as c.write_u8.ensures (sym (vnum-small c.args.number c.if-number-lt128.true))
