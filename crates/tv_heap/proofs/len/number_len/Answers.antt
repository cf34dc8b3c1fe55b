use Rattle.std.proofs.Common.{length, ap, sym}
use Rattle.tv_base.proofs.Numbers.{vnum-small}
use Rattle.tv_heap.proofs.len.number_len.Goals as goal

pub returns-then-number-lt128-clause-len : goal.returns-then-number-lt128-clause-len
returns-then-number-lt128-clause-len c = sym (ap length (vnum-small c.args.number c.if-number-lt128.true))
