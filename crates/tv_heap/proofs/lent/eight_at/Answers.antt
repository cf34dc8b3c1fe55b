use Rattle.std.proofs.Common.{◌∙◌}
use Rattle.tv_heap.proofs.Lends.{eight_is, eight_short}
use Rattle.tv_heap.proofs.lent.eight_at.Goals as goal

pub returns-in-Some : goal.returns-in-Some
returns-in-Some c = λ n p.
    c.from_le_bytes.ensures ∙ eight_is c.args.heap.now c.split_at.result.1.now c.in-Some.prefix.now c.args.address n p c.split_at.ensures.back c.in-Some.ensures.cases.same

pub returns-in-None : goal.returns-in-None
returns-in-None c = λ n p. eight_short c.args.heap.now c.split_at.result.1.now c.args.address n p c.split_at.ensures.back c.in-None.ensures.cases
