use Rattle.tv_heap.proofs.InPlace.{sixteen_is}
use Rattle.tv_heap.proofs.Lends.{wide_short}
use Rattle.tv_heap.proofs.lent.sixteen_at.Goals as goal

pub returns : goal.returns
returns c = λ n p. sixteen_is c.args.heap.now c.split_at.result.1.now c.split_at-2.result.0.now c.args.address n p c.split_at.ensures.back c.split_at-2.ensures.front

pub returns-then-behind-lt16 : goal.returns-then-behind-lt16
returns-then-behind-lt16 c = λ n p. wide_short c.args.heap.now c.split_at.result.1.now c.args.address n p c.split_at.ensures.back c.if-behind-lt16.true
