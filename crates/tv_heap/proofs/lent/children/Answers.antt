use Rattle.std.proofs.Common.{arith}
use Rattle.tv_heap.proofs.InPlace.{last_at_most}
use Rattle.tv_heap.proofs.lent.children.Goals as goal

pub overflow_add-count : goal.overflow_add-count
overflow_add-count c =
    omega (arith, c.loop-byte.invariant, c.loop-byte-test.true, last_at_most c.args.list.now)
