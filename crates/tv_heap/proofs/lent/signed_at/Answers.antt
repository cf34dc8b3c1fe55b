use Rattle.tv_heap.proofs.Lends.{signed_is}
use Rattle.tv_heap.proofs.lent.signed_at.Goals as goal

pub returns : goal.returns
returns c = λ z p. signed_is c.args.heap.now c.args.address c.eight_at.result c.cast_signed.result z p c.eight_at.ensures c.cast_signed.ensures
