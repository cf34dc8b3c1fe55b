use Rattle.std.proofs.Common.{refl}
use Rattle.tv_heap.proofs.InPlace.{encoded_is}
use Rattle.tv_heap.proofs.lent.sized_encoding_at.Goals as goal

pub returns : goal.returns
returns c = λ s p.
    encoded_is c.args.heap.now c.split_at.result.1.now c.short_at-len.result.1.now c.split_at-2.result.0.now c.args.address c.short_at-len.result.0 _ s p c.split_at.ensures.back c.short_at-len.ensures.number refl c.split_at-2.ensures.front
