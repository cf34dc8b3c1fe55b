use Rattle.std.proofs.Common.{◌∙◌}
use Rattle.tv_heap.proofs.Lends.{text_sized, text_utf8}
use Rattle.tv_heap.proofs.lent.text_at.Goals as goal

pub from_utf8_unchecked-requires : goal.from_utf8_unchecked-requires
from_utf8_unchecked-requires c = text_utf8 c.args.heap.now c.sized_at.result.now c.args.address c.sized_at.ensures c.requires

pub returns : goal.returns
returns c = λ s p. c.from_utf8_unchecked.ensures ∙ c.sized_at.ensures s (text_sized c.args.heap.now c.args.address s p)
