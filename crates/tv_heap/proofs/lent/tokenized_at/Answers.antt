use Rattle.std.proofs.Common.{Some, ap}
use Rattle.tv_value.specs.PreTokenized.{text_of, tokens_of}
use Rattle.tv_heap.proofs.Lends.{tokenized_is, tokenized_none}
use Rattle.tv_heap.proofs.lent.tokenized_at.Goals as goal

pub returns-in_err-content : goal.returns-in_err-content
returns-in_err-content c = λ s ss p. tokenized_none c.args.heap.now c.split_at.result.1.now c.args.address s ss p c.split_at.ensures.back c.in_err-content.ensures.none

pub returns : goal.returns
returns c = λ s ss p.
    let found = c.in_ok-content.content in
    ap (λ l. Some l) (tokenized_is c.args.heap.now c.split_at.result.1.now c.args.address c.in_ok-content.field-0-1 s (text_of found) ss (tokens_of found) p c.split_at.ensures.back c.in_ok-content.ensures.found.1)
