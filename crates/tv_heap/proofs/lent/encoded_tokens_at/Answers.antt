use Rattle.tv_value.specs.PreTokenized.{text_of, tokens_of}
use Rattle.tv_heap.proofs.InPlace.{tokens_is}
use Rattle.tv_heap.proofs.Lends.{tokenized_none}
use Rattle.tv_heap.proofs.lent.encoded_tokens_at.Goals as goal

pub returns : goal.returns
returns c = λ s ss p.
    let found = c.in-Some.field-0-0 in
    tokens_is c.args.heap.now c.split_at.result.1.now c.split_at-2.result.0.now c.args.address c.in-Some.len (text_of found) s (tokens_of found) ss p c.split_at.ensures.back c.in-Some.ensures.found.1 c.split_at-2.ensures.front

pub returns-in_default : goal.returns-in_default
returns-in_default c = λ s ss p. tokenized_none c.args.heap.now c.split_at.result.1.now c.args.address s ss p c.split_at.ensures.back c.in_default.ensures.none
