use Rattle.std.proofs.Common.{◌∙◌, ◌+◌, ◌≤◌, ◌++◌, ap, append_assoc, arith, length, length-append, sym}
use Rattle.std.specs.List.{flat_map}
use Rattle.tv_base.proofs.Growing.{grows_more, grows_then}
use Rattle.tv_base.specs.Buffer.{GrowsWithin}
use Rattle.tv_format.specs.Short.{short_token, short_tokenized}
use Rattle.tv_value.specs.PreTokenized.{text_of, tokens_of, tokens_left}
use Rattle.tv_value.specs.TokenRef.{ref_of}
use Rattle.tv_heap.proofs.write.push_tokenized.Goals as goal

pub loop-token-preserved : goal.loop-token-preserved
loop-token-preserved c =
    let l = c.loop-token in
    let whole = short_tokenized (text_of c.args.content) (tokens_of c.args.content) in
    let left = ap (λ z. length (flat_map short_token z)) c.in-Some.ensures.steps in
    let one = short_token (ref_of c.in-Some.token) in
    let fits : length l.heap.items + length one ≤ length c.args.heap.now.items + length whole =
    omega (arith, left, ap length l.invariant.whole, length-append l.heap.items (flat_map short_token (tokens_left l.token-iterator)), length-append c.args.heap.now.items whole, length-append one (flat_map short_token (tokens_left c.next.new.self))) in
    let grown : GrowsWithin (length c.args.heap.now.items + length whole) c.args.heap.now c.push_token.new.bytes = grows_then l.invariant.grown (grows_more fits c.push_token.ensures.grows) in
    let put = c.in_ok-push_token.ensures.ok in
    record {
      grown = grown;
      prefix = (l.invariant.prefix.0 ++ one, put ∙ ap (λ z. z ++ one) l.invariant.prefix.1 ∙ append_assoc c.args.heap.now.items l.invariant.prefix.0 one);
      whole = ap (λ z. z ++ flat_map short_token (tokens_left c.next.new.self)) put ∙ append_assoc l.heap.items one (flat_map short_token (tokens_left c.next.new.self))
          ∙ ap (λ z. l.heap.items ++ flat_map short_token z) (sym c.in-Some.ensures.steps) ∙ l.invariant.whole;
    }

pub returns-in_err-push_token-clause-grows : goal.returns-in_err-push_token-clause-grows
returns-in_err-push_token-clause-grows c =
    let l = c.loop-token in
    let whole = short_tokenized (text_of c.args.content) (tokens_of c.args.content) in
    let left = ap (λ z. length (flat_map short_token z)) c.in-Some.ensures.steps in
    let one = short_token (ref_of c.in-Some.token) in
    let fits : length l.heap.items + length one ≤ length c.args.heap.now.items + length whole =
    omega (arith, left, ap length l.invariant.whole, length-append l.heap.items (flat_map short_token (tokens_left l.token-iterator)), length-append c.args.heap.now.items whole, length-append one (flat_map short_token (tokens_left c.next.new.self))) in
    grows_then l.invariant.grown (grows_more fits c.push_token.ensures.grows)
