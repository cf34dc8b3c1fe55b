use Rattle.std.proofs.Common.{◌≡◌, ◌++◌, ◌∷◌, [], sym, ◌∙◌, ap, arith, rules}
use Rattle.tv_format.specs.Short.{short_token}
use Rattle.tv_value.specs.TokenRef.{ref_of}
use Rattle.tv_value.proofs.GatheredTokens.{few_held, more_held, more_gathered, kept_held, kept_gathered, short_more, back}
use Rattle.tv_value.proofs.pre_tokenized.EncodedTokens.push.Goals as goal

pub overflow_add-self : goal.overflow_add-self
overflow_add-self c =
    let old = c.args.self.now in
    omega (arith, c.len-len.ensures.len, c.len-len.ensures.small, few_held old.bytes.items old.count old.held)

pub invariant_of-self : goal.invariant_of-self
invariant_of-self c =
    let old = c.args.self.now in
    let new = c.push_token.new.bytes.items in
    let t = ref_of c.args.token in
    let few = c.in-Ok.ensures.small in
    record {
      held = (old.held.0 ++ t ∷ [], more_held old.bytes.items new old.count t old.held old.short c.in-Ok.ensures.ok c.in-Ok.ensures.valid few);
      short = c.in-Ok.ensures.ok ∙ ap (λ z. z ++ short_token t) old.short ∙ sym (short_more old.held.0 t);
    }

pub returns-in-Ok-clause-ok : goal.returns-in-Ok-clause-ok
returns-in-Ok-clause-ok c =
    let old = c.args.self.now in
    let new = c.push_token.new.bytes.items in
    let few = c.in-Ok.ensures.small in
    let only = more_gathered old.bytes.items new old.count (ref_of c.args.token) old.held old.short c.in-Ok.ensures.ok c.in-Ok.ensures.valid few in
    search (rules, only)

pub invariant_of-self-in-Err : goal.invariant_of-self-in-Err
invariant_of-self-in-Err c =
    let old = c.args.self.now in
    let new = c.truncate.new.self.items in
    let same : new ≡ old.bytes.items = c.truncate.ensures.items ∙ back old.bytes.items c.push_token.new.bytes.items c.len-len.result c.len-len.ensures.len c.in-Err.ensures.err in
    record { held = (old.held.0, kept_held old.bytes.items new old.count old.held same); short = same ∙ old.short }

pub returns-in-Err-clause-err : goal.returns-in-Err-clause-err
returns-in-Err-clause-err c =
    let old = c.args.self.now in
    let new = c.truncate.new.self.items in
    let same : new ≡ old.bytes.items = c.truncate.ensures.items ∙ back old.bytes.items c.push_token.new.bytes.items c.len-len.result c.len-len.ensures.len c.in-Err.ensures.err in
    let only = kept_gathered old.bytes.items new old.count old.held same in
    search (rules, only)
