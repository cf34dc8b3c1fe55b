use Rattle.std.proofs.Common.{◌<◌, ◌∷◌, [], ◌++◌, length, arith, length-append}
use Rattle.tv_format.specs.Encoding.{TokenEncoding}
use Rattle.tv_value.specs.TokenRef.{ref_of}
use Rattle.tv_value.proofs.InPlace.{if_none, token_missing}
use Rattle.tv_format.proofs.Prefixes.{begins_item}
use Rattle.tv_value.proofs.in_place.behind_tokens.Goals as goal

pub returns-in_err-_token-clause-none : goal.returns-in_err-_token-clause-none
returns-in_err-_token-clause-none c =
    let done = c.loop-i.invariant in
    if_none c.from_residual.result (λ all many.
    let fewer : length done.tokens < length all = omega (arith, done.counted, c.loop-i-test.true) in
    token_missing done.tokens c.args.bytes.now c.loop-i.rest.now done.begins c.in_err-_token.ensures.none all fewer)

pub loop-i-preserved : goal.loop-i-preserved
loop-i-preserved c =
    let done = c.loop-i.invariant in
    let token = ref_of c.in_ok-_token._token in
    record {
      tokens = done.tokens ++ token ∷ [];
      counted = omega (arith, done.counted, length-append done.tokens (token ∷ []));
      begins = begins_item TokenEncoding done.tokens token c.args.bytes.now c.loop-i.rest.now c.in_ok-_token.behind.now done.begins c.in_ok-_token.ensures.found;
    }
