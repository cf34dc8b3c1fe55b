use Rattle.std.proofs.Common.{◌<◌, ◌^◌, length, map, arith, rules}
use Rattle.tv_value.specs.HeldTokens.{token_of}
use Rattle.tv_value.proofs.Kept.{all_kept, kept_only}
use Rattle.tv_value.proofs.pre_tokenized.PreTokenizedStr.from_string.Goals as goal

pub invariant_of-tokens : goal.invariant_of-tokens
invariant_of-tokens c =
    let kept = c.as_slice.result.now in
    let few : length kept < 2 ^ 63 = omega (arith, c.as_slice.ensures.len, c.args.string.now.tokens.ok, c.args.string.now.tokens.small) in
    record { held = (map token_of kept, ∣ all_kept kept few ∣₁) }

pub returns-clause-tokens : goal.returns-clause-tokens
returns-clause-tokens c =
    let kept = c.as_slice.result.now in
    let few : length kept < 2 ^ 63 = omega (arith, c.as_slice.ensures.len, c.args.string.now.tokens.ok, c.args.string.now.tokens.small) in
    let only = kept_only kept few in
    rw (← c.as_slice.ensures.value) (search (rules, only))
