use Rattle.std.proofs.Common.{rules}
use Rattle.tv_value.proofs.GatheredTokens.{kept_gathered}
use Rattle.tv_value.proofs.pre_tokenized.PreTokenizedStr.of_encoded.Goals as goal

pub returns-clause-tokens : goal.returns-clause-tokens
returns-clause-tokens c =
    let tokens = c.args.tokens.now in
    let only = kept_gathered tokens.bytes.items c.as_slice.result.now tokens.count tokens.held c.as_slice.ensures in
    search (rules, only)
