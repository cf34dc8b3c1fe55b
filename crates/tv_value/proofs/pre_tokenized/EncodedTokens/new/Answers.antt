use Rattle.std.proofs.Common.{[], rules}
use Rattle.tv_value.proofs.GatheredTokens.{none_held, none_gathered}
use Rattle.tv_value.proofs.pre_tokenized.EncodedTokens.new.Goals as goal

pub invariant_of-result : goal.invariant_of-result
invariant_of-result c =
    let none = c.new.ensures.items in
    record { held = ([], none_held c.new.result.items none); short = none }

pub returns : goal.returns
returns c =
    let only = none_gathered c.new.result.items c.new.ensures.items in
    search (rules, only)
