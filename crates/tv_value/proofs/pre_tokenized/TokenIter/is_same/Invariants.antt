use Rattle.std.proofs.Common.{◌≡◌}
use Rattle.tv_value.specs.SameTokens.{tokens_eq}
use Rattle.tv_value.proofs.pre_tokenized.TokenIter.is_same.Given as goal

-- the tokens so far are the same
abbrev pub invariant-loop-token : goal.invariant-loop-token
invariant-loop-token l = tokens_eq l.token-iterator.held.0 l.other.held.0 ≡ tokens_eq l.initial.token-iterator.held.0 l.initial.other.held.0
