use Rattle.std.proofs.Common.{◌≡◌, ◌++◌, map}
use Rattle.tv_value.specs.HeldTokens.{token_of}
use Rattle.tv_value.specs.PreTokenized.{tokens_of}
use Rattle.tv_value.proofs.pre_tokenized.PreTokenizedStr.to_owned_string.Given as goal

-- the tokens that are copied, and then those that are left
abbrev pub invariant-loop-token : goal.invariant-loop-token
invariant-loop-token l = map token_of l.tokens.items ++ l.token-iterator.held.0 ≡ tokens_of l.fn.self
