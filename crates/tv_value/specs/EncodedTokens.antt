-- Tokens that are gathered in their shortest encoding.
use Rattle.std.specs.Prelude.{List}
use Rattle.tv_format.specs.Tree.{Token}
use Rattle.tv_value.specs.declared.pre_tokenized.EncodedTokens.{EncodedTokens}

-- the tokens, in order
abbrev pub gathered : EncodedTokens → List Token
gathered e = e.held.0
