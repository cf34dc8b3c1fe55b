-- Texts with their tokens, however they are kept.
use Rattle.std.specs.Prelude.{ℕ, List}
use Rattle.tv_format.specs.Tree.{Token, Leaf, tokenized}
use Rattle.tv_value.specs.declared.pre_tokenized.PreTokenizedStr.{PreTokenizedStr}
use Rattle.tv_value.specs.declared.pre_tokenized.TokenIter.{TokenIter}

-- the tokens that are left
abbrev pub tokens_left : TokenIter → List Token
tokens_left s = s.held.0

abbrev pub text_of : PreTokenizedStr → List ℕ
text_of s = s.text.now

abbrev pub tokens_of : PreTokenizedStr → List Token
tokens_of s = tokens_left s.tokens

abbrev pub tokenized_leaf : PreTokenizedStr → Leaf
tokenized_leaf s = tokenized (text_of s) (tokens_of s)

abbrev pub parts_of : PreTokenizedStr → List ℕ × List Token
parts_of s = (text_of s, tokens_of s)
