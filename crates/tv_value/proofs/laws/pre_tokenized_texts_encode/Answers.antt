use Rattle.std.proofs.Math.Logic.{∥∥₁_elim}
use Rattle.tv_value.specs.PreTokenized.{tokens_of}
use Rattle.tv_format.specs.ShortLaws.{AreTokens-prop}
use Rattle.tv_value.proofs.laws.pre_tokenized_texts_encode.Goals as goal

pub returns : goal.returns
returns c = λ s. (s.valid, ∥∥₁_elim s.tokens.held.1 (AreTokens-prop (tokens_of s)) (λ p. p.valid))
