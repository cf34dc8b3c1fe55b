-- Bytes of which no prefix is of some kind, or of which a prefix is this many tokens.
use Rattle.std.specs.Prelude.{◌≡◌, ℕ, List, ◌++◌, length}
use Rattle.tv_base.specs.Parts.{Begins, Each}
use Rattle.tv_format.specs.Encoding.{TokenEncoding, Tokenized}
use Rattle.tv_format.specs.Tree.{Token}

pub record NoPrefix (Holds : List ℕ → Type 0) (whole : List ℕ) : Type 0 where
  pub none : (prefix rest : List ℕ) → whole ≡ prefix ++ rest → Holds prefix → ⊥

-- this many tokens begin the bytes, and this is what follows them
pub record BeginsTokens (count : ℕ) (whole rest : List ℕ) : Type 0 where
  pub tokens : List Token
  pub counted : length tokens ≡ count
  pub begins : Begins (λ b. Each TokenEncoding b tokens) whole rest

-- no prefix of the bytes is this many tokens
abbrev pub NoTokens : ℕ → List ℕ → Type 0
NoTokens count whole = (tokens : List Token) → length tokens ≡ count
    → NoPrefix (λ b. Each TokenEncoding b tokens) whole

-- no prefix of the bytes is a text and its tokens
abbrev pub NoTokenized : List ℕ → Type 0
NoTokenized whole = (content : List ℕ) (tokens : List Token)
    → NoPrefix (λ b. Tokenized b content tokens) whole
