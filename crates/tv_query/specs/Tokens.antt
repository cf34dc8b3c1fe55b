-- The tokens of a query's text.
--
-- The words of the public contract, `BeginsWithTokens` and `WritesTokens`: a text is white space, a token,
-- white space, a token and so on. A token is a parenthesis, one of the words `AND`, `OR` and `NOT`, or a
-- clause: a path, a colon, and what is wanted there. A path is a bare word or a text in quotes. What is
-- wanted is a star, a text in brackets, a text in quotes, which a star may follow, or a bare word, which may
-- end with a star.
use Rattle.std.specs.Prelude.{◌≡◌, ◌≢◌, ◌||◌, ◌==◌, ℕ, Bool, true, false, List, [], ◌∷◌, ◌++◌, codes}
use Rattle.std.specs.Char.{is_ascii_whitespace}
use Rattle.std.specs.List.{AllByRecursion}
use Rattle.std.specs.Str.{NonePass}
use Rattle.tv_query.specs.declared.token.Stop.{Stop}
use Rattle.tv_query.specs.declared.token.Stop.TheVariants as stop
use Rattle.tv_query.specs.declared.token.Token.{Token}
use Rattle.tv_query.specs.declared.token.Token.TheVariants as tokens
use Rattle.tv_query.specs.declared.token.Wanted.{Wanted}
use Rattle.tv_query.specs.declared.token.Wanted.TheVariants as wants

-- what is wanted at a path: the terms of a text, those that begin with that of a text, or those in a range
pub data WantedText : Type 0 where
  of_text of_prefix of_range : List ℕ → WantedText

pub data QueryToken : Type 0 where
  opened closed and_word or_word not_word : QueryToken
  clause : List ℕ → WantedText → QueryToken

-- ---- words

abbrev pub is_quote : ℕ → Bool
is_quote b = b == 34 || b == 39

-- white space, a parenthesis or a quote ends a bare word
abbrev pub ends_word : ℕ → Bool
ends_word b = is_ascii_whitespace b || (b == 40 || (b == 41 || is_quote b))

-- and a colon ends that of a path
abbrev pub ends_path : ℕ → Bool
ends_path b = ends_word b || b == 58

abbrev pub opens_range : ℕ → Bool
opens_range b = b == 91 || b == 123

abbrev pub closes_range : ℕ → Bool
closes_range b = b == 93 || b == 125

-- there is no first byte, or it passes
abbrev pub IsEmptyOrBegins : (ℕ → Bool) → List ℕ → Type 0
IsEmptyOrBegins stops [] = Unit {0}
IsEmptyOrBegins stops (b ∷ bs) = stops b ≡ true

-- there is no first byte, or it doesn't pass
abbrev pub BeginsWithout : (ℕ → Bool) → List ℕ → Type 0
BeginsWithout stops [] = Unit {0}
BeginsWithout stops (b ∷ bs) = stops b ≡ false

-- what the text has before the first byte that passes, and the rest
pub record IsUpTo (stops : ℕ → Bool) (text word rest : List ℕ) : Type 0 where
  pub text_is : text ≡ word ++ rest
  pub before : NonePass stops word
  pub ends : IsEmptyOrBegins stops rest

-- a quote, a text without it, and the same quote
pub record IsQuoted (text inner rest : List ℕ) : Type 0 where
  pub quote : ℕ
  pub is_quote : is_quote quote ≡ true
  pub text_is : text ≡ quote ∷ (inner ++ quote ∷ rest)
  pub inside : NonePass (λ b. b == quote) inner

-- a bracket, and what there is up to the first that closes
pub record IsBracketed (text inner rest : List ℕ) : Type 0 where
  pub opening : ℕ
  pub middle : List ℕ
  pub closing : ℕ
  pub opens : opens_range opening ≡ true
  pub closes : closes_range closing ≡ true
  pub inside : NonePass closes_range middle
  pub inner_is : inner ≡ opening ∷ (middle ++ closing ∷ [])
  pub text_is : text ≡ inner ++ rest

abbrev pub star : List ℕ
star = 42 ∷ []

-- ---- tokens

-- a path and a colon; a bare word has a byte or more
pub data BeginsWithPath (text path rest : List ℕ) : Type 0 where
  bare : IsUpTo ends_path text path (58 ∷ rest) → path ≢ [] → BeginsWithPath text path rest
  quoted : IsQuoted text path (58 ∷ rest) → BeginsWithPath text path rest

-- a bare word that is no range: it has a byte or more, doesn't begin with a bracket, and isn't a star
pub record BeginsWithWord (text word rest : List ℕ) : Type 0 where
  pub up_to : IsUpTo ends_word text word rest
  pub some : word ≢ []
  pub no_bracket : BeginsWithout opens_range word
  pub no_star : word ≢ star

-- what is wanted; a star is a range without bounds
pub data BeginsWithWanted (text : List ℕ) : WantedText → List ℕ → Type 0 where
  all : {rest : List ℕ} → IsUpTo ends_word text star rest → BeginsWithWanted text (of_range star) rest
  bracketed : {inner rest : List ℕ} → IsBracketed text inner rest
      → BeginsWithWanted text (of_range inner) rest
  quoted_prefix : {inner rest : List ℕ} → IsQuoted text inner (42 ∷ rest)
      → BeginsWithWanted text (of_prefix inner) rest
  quoted_text : {inner rest : List ℕ} → IsQuoted text inner rest → BeginsWithout (λ b. b == 42) rest
      → BeginsWithWanted text (of_text inner) rest
  word_prefix : {inner rest : List ℕ} → BeginsWithWord text (inner ++ star) rest
      → BeginsWithWanted text (of_prefix inner) rest
  word_text : {word rest : List ℕ} → BeginsWithWord text word rest → ((inner : List ℕ) → word ≢ inner ++ star)
      → BeginsWithWanted text (of_text word) rest

-- a bare word that no colon follows; it has a byte or more
pub record BeginsWithOperator (text word rest : List ℕ) : Type 0 where
  pub up_to : IsUpTo ends_path text word rest
  pub some : word ≢ []
  pub no_colon : BeginsWithout (λ b. b == 58) rest

-- the operator's word
abbrev pub IsOperator : QueryToken → List ℕ → Type 0
IsOperator and_word word = word ≡ codes "AND"
IsOperator or_word word = word ≡ codes "OR"
IsOperator not_word word = word ≡ codes "NOT"
IsOperator token word = ⊥

pub data BeginsWithToken (text : List ℕ) : QueryToken → List ℕ → Type 0 where
  opens : {rest : List ℕ} → text ≡ 40 ∷ rest → BeginsWithToken text opened rest
  closes : {rest : List ℕ} → text ≡ 41 ∷ rest → BeginsWithToken text closed rest
  operates : {token : QueryToken} {word rest : List ℕ} → BeginsWithOperator text word rest
      → IsOperator token word → BeginsWithToken text token rest
  selects : {path middle rest : List ℕ} {wanted : WantedText} → BeginsWithPath text path middle
      → BeginsWithWanted middle wanted rest → BeginsWithToken text (clause path wanted) rest

abbrev pub IsSpace : List ℕ → Type 0
IsSpace = AllByRecursion (λ b. is_ascii_whitespace b ≡ true)

-- tokens one after the other, with white space before each, and the rest
pub data BeginsWithTokens : List ℕ → List QueryToken → List ℕ → Type 0 where
  no_tokens : {text : List ℕ} → BeginsWithTokens text [] text
  next_token : (space : List ℕ) {text middle rest : List ℕ} {token : QueryToken} {tokens : List QueryToken}
      → IsSpace space → BeginsWithToken text token middle
      → BeginsWithTokens middle tokens rest → BeginsWithTokens (space ++ text) (token ∷ tokens) rest

-- the whole text is tokens, and white space
abbrev pub WritesTokens : List ℕ → List QueryToken → Type 0
WritesTokens text tokens = (rest : List ℕ) × BeginsWithTokens text tokens rest × IsSpace rest

-- ---- for private clauses

abbrev pub wanted_text : Wanted → WantedText
wanted_text (wants.Text text) = of_text text.now
wanted_text (wants.Prefix text) = of_prefix text.now
wanted_text (wants.Range text) = of_range text.now

abbrev pub token_of : Token → QueryToken
token_of tokens.Open = opened
token_of tokens.Close = closed
token_of tokens.And = and_word
token_of tokens.Or = or_word
token_of tokens.Not = not_word
token_of (tokens.Clause path wanted) = clause path.now (wanted_text wanted)

abbrev pub stops_at : Stop → ℕ → Bool
stops_at stop.Path = ends_path
stops_at stop.Word = ends_word
stops_at stop.SingleQuote = λ b. b == 39
stops_at stop.DoubleQuote = λ b. b == 34
stops_at stop.Bracket = closes_range

-- the text begins with the quote at which this stops
abbrev pub BeginsWithQuote : List ℕ → Stop → Type 0
BeginsWithQuote [] stop = ⊥
BeginsWithQuote (b ∷ bs) stop.SingleQuote = b ≡ 39
BeginsWithQuote (b ∷ bs) stop.DoubleQuote = b ≡ 34
BeginsWithQuote (b ∷ bs) stop = ⊥
