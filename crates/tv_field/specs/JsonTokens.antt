-- Texts with their tokens, as JSON objects. Keys that aren't asked for are ignored.
use Rattle.std.specs.Prelude.{ℕ, List, [], ◌∷◌, ◌++◌, ◌≡◌, Bool, true, false, Result, Ok, Err, Option, Some}
use Rattle.std.specs.Prelude.{None, option_map, option_and_then, codes}
use Rattle.serde_json.specs.Data as json
use Rattle.serde_json.specs.Data.{Data, Items}
use Rattle.serde_json.specs.Find.{get, as_str, as_array, as_number, as_u64}
use Rattle.tv_date.specs.Rfc3339.{◌>>=◌}
use Rattle.std.specs.List.{AllByRecursion, flat_map}
use Rattle.tv_format.specs.Short.{short_token, short_tokenized, IsText, IsToken, AreTokens}
use Rattle.tv_format.specs.Tree.{Token, Leaf, tokenized}

-- the text at a key
abbrev pub text_at : List ℕ → Data → Option (List ℕ)
text_at key datum = option_and_then as_str (get key datum)

-- the whole number from 0 to 2^64 - 1 at a key
abbrev pub number_at : List ℕ → Data → Option ℕ
number_at key datum = option_and_then as_u64 (option_and_then as_number (get key datum))

-- a token is an object with five keys
unfoldable pub token_in : Data → Option Token
token_in datum = do
  offset_from ← number_at (codes "offset_from") datum
  offset_to ← number_at (codes "offset_to") datum
  position ← number_at (codes "position") datum
  text ← text_at (codes "text") datum
  position_length ← number_at (codes "position_length") datum
  Some (record {
    offset_from = offset_from;
    offset_to = offset_to;
    position = position;
    text = text;
    position_length = position_length;
  })

abbrev pub tokens_in : Items → Option (List Token)
tokens_in json.no_items = Some []
tokens_in (json.item d ds) = option_and_then (λ t. option_map (λ ts. t ∷ ts) (tokens_in ds)) (token_in d)

-- an object with a text and an array of tokens
unfoldable pub tokenized_in : Data → Option Leaf
tokenized_in datum = do
  content ← text_at (codes "text") datum
  items ← option_and_then as_array (get (codes "tokens") datum)
  option_map (tokenized content) (tokens_in items)

-- whether the value is a token, whose shortest encoding then is added
abbrev pub IsTokenEncoded : {E : Type 0} → Data → List ℕ → List ℕ → Result Bool E → Type 0
IsTokenEncoded datum old new (Ok true) = (t : Token) × (token_in datum ≡ Some t) × IsToken t
    × (new ≡ old ++ short_token t)
IsTokenEncoded datum old new (Ok false) = token_in datum ≡ None
IsTokenEncoded datum old new (Err e) = Unit {0}

-- whether the items are tokens, whose shortest encodings then are added
abbrev pub AreTokensEncoded : {E : Type 0} → Items → List ℕ → List ℕ → Result Bool E → Type 0
AreTokensEncoded items old new (Ok true) = (ts : List Token) × (tokens_in items ≡ Some ts)
    × AllByRecursion IsToken ts × (new ≡ old ++ flat_map short_token ts)
AreTokensEncoded items old new (Ok false) = tokens_in items ≡ None
AreTokensEncoded items old new (Err e) = Unit {0}

-- whether the value is a text with tokens, whose shortest encoding these bytes then are; else there are none
abbrev pub IsTokenizedEncoded : {E : Type 0} → Data → List ℕ → Result Bool E → Type 0
IsTokenizedEncoded datum encoded (Ok true) =
    (content : List ℕ) × (ts : List Token) × (tokenized_in datum ≡ Some (tokenized content ts))
    × IsText content
    × AreTokens ts × (encoded ≡ short_tokenized content ts)
IsTokenizedEncoded datum encoded (Ok false) = (tokenized_in datum ≡ None) × (encoded ≡ [])
IsTokenizedEncoded datum encoded (Err e) = Unit {0}
