-- Why a text is no query, and where.
--
-- The word of the public contract, `Refuses`: before the place stand tokens that may follow one another,
-- whose clauses the schema takes. What stands there is no token, or one that can't follow, or a clause that
-- the schema refuses, or the text ends there too early. The reason says which. Or it is want of memory, and
-- then what stands there is right, or is found wrong only once memory was taken.
use Rattle.std.specs.Prelude.{◌≡◌, ◌≢◌, ◌==◌, ◌<◌, ◌+◌, ◌⊎◌, ℕ, List, [], ◌∷◌, ◌++◌, length, true, Some, None}
use Rattle.std.specs.Char.{is_ascii_whitespace}
use Rattle.std.specs.List.{AllByRecursion, Contains}
use Rattle.std.specs.Str.{NonePass}
use Rattle.tv_field.specs.Entry.{Entry}
use Rattle.tv_query.specs.Grammar.{ParserState, after, after_all, wants_operand, wants_operator}
use Rattle.tv_indexing.specs.Tells.{Tells}
use Rattle.tv_query.specs.Selections.{RefusesClause, Selects, TakesMemory}
use Rattle.tv_query.specs.Tokens.{BeginsWithOperator, BeginsWithPath, BeginsWithToken, BeginsWithTokens}
use Rattle.tv_query.specs.Tokens.{BeginsWithout, IsEmptyOrBegins, IsOperator, IsQuoted, IsSpace}
use Rattle.tv_query.specs.Tokens.{QueryToken, WantedText, and_word, clause, closed, closes_range, ends_word}
use Rattle.tv_query.specs.Tokens.{is_quote, opens_range, or_word}
use Rattle.tv_query.specs.declared.query_error.QueryError.{QueryError}
use Rattle.tv_query.specs.declared.query_error.QueryReason.{QueryReason}
use Rattle.tv_query.specs.declared.query_error.QueryReason.TheVariants.{Memory, NoColon, NoOperand}
use Rattle.tv_query.specs.declared.query_error.QueryReason.TheVariants.{NoOperator, NoPath, NoText, Unclosed}
use Rattle.tv_query.specs.declared.query_error.QueryReason.TheVariants.{Unended, Unopened}
use Rattle.tv_query.specs.declared.selection.Selection.{Selection}

-- ---- a text that begins with no token

-- a quote, and none of its kind after it
pub record IsUnquoted (text : List ℕ) : Type 0 where
  pub quote : ℕ
  pub inner : List ℕ
  pub is_quote : is_quote quote ≡ true
  pub text_is : text ≡ quote ∷ inner
  pub inside : NonePass (λ b. b == quote) inner

-- a bracket, and none that closes after it
pub record IsUnclosed (text : List ℕ) : Type 0 where
  pub opening : ℕ
  pub inner : List ℕ
  pub opens : opens_range opening ≡ true
  pub text_is : text ≡ opening ∷ inner
  pub inside : NonePass closes_range inner

-- nothing is wanted
pub data RefusesWanted (text : List ℕ) : QueryReason → Type 0 where
  nothing : BeginsWithout is_quote text → IsEmptyOrBegins ends_word text → RefusesWanted text NoText
  unquoted : IsUnquoted text → RefusesWanted text Unended
  unclosed : IsUnclosed text → RefusesWanted text Unended

pub data RefusesToken (text : List ℕ) : QueryReason → Type 0 where
  no_path : {rest : List ℕ} → text ≡ 58 ∷ rest → RefusesToken text NoPath
  unquoted_path : IsUnquoted text → RefusesToken text Unended
  quoted_alone : {path rest : List ℕ} → IsQuoted text path rest → BeginsWithout (λ b. b == 58) rest
      → RefusesToken text NoColon
  word_alone : {word rest : List ℕ} → BeginsWithOperator text word rest
      → ((token : QueryToken) → ¬ IsOperator token word) → RefusesToken text NoColon
  wants_nothing : {path rest : List ℕ} {reason : QueryReason} → BeginsWithPath text path rest
      → RefusesWanted rest reason → RefusesToken text reason

-- ---- tokens that can't stand where they do

-- a token that can't follow, for the reason that there is
abbrev pub RefusesNext : ParserState → QueryToken → QueryReason → Type 0
RefusesNext (wants_operand depth) token reason = (after (wants_operand depth) token ≡ None)
    × (reason ≡ NoOperand)
RefusesNext (wants_operator depth) closed reason = (depth ≡ 0) × (reason ≡ Unopened)
RefusesNext (wants_operator depth) token reason = (after (wants_operator depth) token ≡ None)
    × (reason ≡ NoOperator)

-- the text ends too early
abbrev pub RefusesEnd : ParserState → QueryReason → Type 0
RefusesEnd (wants_operand depth) reason = reason ≡ NoOperand
RefusesEnd (wants_operator depth) reason = (0 < depth) × (reason ≡ Unclosed)

-- a token that can't follow, or a clause that can, and is refused
pub data RefusesTaken (schema : List Entry) (state : ParserState) (token : QueryToken)
    (reason : QueryReason) : Type 0 where
  misplaced : RefusesNext state token reason → RefusesTaken schema state token reason
  refused : {path : List ℕ} {wanted : WantedText} → token ≡ clause path wanted → after state token ≢ None
      → RefusesClause schema path wanted reason → RefusesTaken schema state token reason

-- what stands at the place of an error, where these tokens have come before
pub data RefusesRest (schema : List Entry) (state : ParserState) (text : List ℕ)
    (reason : QueryReason) : Type 0 where
  ended : text ≡ [] → RefusesEnd state reason → RefusesRest schema state text reason
  no_token : text ≢ [] → RefusesToken text reason → RefusesRest schema state text reason
  no_place : {token : QueryToken} {rest : List ℕ} → BeginsWithToken text token rest
      → RefusesTaken schema state token reason → RefusesRest schema state text reason

-- one of the tokens joins two operands
abbrev pub HaveOperator : List QueryToken → Type 0
HaveOperator tokens = Contains tokens and_word ⊎ Contains tokens or_word

-- The reasons that take memory to find, after these tokens: of parentheses, where a step that joins two
-- operands is written first; and those of a clause.
abbrev pub TakesMemoryAfter : List Entry → List QueryToken → QueryReason → Type 0
TakesMemoryAfter schema tokens Unopened = HaveOperator tokens
TakesMemoryAfter schema tokens Unclosed = HaveOperator tokens
TakesMemoryAfter schema tokens reason = TakesMemory schema reason

-- the schema refuses no clause that the token is
abbrev pub IsTaken : List Entry → QueryToken → Type 0
IsTaken schema (clause path wanted) = (selection : Selection) × Selects schema path wanted selection
IsTaken schema token = Unit {0}

-- Tokens that may follow one another and aren't refused, and white space; after them stands what is.
pub record Refuses (schema : List Entry) (text : List ℕ) (error : QueryError) : Type 0 where
  pub tokens : List QueryToken
  pub space : List ℕ
  pub rest : List ℕ
  pub state : ParserState
  pub begins : BeginsWithTokens text tokens (space ++ rest)
  pub is_space : IsSpace space
  pub no_space : BeginsWithout is_ascii_whitespace rest
  pub place : error.place + length rest ≡ length text
  pub follow : after_all (wants_operand 0) tokens ≡ Some state
  pub taken : AllByRecursion (IsTaken schema) tokens
  pub reason : Tells Memory (TakesMemoryAfter schema tokens) (RefusesRest schema state rest) error.reason
