-- What a parser has of a query, for private clauses.
use Rattle.std.specs.Prelude.{◌≡◌, ◌≢◌, ◌+◌, ℕ, List, [], ◌∷◌, ◌++◌, MatchBool, if◌then◌else◌}
use Rattle.tv_field.specs.Entry.{Entry}
use Rattle.tv_query.specs.Grammar.{Level, ParserState, QueryTree, WritesQuery, all, any, factor, steps_of}
use Rattle.tv_query.specs.Grammar.{wants_operand, wants_operator}
use Rattle.tv_query.specs.Tokens.{QueryToken, and_word, not_word, opened, or_word}
use Rattle.tv_query.specs.declared.parser.Operator.{Operator}
use Rattle.tv_query.specs.declared.parser.Operator.TheVariants.{And, Not, Open, Or}
use Rattle.tv_query.specs.declared.parser.Parser.{Parser}
use Rattle.tv_query.specs.declared.query.Step.{Step}

-- the last operator is another one, or there is none
abbrev pub EndsWithout : Operator → List Operator → Type 0
EndsWithout operator operators = (before : List Operator) → operators ≢ before ++ operator ∷ []

-- An operand is wanted: the operators that wait for one, the tokens so far, the steps of the operands on the
-- left, and how many parentheses are open.
pub data Awaits (schema : List Entry) : List Operator → List QueryToken → List Step → ℕ → Type 0 where
  at_start : Awaits schema [] [] [] 0
  after_open : {operators : List Operator} {tokens : List QueryToken} {steps : List Step} {depth : ℕ}
      → Awaits schema operators tokens steps depth
      → Awaits schema (operators ++ Open ∷ []) (tokens ++ opened ∷ []) steps (depth + 1)
  after_not : {operators : List Operator} {tokens : List QueryToken} {steps : List Step} {depth : ℕ}
      → Awaits schema operators tokens steps depth
      → Awaits schema (operators ++ Not ∷ []) (tokens ++ not_word ∷ []) steps depth
  after_and : {operators : List Operator} {tokens : List QueryToken} {steps : List Step} {depth : ℕ}
      (operand : List QueryToken) (tree : QueryTree) → Awaits schema operators tokens steps depth
      → EndsWithout Not operators → EndsWithout And operators → WritesQuery schema all operand tree
      → Awaits schema (operators ++ And ∷ []) (tokens ++ (operand ++ and_word ∷ [])) (steps ++ steps_of tree)
      depth
  after_or : {operators : List Operator} {tokens : List QueryToken} {steps : List Step} {depth : ℕ}
      (operand : List QueryToken) (tree : QueryTree) → Awaits schema operators tokens steps depth
      → EndsWithout Not operators → EndsWithout And operators → EndsWithout Or operators
      → WritesQuery schema any operand tree
      → Awaits schema (operators ++ Or ∷ []) (tokens ++ (operand ++ or_word ∷ [])) (steps ++ steps_of tree)
      depth

-- An operand of this level has come for which the operators waited.
pub record Follows (schema : List Entry) (level : Level) (operators : List Operator)
    (tokens : List QueryToken) (steps : List Step) (depth : ℕ) : Type 0 where
  pub before : List QueryToken
  pub before_steps : List Step
  pub operand : List QueryToken
  pub tree : QueryTree
  pub awaits : Awaits schema operators before before_steps depth
  pub writes : WritesQuery schema level operand tree
  pub tokens_are : tokens ≡ before ++ operand
  pub steps_are : steps ≡ before_steps ++ steps_of tree

-- of a parser: after an operand no `NOT` waits for it
abbrev pub IsAt : List Entry → Parser → List QueryToken → ℕ → Type 0
IsAt schema parser tokens depth =
    MatchBool parser.wants_operand (Awaits schema parser.operators.items tokens parser.steps.items depth)
    (Follows schema factor parser.operators.items tokens parser.steps.items depth
    × EndsWithout Not parser.operators.items)

abbrev pub state_of : Parser → ℕ → ParserState
state_of parser depth = if parser.wants_operand then wants_operand depth else wants_operator depth

-- `AND`s are written, too, or also `OR`s
abbrev pub FollowsAll : List Entry → Parser → List QueryToken → ℕ → Type 0
FollowsAll schema parser tokens depth = Follows schema all parser.operators.items tokens parser.steps.items
    depth × EndsWithout Not parser.operators.items × EndsWithout And parser.operators.items

abbrev pub FollowsAny : List Entry → Parser → List QueryToken → ℕ → Type 0
FollowsAny schema parser tokens depth =
    Follows schema any parser.operators.items tokens parser.steps.items depth
    × EndsWithout Not parser.operators.items × EndsWithout And parser.operators.items
    × EndsWithout Or parser.operators.items
