-- Queries as trees, and the tokens that write one.
--
-- The words of the public contract: `WritesQuery`: the tokens write the tree. `NOT` binds most, then `AND`,
-- then `OR`, and `AND` and `OR` take from the left. `steps_of`: the tree's steps, each after those of its
-- operands.
use Rattle.std.specs.Prelude.{List, [], ◌∷◌, ◌++◌, ◌+◌, ℕ, suc, Option, Some, None, option_and_then}
use Rattle.tv_field.specs.Entry.{Entry}
use Rattle.tv_query.specs.Selections.{Selects}
use Rattle.tv_query.specs.Tokens.{QueryToken, WantedText, opened, closed, and_word, or_word, not_word, clause}
use Rattle.tv_query.specs.declared.query.Step.{Step}
use Rattle.tv_query.specs.declared.query.Step.TheVariants as steps
use Rattle.tv_query.specs.declared.selection.Selection.{Selection}

pub data QueryTree : Type 0 where
  selecting : Selection → QueryTree
  negation : QueryTree → QueryTree
  both either : QueryTree → QueryTree → QueryTree

-- what the tokens are: an operand, operands with `AND` between them, or these with `OR` between them
pub data Level : Type 0 where
  factor all any : Level

pub data WritesQuery (schema : List Entry) : Level → List QueryToken → QueryTree → Type 0 where
  of_clause : {path : List ℕ} {wanted : WantedText} {selection : Selection}
      → Selects schema path wanted selection → WritesQuery schema factor (clause path wanted ∷ [])
      (selecting selection)
  in_parentheses : {tokens : List QueryToken} {tree : QueryTree} → WritesQuery schema any tokens tree
      → WritesQuery schema factor (opened ∷ (tokens ++ closed ∷ [])) tree
  not_of : {tokens : List QueryToken} {tree : QueryTree} → WritesQuery schema factor tokens tree
      → WritesQuery schema factor (not_word ∷ tokens) (negation tree)
  one_factor : {tokens : List QueryToken} {tree : QueryTree} → WritesQuery schema factor tokens tree
      → WritesQuery schema all tokens tree
  and_of : {first second : List QueryToken} {left right : QueryTree} → WritesQuery schema all first left
      → WritesQuery schema factor second right → WritesQuery schema all (first ++ and_word ∷ second)
      (both left right)
  all_alone : {tokens : List QueryToken} {tree : QueryTree} → WritesQuery schema all tokens tree
      → WritesQuery schema any tokens tree
  or_of : {first second : List QueryToken} {left right : QueryTree} → WritesQuery schema any first left
      → WritesQuery schema all second right → WritesQuery schema any (first ++ or_word ∷ second)
      (either left right)

abbrev pub steps_of : QueryTree → List Step
steps_of (selecting selection) = steps.Clause selection ∷ []
steps_of (negation tree) = steps_of tree ++ steps.Not ∷ []
steps_of (both left right) = steps_of left ++ (steps_of right ++ steps.And ∷ [])
steps_of (either left right) = steps_of left ++ (steps_of right ++ steps.Or ∷ [])

-- ---- which tokens may follow

-- what may come after some tokens: an operand or an operator, with this number of parentheses open
pub data ParserState : Type 0 where
  wants_operand wants_operator : ℕ → ParserState

-- the state after a token that may follow
abbrev pub after : ParserState → QueryToken → Option ParserState
after (wants_operand depth) opened = Some (wants_operand (depth + 1))
after (wants_operand depth) not_word = Some (wants_operand depth)
after (wants_operand depth) (clause path wanted) = Some (wants_operator depth)
after (wants_operator depth) and_word = Some (wants_operand depth)
after (wants_operator depth) or_word = Some (wants_operand depth)
after (wants_operator (suc depth)) closed = Some (wants_operator depth)
after state token = None

-- the state after tokens, each of which may follow those before it
abbrev pub after_all : ParserState → List QueryToken → Option ParserState
after_all state [] = Some state
after_all state (token ∷ tokens) = option_and_then (λ next. after_all next tokens) (after state token)
