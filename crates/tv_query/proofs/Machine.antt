-- Tokens write one query: those that the grammar allows match the same documents.
use Rattle.std.proofs.Common.{◌≡◌, ◌↔◌, ◌⊎◌, ◌+◌, ◌<◌, ℕ, zero, suc, List, [], ◌∷◌, ◌++◌, length, Ok, arith, refl, sym, subst, ap, ◌∙◌, inl, inr}
use Rattle.std.specs.List.{AllByRecursion, Contains}
use Rattle.tv_field.specs.Entry.{Entry}
use Rattle.tv_indexing.specs.Agree.{IsSomeTerm}
use Rattle.tv_indexing.proofs.OneRange.{any_cons, any_rest}
use Rattle.tv_query.specs.Grammar.{Level, QueryTree, WritesQuery, all, all_alone, and_of, any, both, either, factor, in_parentheses, negation, not_of, of_clause, one_factor, or_of, selecting}
use Rattle.tv_query.specs.Matching.{Matches}
use Rattle.tv_query.specs.SameQuery.{MatchSame, SelectSame}
use Rattle.tv_query.specs.Selections.{HasWanted, IsWanted, Selects}
use Rattle.tv_query.specs.Tokens.{QueryToken, WantedText, and_word, clause, closed, not_word, opened, or_word}
use Rattle.tv_query.specs.declared.parser.Operator.{Operator}
use Rattle.tv_query.specs.declared.parser.Operator.TheVariants.{And, Not, Open, Or}
use Rattle.tv_query.specs.declared.selection.Selection.{Selection}
use Rattle.tv_query.proofs.OneClause.{clause_one}

-- ---- a query without what its clauses select

data Shape : Type 0 where
  wants : List ℕ → WantedText → Shape
  inverted : Shape → Shape
  all_of one_of : Shape → Shape → Shape

-- the tree has this shape
abbrev Fills : List Entry → Shape → QueryTree → Type 0
Fills schema (wants path wanted) (selecting selection) = Selects schema path wanted selection
Fills schema (inverted shape) (negation tree) = Fills schema shape tree
Fills schema (all_of left right) (both one other) = Fills schema left one × Fills schema right other
Fills schema (one_of left right) (either one other) = Fills schema left one × Fills schema right other
Fills schema shape tree = ⊥

same_wanted : (term : List ℕ) (a b : Selection) → IsSomeTerm term → SelectSame a b → IsWanted a term → IsWanted b term
same_wanted term a b some same (inl exact) = inl (subst (λ (l : List (List ℕ)). Contains l term) same.1 exact)
same_wanted term a b some same (inr ranged) = inr ((same.2 term some).0 ranged)

mirrored : (a b : Selection) → SelectSame a b → SelectSame b a
mirrored a b same = (sym same.0, sym same.1, λ term some. ((same.2 term some).1, (same.2 term some).0))

wanted_on : (terms : List (List ℕ)) (a b : Selection) → AllByRecursion IsSomeTerm terms → SelectSame a b → HasWanted terms a → HasWanted terms b
wanted_on [] a b some same h = absurd (omega (arith, h.2))
wanted_on (t ∷ ts) a b some same h = elim (any_cons (IsWanted a) t ts h) [
  | inl w ↦ (zero, t, omega arith, refl, same_wanted t a b some.0 same w)
  | inr r ↦ any_rest (IsWanted b) t ts (wanted_on ts a b some.1 same r)
]

same_selections : (terms : List (List ℕ)) (path : List ℕ) (wanted : WantedText) (a b : Selection) → SelectSame a b → AllByRecursion IsSomeTerm terms → HasWanted terms a ↔ HasWanted terms b
same_selections terms path wanted a b same some = (wanted_on terms a b some same, wanted_on terms b a some (mirrored a b same))

-- trees of one shape match the same documents
alike : (schema : List Entry) (shape : Shape) (tree other : QueryTree) → Fills schema shape tree → Fills schema shape other → MatchSame tree other
alike schema (wants path wanted) (selecting a) (selecting b) x y terms some = same_selections terms path wanted a b (clause_one schema path wanted (Ok a) (Ok b) x y) some
alike schema (wants path wanted) (selecting a) (negation v) x y terms some = absurd y
alike schema (wants path wanted) (selecting a) (both v w) x y terms some = absurd y
alike schema (wants path wanted) (selecting a) (either v w) x y terms some = absurd y
alike schema (wants path wanted) (negation t) other x y terms some = absurd x
alike schema (wants path wanted) (both t u) other x y terms some = absurd x
alike schema (wants path wanted) (either t u) other x y terms some = absurd x
alike schema (inverted shape) (selecting a) other x y terms some = absurd x
alike schema (inverted shape) (negation t) (selecting b) x y terms some = absurd y
alike schema (inverted shape) (negation t) (negation v) x y terms some = let h = alike schema shape t v x y terms some in (λ not_t is. not_t (h.1 is), λ not_v is. not_v (h.0 is))
alike schema (inverted shape) (negation t) (both v w) x y terms some = absurd y
alike schema (inverted shape) (negation t) (either v w) x y terms some = absurd y
alike schema (inverted shape) (both t u) other x y terms some = absurd x
alike schema (inverted shape) (either t u) other x y terms some = absurd x
alike schema (all_of left right) (selecting a) other x y terms some = absurd x
alike schema (all_of left right) (negation t) other x y terms some = absurd x
alike schema (all_of left right) (both t u) (selecting b) x y terms some = absurd y
alike schema (all_of left right) (both t u) (negation v) x y terms some = absurd y
alike schema (all_of left right) (both t u) (both v w) x y terms some = let h = alike schema left t v x.0 y.0 terms some in let k = alike schema right u w x.1 y.1 terms some in (λ m. (h.0 m.0, k.0 m.1), λ m. (h.1 m.0, k.1 m.1))
alike schema (all_of left right) (both t u) (either v w) x y terms some = absurd y
alike schema (all_of left right) (either t u) other x y terms some = absurd x
alike schema (one_of left right) (selecting a) other x y terms some = absurd x
alike schema (one_of left right) (negation t) other x y terms some = absurd x
alike schema (one_of left right) (both t u) other x y terms some = absurd x
alike schema (one_of left right) (either t u) (selecting b) x y terms some = absurd y
alike schema (one_of left right) (either t u) (negation v) x y terms some = absurd y
alike schema (one_of left right) (either t u) (both v w) x y terms some = absurd y
alike schema (one_of left right) (either t u) (either v w) x y terms some = let h = alike schema left t v x.0 y.0 terms some in let k = alike schema right u w x.1 y.1 terms some in (λ m. elim m [ inl l ↦ inl (h.0 l) | inr r ↦ inr (k.0 r) ], λ m. elim m [ inl l ↦ inl (h.1 l) | inr r ↦ inr (k.1 r) ])

-- ---- a machine that reads tokens: the operators that wait and the operands, the last of each first

data Machine : Type 0 where
  holding : List Operator → List Shape → Machine

abbrev take_nots : List Operator → List Shape → Machine
take_nots (Not ∷ operators) (shape ∷ shapes) = take_nots operators (inverted shape ∷ shapes)
take_nots operators shapes = holding operators shapes

abbrev take_and : Machine → Machine
take_and (holding (And ∷ operators) (right ∷ (left ∷ shapes))) = holding operators (all_of left right ∷ shapes)
take_and machine = machine

abbrev take_or : Machine → Machine
take_or (holding (Or ∷ operators) (right ∷ (left ∷ shapes))) = holding operators (one_of left right ∷ shapes)
take_or machine = machine

abbrev put : Operator → Machine → Machine
put operator (holding operators shapes) = holding (operator ∷ operators) shapes

abbrev close : Machine → Machine
close (holding (Open ∷ operators) shapes) = take_nots operators shapes
close machine = machine

abbrev want : List ℕ → WantedText → Machine → Machine
want path wanted (holding operators shapes) = take_nots operators (wants path wanted ∷ shapes)

abbrev step : QueryToken → Machine → Machine
step opened machine = put Open machine
step not_word machine = put Not machine
step and_word machine = put And (take_and machine)
step or_word machine = put Or (take_or (take_and machine))
step closed machine = close (take_or (take_and machine))
step (clause path wanted) machine = want path wanted machine

abbrev run : List QueryToken → Machine → Machine
run [] machine = machine
run (token ∷ tokens) machine = run tokens (step token machine)

run_on : (xs ys : List QueryToken) (machine : Machine) → run (xs ++ ys) machine ≡ run ys (run xs machine)
run_on [] ys machine = refl
run_on (x ∷ xs) ys machine = run_on xs ys (step x machine)

-- no `NOT` and no `AND` stands last, and no `OR`
abbrev EndsAll : List Operator → Type 0
EndsAll (Not ∷ operators) = ⊥
EndsAll (And ∷ operators) = ⊥
EndsAll operators = Unit {0}

abbrev EndsAny : List Operator → Type 0
EndsAny (Not ∷ operators) = ⊥
EndsAny (And ∷ operators) = ⊥
EndsAny (Or ∷ operators) = ⊥
EndsAny operators = Unit {0}

any_all : (operators : List Operator) → EndsAny operators → EndsAll operators
any_all [] ends = tt
any_all (Open ∷ operators) ends = tt
any_all (Not ∷ operators) ends = absurd ends
any_all (And ∷ operators) ends = absurd ends
any_all (Or ∷ operators) ends = absurd ends

no_nots : (operators : List Operator) (shape : Shape) (shapes : List Shape) → EndsAll operators → take_and (take_nots operators (shape ∷ shapes)) ≡ holding operators (shape ∷ shapes)
no_nots [] shape shapes ends = refl
no_nots (Open ∷ operators) shape shapes ends = refl
no_nots (Not ∷ operators) shape shapes ends = absurd ends
no_nots (And ∷ operators) shape shapes ends = absurd ends
no_nots (Or ∷ operators) shape shapes ends = refl

no_or : (operators : List Operator) (shapes : List Shape) → EndsAny operators → take_or (holding operators shapes) ≡ holding operators shapes
no_or [] shapes ends = refl
no_or (Open ∷ operators) shapes ends = refl
no_or (Not ∷ operators) shapes ends = absurd ends
no_or (And ∷ operators) shapes ends = absurd ends
no_or (Or ∷ operators) shapes ends = absurd ends

abbrev Runs : Level → List QueryToken → Shape → Type 0
Runs factor tokens shape = (operators : List Operator) (shapes : List Shape) → run tokens (holding operators shapes) ≡ take_nots operators (shape ∷ shapes)
Runs all tokens shape = (operators : List Operator) (shapes : List Shape) → EndsAll operators → take_and (run tokens (holding operators shapes)) ≡ holding operators (shape ∷ shapes)
Runs any tokens shape = (operators : List Operator) (shapes : List Shape) → EndsAny operators → take_or (take_and (run tokens (holding operators shapes))) ≡ holding operators (shape ∷ shapes)

abbrev Shaped : List Entry → Level → List QueryToken → QueryTree → Type 0
Shaped schema level tokens tree = (shape : Shape) × Fills schema shape tree × Runs level tokens shape

shaped : (schema : List Entry) (level : Level) (tokens : List QueryToken) (tree : QueryTree) → WritesQuery schema level tokens tree → Shaped schema level tokens tree
shaped schema _ _ _ (of_clause {path = p} {wanted = w} selects) = (wants p w, selects, λ operators shapes. refl)
shaped schema _ _ _ (in_parentheses {tokens = ts} {tree = t} w) =
    let s = shaped schema any ts t w in
    (s.0, s.1, λ operators shapes. run_on ts (closed ∷ []) (holding (Open ∷ operators) shapes) ∙ ap close (s.2 (Open ∷ operators) shapes tt))
shaped schema _ _ _ (not_of {tokens = ts} {tree = t} w) = let s = shaped schema factor ts t w in (inverted s.0, s.1, λ operators shapes. s.2 (Not ∷ operators) shapes)
shaped schema _ _ _ (one_factor {tokens = ts} {tree = t} w) =
    let s = shaped schema factor ts t w in (s.0, s.1, λ operators shapes ends. ap take_and (s.2 operators shapes) ∙ no_nots operators s.0 shapes ends)
shaped schema _ _ _ (and_of {first = xs} {second = ys} {left = l} {right = r} v w) =
    let a = shaped schema all xs l v in
    let b = shaped schema factor ys r w in (
      all_of a.0 b.0,
      (a.1, b.1),
      λ operators shapes ends.
          ap take_and (run_on xs (and_word ∷ ys) (holding operators shapes) ∙ ap (λ (m : Machine). run ys (put And m)) (a.2 operators shapes ends) ∙ b.2 (And ∷ operators) (a.0 ∷ shapes)),
    )
shaped schema _ _ _ (all_alone {tokens = ts} {tree = t} w) =
    let s = shaped schema all ts t w in (s.0, s.1, λ operators shapes ends. ap take_or (s.2 operators shapes (any_all operators ends)) ∙ no_or operators (s.0 ∷ shapes) ends)
shaped schema _ _ _ (or_of {first = xs} {second = ys} {left = l} {right = r} v w) =
    let a = shaped schema any xs l v in
    let b = shaped schema all ys r w in (
      one_of a.0 b.0,
      (a.1, b.1),
      λ operators shapes ends.
          ap (λ (m : Machine). take_or (take_and m)) (run_on xs (or_word ∷ ys) (holding operators shapes) ∙ ap (λ (m : Machine). run ys (put Or m)) (a.2 operators shapes ends))
          ∙ ap take_or (b.2 (Or ∷ operators) (a.0 ∷ shapes) tt),
    )

pub tokens_one : (schema : List Entry) (tokens : List QueryToken) (tree other : QueryTree) → WritesQuery schema any tokens tree → WritesQuery schema any tokens other → MatchSame tree other
tokens_one schema tokens tree other v w =
    let a = shaped schema any tokens tree v in
    let b = shaped schema any tokens other w in
    let same : holding [] (a.0 ∷ []) ≡ holding [] (b.0 ∷ []) = sym (a.2 [] [] tt) ∙ b.2 [] [] tt in
    let shape : b.0 ≡ a.0 = cc in
    alike schema a.0 tree other a.1 (subst (λ (s : Shape). Fills schema s other) shape b.1)
