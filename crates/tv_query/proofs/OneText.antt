-- A text writes one query, or is refused for one reason at one place.
use Rattle.std.proofs.Common.{◌≡◌, ◌≢◌, ◌+◌, ℕ, List, [], ◌∷◌, ◌++◌, Option, Some, None, Err, length, append-nil, arith, refl, sym, subst, ap, ◌∙◌, ◌⊎◌, inl, inr}
use Rattle.std.specs.List.{AllByRecursion}
use Rattle.tv_field.specs.Entry.{Entry}
use Rattle.tv_query.specs.Grammar.{ParserState, QueryTree, WritesQuery, after, after_all, any, wants_operand, wants_operator}
use Rattle.tv_query.specs.Refusals.{IsTaken, Refuses, RefusesEnd, RefusesNext, RefusesRest, RefusesTaken, ended, misplaced, no_place, no_token, refused}
use Rattle.tv_query.specs.SameQuery.{MatchSame, SaySameError, SaySameReason}
use Rattle.tv_query.specs.Selections.{RefusesClause}
use Rattle.tv_query.specs.Tokens.{BeginsWithTokens, IsSpace, QueryToken, WantedText, WritesTokens, and_word, clause, closed, not_word, opened, or_word}
use Rattle.tv_query.specs.declared.query_error.QueryError.{QueryError}
use Rattle.tv_query.specs.declared.query_error.QueryReason.{QueryReason}
use Rattle.tv_query.specs.declared.query_error.QueryReason.TheVariants.{Memory}
use Rattle.tv_query.specs.declared.query_error.QueryReason.TheVariants as reasons
use Rattle.tv_query.proofs.Machine.{tokens_one}
use Rattle.tv_query.proofs.OneClause.{clause_one, same_reason}
use Rattle.tv_query.proofs.OneQuery.{Leads, first_of, goes_on, leads, none_of, one_space, only_space, space_rest, token_unspaced}
use Rattle.tv_query.proofs.OneToken.{no_refusal, one_reason, one_token}
use Rattle.tv_query.proofs.Reading.{token_longer}
use Rattle.tv_query.proofs.Refusing.{next_none}

-- ---- a text is one list of tokens

all_led : (text : List ℕ) (xs ys : List QueryToken) (v : WritesTokens text xs) (w : WritesTokens text ys) (more : List QueryToken) → ys ≡ xs ++ more → BeginsWithTokens v.0 more w.0 → xs ≡ ys
all_led text xs ys v w [] is begins = sym (is ∙ append-nil xs)
all_led text xs ys v w (t ∷ more) is begins =
    let f = first_of v.0 t more w.0 begins in
    let none = only_space f.1 (space_rest f.0 f.1 (subst IsSpace f.3 v.2)) (token_unspaced f.1 t f.2 f.5) in
    absurd (omega (arith, ap length none, token_longer f.1 t f.2 f.5))

written_by : (text : List ℕ) (xs ys : List QueryToken) (v : WritesTokens text xs) (w : WritesTokens text ys) → Leads xs ys v.0 w.0 ⊎ Leads ys xs w.0 v.0 → xs ≡ ys
written_by text xs ys v w (inl l) = all_led text xs ys v w l.0 l.1 l.2
written_by text xs ys v w (inr l) = sym (all_led text ys xs w v l.0 l.1 l.2)

tokens_of_one : (text : List ℕ) (xs ys : List QueryToken) → WritesTokens text xs → WritesTokens text ys → xs ≡ ys
tokens_of_one text xs ys v w = written_by text xs ys v w (leads text text xs ys v.0 w.0 refl v.1 w.1)

pub query_one : (schema : List Entry) (text : List ℕ) (xs ys : List QueryToken) (tree other : QueryTree) → WritesTokens text xs → WritesQuery schema any xs tree → WritesTokens text ys → WritesQuery schema any ys other → MatchSame tree other
query_one schema text xs ys tree other v writes w also =
    tokens_one schema xs tree other writes (subst (λ (l : List QueryToken). WritesQuery schema any l other) (sym (tokens_of_one text xs ys v w)) also)

-- ---- a text is refused once

pub end_one : (state : ParserState) (a b : QueryReason) → RefusesEnd state a → RefusesEnd state b → a ≡ b
end_one (wants_operand depth) a b x y = x ∙ sym y
end_one (wants_operator depth) a b x y = x.1 ∙ sym y.1

next_one : (state : ParserState) (token : QueryToken) (a b : QueryReason) → RefusesNext state token a → RefusesNext state token b → a ≡ b
next_one (wants_operand depth) token a b x y = x.1 ∙ sym y.1
next_one (wants_operator depth) closed a b x y = x.1 ∙ sym y.1
next_one (wants_operator depth) opened a b x y = x.1 ∙ sym y.1
next_one (wants_operator depth) and_word a b x y = x.1 ∙ sym y.1
next_one (wants_operator depth) or_word a b x y = x.1 ∙ sym y.1
next_one (wants_operator depth) not_word a b x y = x.1 ∙ sym y.1
next_one (wants_operator depth) (clause path wanted) a b x y = x.1 ∙ sym y.1

clause_of_one : (schema : List Entry) (path other : List ℕ) (wanted also : WantedText) (a b : QueryReason) → clause path wanted ≡ clause other also → RefusesClause schema path wanted a → RefusesClause schema other also b → SaySameReason a b
clause_of_one schema path other wanted also a b is x y =
    let paths : other ≡ path = cc in
    let same : also ≡ wanted = cc in
    clause_one schema path wanted (Err a) (Err b) x (subst (λ (w : WantedText). RefusesClause schema path w b) same (subst (λ (p : List ℕ). RefusesClause schema p also b) paths y))

pub taken_one : (schema : List Entry) (state : ParserState) (token : QueryToken) (a b : QueryReason) → RefusesTaken schema state token a → RefusesTaken schema state token b → SaySameReason a b
taken_one schema state token a b (misplaced x) (misplaced y) = same_reason a b (next_one state token a b x y)
taken_one schema state token a b (misplaced x) (refused is may y) = absurd (may (next_none state token a x))
taken_one schema state token a b (refused is may x) (misplaced y) = absurd (may (next_none state token b y))
taken_one schema state token a b (refused {path = p} {wanted = w} is may x) (refused {path = q} {wanted = u} also can y) = clause_of_one schema p q w u a b (sym is ∙ also) x y

rest_one : (schema : List Entry) (state : ParserState) (text : List ℕ) (a b : QueryReason) → RefusesRest schema state text a → RefusesRest schema state text b → SaySameReason a b
rest_one schema state text a b (ended is x) (ended also y) = same_reason a b (end_one state a b x y)
rest_one schema state text a b (ended is x) (no_token some y) = absurd (some is)
rest_one schema state text a b (ended is x) (no_place {token = t} {rest = r} begins y) = absurd (omega (arith, ap length is, token_longer text t r begins))
rest_one schema state text a b (no_token some x) (ended is y) = absurd (some is)
rest_one schema state text a b (no_token some x) (no_token also y) = same_reason a b (one_reason text a b x y)
rest_one schema state text a b (no_token some x) (no_place {token = t} {rest = r} begins y) = absurd (no_refusal text t r a begins x)
rest_one schema state text a b (no_place {token = t} {rest = r} begins x) (ended is y) = absurd (omega (arith, ap length is, token_longer text t r begins))
rest_one schema state text a b (no_place {token = t} {rest = r} begins x) (no_token some y) = absurd (no_refusal text t r b begins y)
rest_one schema state text a b (no_place {token = t} {rest = r} begins x) (no_place {token = u} {rest = l} also y) =
    taken_one schema state t a b x (subst (λ (z : QueryToken). RefusesTaken schema state z b) (one_token text u t l r also begins).0 y)

abbrev Both : QueryError → QueryError → Type 0
Both a b = SaySameError a b × SaySameError b a

module _ (schema : List Entry) (text : List ℕ) where
  refused_led : (a b : QueryError) (r : Refuses schema text a) (q : Refuses schema text b) → a.reason ≢ Memory → b.reason ≢ Memory → (more : List QueryToken) → q.tokens ≡ r.tokens ++ more → BeginsWithTokens (r.space ++ r.rest) more (q.space ++ q.rest)
      → Both a b
  refused_led a b r q some also [] is begins =
      let tokens : q.tokens ≡ r.tokens = is ∙ append-nil r.tokens in
      let rest : r.rest ≡ q.rest = one_space r.space q.space r.rest q.rest r.is_space q.is_space r.no_space q.no_space (none_of (r.space ++ r.rest) (q.space ++ q.rest) begins) in
      let states : ◌≡◌ {A = Option ParserState} (Some q.state) (Some r.state) = sym q.follow ∙ ap (after_all (wants_operand 0)) tokens ∙ r.follow in
      let state : q.state ≡ r.state = cc in
      let place : a.place ≡ b.place = omega (arith, r.place, q.place, ap length rest) in
      let here = subst (λ (s : ParserState). RefusesRest schema s r.rest b.reason) state (subst (λ (l : List ℕ). RefusesRest schema q.state l b.reason) (sym rest) (q.reason.0 also)) in
      ((place, rest_one schema r.state r.rest a.reason b.reason (r.reason.0 some) here), (sym place, rest_one schema r.state r.rest b.reason a.reason here (r.reason.0 some)))
  refused_led a b r q some also (t ∷ more) is begins =
      absurd (goes_on r t more (q.space ++ q.rest) q.state a.reason begins (subst (λ (l : List QueryToken). after_all (wants_operand 0) l ≡ Some q.state) is q.follow) (subst (AllByRecursion (IsTaken schema)) is q.taken) (r.reason.0 some))

  pub error_of_one : (a b : QueryError) → Refuses schema text a → Refuses schema text b → a.reason ≢ Memory → b.reason ≢ Memory → SaySameError a b
  error_of_one a b r q some also = elim (leads text text r.tokens q.tokens (r.space ++ r.rest) (q.space ++ q.rest) refl r.begins q.begins) [
    | inl l ↦ (refused_led a b r q some also l.0 l.1 l.2).0
    | inr l ↦ (refused_led b a q r also some l.0 l.1 l.2).1
  ]
