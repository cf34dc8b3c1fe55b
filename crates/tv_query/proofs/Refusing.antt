-- Reasons for a token that is refused, and when want of memory may stand in their place.
use Rattle.std.proofs.Common.{◌≡◌, ◌≢◌, ℕ, List, [], length, None, Result, Err, IfErr, arith, subst, ap}
use Rattle.tv_field.specs.Entry.{Entry}
use Rattle.tv_indexing.specs.Tells.{Tells}
use Rattle.tv_query.specs.Grammar.{ParserState, after, wants_operand, wants_operator}
use Rattle.tv_query.specs.Refusals.{RefusesEnd, RefusesNext, RefusesRest, RefusesTaken, RefusesToken, TakesMemoryAfter, ended, misplaced, no_path, no_place, no_token, quoted_alone, refused, unquoted_path, wants_nothing, word_alone}
use Rattle.tv_query.specs.Refusals.{RefusesWanted, nothing, unclosed, unquoted}
use Rattle.tv_query.specs.Selections.{RefusesClause, TakesMemory}
use Rattle.tv_query.specs.Tokens.{BeginsWithToken, QueryToken, WantedText, and_word, clause, closed, not_word, opened, or_word}
use Rattle.tv_query.specs.declared.query_error.QueryReason.{QueryReason}
use Rattle.tv_query.specs.declared.query_error.QueryReason.TheVariants.{Memory, Unclosed, Unopened}
use Rattle.tv_query.specs.declared.query_error.QueryReason.TheVariants as reasons
use Rattle.tv_query.proofs.OneToken.{no_refusal, one_token}
use Rattle.tv_query.proofs.Reading.{token_longer}

-- ---- a reason that holds, or want of memory

pub tells : {E : Type 0} (memory : E) (Takes Holds : E → Type 0) (e : E) → e ≢ memory → Holds e → Tells memory Takes Holds e
tells memory Takes Holds e other holds = (λ some. holds, λ is. absurd (other is))

tells_memory : {E : Type 0} (memory : E) (Takes Holds : E → Type 0) (e : E) → e ≡ memory → ((why : E) → Holds why → Takes why) → Tells memory Takes Holds e
tells_memory memory Takes Holds e is takes = (λ some. absurd (some is), λ also. takes)

pub memory_told : {T : Type 0} (r : Result T QueryReason) (y : QueryReason) (Takes Holds : QueryReason → Type 0) → r ≡ Err y → y ≡ Memory → ((why : QueryReason) → Holds why → Takes why) → IfErr r (Tells Memory Takes Holds)
memory_told r y Takes Holds is memory takes = rw is (tells_memory Memory Takes Holds y memory takes)

pub tells-weaker : {E : Type 0} (memory : E) (Takes May Holds Is : E → Type 0) (e : E) → (Holds e → Is e) → (((why : E) → Holds why → Takes why) → (why : E) → Is why → May why) → Tells memory Takes Holds e → Tells memory May Is e
tells-weaker memory Takes May Holds Is e holds takes h = (λ some. holds (h.0 some), λ is. takes (h.1 is))

-- ---- a token that may follow

pub next_none : (state : ParserState) (token : QueryToken) (why : QueryReason) → RefusesNext state token why → after state token ≡ None
next_none (wants_operand depth) token why n = n.0
next_none (wants_operator depth) closed why n = ap (λ (d : ℕ). after (wants_operator d) closed) n.0
next_none (wants_operator depth) opened why n = n.0
next_none (wants_operator depth) and_word why n = n.0
next_none (wants_operator depth) or_word why n = n.0
next_none (wants_operator depth) not_word why n = n.0
next_none (wants_operator depth) (clause path wanted) why n = n.0

-- what a clause takes
pub takes_after : (schema : List Entry) (tokens : List QueryToken) (why : QueryReason) → TakesMemory schema why → TakesMemoryAfter schema tokens why
takes_after schema tokens (reasons.Clause e) t = t
takes_after schema tokens reasons.NoOperand t = absurd t
takes_after schema tokens reasons.NoOperator t = absurd t
takes_after schema tokens reasons.Unopened t = absurd t
takes_after schema tokens reasons.Unclosed t = absurd t
takes_after schema tokens reasons.NoColon t = absurd t
takes_after schema tokens reasons.NoPath t = absurd t
takes_after schema tokens reasons.NoText t = absurd t
takes_after schema tokens reasons.Unended t = absurd t
takes_after schema tokens reasons.NoPrefix t = absurd t
takes_after schema tokens reasons.Memory t = absurd t

module _ {schema : List Entry} where
  pub not_refused : (state : ParserState) (token : QueryToken) (why : QueryReason) → after state token ≢ None → ((path : List ℕ) (wanted : WantedText) → token ≢ clause path wanted) → RefusesTaken schema state token why → ⊥
  not_refused state token why follows other (misplaced n) = follows (next_none state token why n)
  not_refused state token why follows other (refused {path = p} {wanted = w} is may r) = other p w is

  pub clause_refused : (state : ParserState) (path : List ℕ) (wanted : WantedText) (why : QueryReason) → after state (clause path wanted) ≢ None → RefusesTaken schema state (clause path wanted) why → RefusesClause schema path wanted why
  clause_refused state path wanted why follows (misplaced n) = absurd (follows (next_none state (clause path wanted) why n))
  clause_refused state path wanted why follows (refused {path = p} {wanted = w} is may r) =
      let paths : p ≡ path = cc in
      let same : w ≡ wanted = cc in
      subst (λ (x : WantedText). RefusesClause schema path x why) same (subst (λ (x : List ℕ). RefusesClause schema x w why) paths r)

  pub closed_refused : (depth : ℕ) (why : QueryReason) → RefusesTaken schema (wants_operator depth) closed why → (why ≡ Unopened) × (depth ≡ 0)
  closed_refused depth why (misplaced n) = (n.1, n.0)
  closed_refused depth why (refused is may r) = absurd (cc)

  -- what stands where a token does is refused as that is
  pub token_refused_here : (state : ParserState) (text rest : List ℕ) (token : QueryToken) (why : QueryReason) → BeginsWithToken text token rest → RefusesRest schema state text why → RefusesTaken schema state token why
  token_refused_here state text rest token why begins (ended is e) = absurd (omega (arith, ap length is, token_longer text token rest begins))
  token_refused_here state text rest token why begins (no_token some r) = absurd (no_refusal text token rest why begins r)
  token_refused_here state text rest token why begins (no_place {token = t} {rest = r} b taken) =
      subst (λ (x : QueryToken). RefusesTaken schema state x why) (one_token text t token r rest b begins).0 taken

-- at the end of a text
pub end_told : (schema : List Entry) (state : ParserState) (text : List ℕ) (tokens : List QueryToken) (e : QueryReason) → text ≡ [] → Tells Memory (TakesMemoryAfter schema tokens) (RefusesEnd state) e → Tells Memory (TakesMemoryAfter schema tokens) (RefusesRest schema state text) e
end_told schema state text tokens e none h =
    tells-weaker Memory (TakesMemoryAfter schema tokens) (TakesMemoryAfter schema tokens) (RefusesEnd state) (RefusesRest schema state text) e (ended none) (λ takes why r. takes why (refused_end schema state text why none r)) h
  where
    refused_end : (schema : List Entry) (state : ParserState) (text : List ℕ) (why : QueryReason) → text ≡ [] → RefusesRest schema state text why → RefusesEnd state why
    refused_end schema state text why none (ended is r) = r
    refused_end schema state text why none (no_token some r) = absurd (some none)
    refused_end schema state text why none (no_place {token = t} {rest = r} begins taken) = absurd (omega (arith, ap length none, token_longer text t r begins))

-- ---- no reason of a token is for want of memory

wanted_memory : (text : List ℕ) (reason : QueryReason) → RefusesWanted text reason → reason ≢ Memory
wanted_memory text _ (nothing n e) = λ e. cc
wanted_memory text _ (unquoted u) = λ e. cc
wanted_memory text _ (unclosed u) = λ e. cc

pub token_memory : (text : List ℕ) (reason : QueryReason) → RefusesToken text reason → reason ≢ Memory
token_memory text _ (no_path is) = λ e. cc
token_memory text _ (unquoted_path u) = λ e. cc
token_memory text _ (quoted_alone q n) = λ e. cc
token_memory text _ (word_alone o n) = λ e. cc
token_memory text _ (wants_nothing {rest = r} {reason = e} b w) = wanted_memory r e w
