-- How far a text was read.
use Rattle.std.proofs.Common.{◌≡◌, ◌≢◌, ℕ, zero, suc, ◌+◌, ◌<◌, ◌≤◌, List, [], ◌∷◌, ◌++◌, length, take, drop, get_or, Bool, true, false, MatchBool, if◌then◌else◌, Option, Some, None, option_and_then, refl, sym, subst, ap, ◌∙◌, arith, add-one}
use Rattle.std.proofs.lemmas.List.{take-append-drop, length-append}
use Rattle.std.specs.Char.{is_ascii_whitespace}
use Rattle.std.specs.List.{AllByRecursion}
use Rattle.std.specs.Str.{IsTrimAsciiStart}
use Rattle.tv_field.specs.Entry.{Entry}
use Rattle.tv_query.specs.Grammar.{Level, ParserState, QueryTree, WritesQuery, after, after_all, factor, wants_operand, wants_operator}
use Rattle.tv_query.specs.Grammar.{all_alone, and_of, in_parentheses, not_of, of_clause, one_factor, or_of}
use Rattle.tv_query.specs.Parsing.{Awaits, Follows, IsAt, after_and, after_not, after_open, after_or, at_start, state_of}
use Rattle.tv_query.specs.Refusals.{IsTaken, Refuses, RefusesRest, TakesMemoryAfter}
use Rattle.tv_indexing.specs.Tells.{Tells}
use Rattle.tv_query.specs.declared.query_error.QueryReason.TheVariants.{Memory}
use Rattle.tv_query.specs.Tokens.{BeginsWithPath, BeginsWithToken, BeginsWithTokens, BeginsWithWanted, BeginsWithout, IsSpace, QueryToken, and_word, closed, no_tokens, next_token, not_word, opened, or_word, star}
use Rattle.tv_query.specs.Tokens.{IsQuoted, WantedText, all, bare, bracketed, closes, opens, operates, quoted, quoted_prefix, quoted_text, selects, word_prefix, word_text}
use Rattle.tv_query.specs.declared.parser.Operator.{Operator}
use Rattle.tv_query.specs.declared.parser.Parser.{Parser}
use Rattle.tv_query.specs.declared.query.Step.{Step}
use Rattle.tv_query.specs.declared.query_error.QueryError.{QueryError}

-- ---- white space

space_before : (s : List ℕ) (n : ℕ) → ((k : ℕ) → k < n → is_ascii_whitespace (get_or s k 0) ≡ true) → IsSpace (take n s)
space_before s zero each = tt
space_before [] (suc n) each = tt
space_before (x ∷ xs) (suc n) each = (each 0 (omega arith), space_before xs n (λ k lt. each (suc k) (omega arith)))

no_space_at : (s : List ℕ) (n : ℕ) → (n < length s → is_ascii_whitespace (get_or s n 0) ≡ false) → BeginsWithout is_ascii_whitespace (drop n s)
no_space_at [] zero ended = tt
no_space_at (x ∷ xs) zero ended = ended (omega arith)
no_space_at [] (suc n) ended = tt
no_space_at (x ∷ xs) (suc n) ended = no_space_at xs n (λ lt. ended (omega arith))

pub record Trimmed (text rest : List ℕ) : Type 0 where
  pub space : List ℕ
  pub text_is : text ≡ space ++ rest
  pub is_space : IsSpace space
  pub no_space : BeginsWithout is_ascii_whitespace rest

pub trimmed : (text rest : List ℕ) → IsTrimAsciiStart text rest → Trimmed text rest
trimmed text rest t = record {
  space = take t.0 text;
  text_is = sym (ap (λ (l : List ℕ). take t.0 text ++ l) t.1 ∙ take-append-drop t.0 text);
  is_space = space_before text t.0 t.3;
  no_space = subst (BeginsWithout is_ascii_whitespace) (sym t.1) (no_space_at text t.0 t.4);
}

-- ---- tokens

pub begins_more : (text : List ℕ) (before : List QueryToken) (left : List ℕ) (space rest after : List ℕ) (token : QueryToken) → BeginsWithTokens text before left → left ≡ space ++ rest → IsSpace space → BeginsWithToken rest token after
    → BeginsWithTokens text (before ++ token ∷ []) after
begins_more _ _ _ space rest after token (no_tokens {text = t}) is is_space begins = subst (λ (l : List ℕ). BeginsWithTokens l (token ∷ []) after) (sym is) (next_token space is_space begins no_tokens)
begins_more _ _ _ space rest after token (next_token sp first_space first more) is is_space begins = next_token sp first_space first (begins_more _ _ _ space rest after token more is is_space begins)

-- ---- states

chained : (o : Option ParserState) (xs ys : List QueryToken) (m : ParserState) (r : Option ParserState) → option_and_then (λ next. after_all next xs) o ≡ Some m → after_all m ys ≡ r → ((n : ParserState) → after_all n xs ≡ Some m → after_all n (xs ++ ys) ≡ r)
    → option_and_then (λ next. after_all next (xs ++ ys)) o ≡ r
chained None xs ys m r is rest more = absurd (cc)
chained (Some n) xs ys m r is rest more = more n is

pub states_on : (xs ys : List QueryToken) (s m : ParserState) (r : Option ParserState) → after_all s xs ≡ Some m → after_all m ys ≡ r → after_all s (xs ++ ys) ≡ r
states_on [] ys s m r is rest = let same : s ≡ m = cc in subst (λ (t : ParserState). after_all t ys ≡ r) (sym same) rest
states_on (x ∷ xs) ys s m r is rest = chained (after s x) xs ys m r is rest (λ n here. states_on xs ys n m r here rest)

closes_one : (depth : ℕ) → after_all (wants_operator (depth + 1)) (closed ∷ []) ≡ Some (wants_operator depth)
closes_one depth = rw add-one refl

module _ {schema : List Entry} where
  pub writes_state : (level : Level) (ts : List QueryToken) (tree : QueryTree) (depth : ℕ) → WritesQuery schema level ts tree → after_all (wants_operand depth) ts ≡ Some (wants_operator depth)
  writes_state _ _ _ depth (of_clause s) = refl
  writes_state _ _ _ depth (in_parentheses {tokens = ts} w) = states_on ts (closed ∷ []) (wants_operand (depth + 1)) (wants_operator (depth + 1)) (Some (wants_operator depth)) (writes_state _ _ _ (depth + 1) w) (closes_one depth)
  writes_state _ _ _ depth (not_of w) = writes_state _ _ _ depth w
  writes_state _ _ _ depth (one_factor w) = writes_state _ _ _ depth w
  writes_state _ _ _ depth (and_of {first = f} {second = s} v w) = states_on f (and_word ∷ s) (wants_operand depth) (wants_operator depth) (Some (wants_operator depth)) (writes_state _ _ _ depth v) (writes_state _ _ _ depth w)
  writes_state _ _ _ depth (all_alone w) = writes_state _ _ _ depth w
  writes_state _ _ _ depth (or_of {first = f} {second = s} v w) = states_on f (or_word ∷ s) (wants_operand depth) (wants_operator depth) (Some (wants_operator depth)) (writes_state _ _ _ depth v) (writes_state _ _ _ depth w)

  awaits_state : (operators : List Operator) (ts : List QueryToken) (written : List Step) (depth : ℕ) → Awaits schema operators ts written depth → after_all (wants_operand 0) ts ≡ Some (wants_operand depth)
  awaits_state _ _ _ _ at_start = refl
  awaits_state _ _ _ _ (after_open {tokens = ts} {depth = d} w) = states_on ts (opened ∷ []) (wants_operand 0) (wants_operand d) (Some (wants_operand (d + 1))) (awaits_state _ _ _ _ w) refl
  awaits_state _ _ _ _ (after_not {tokens = ts} {depth = d} w) = states_on ts (not_word ∷ []) (wants_operand 0) (wants_operand d) (Some (wants_operand d)) (awaits_state _ _ _ _ w) refl
  awaits_state _ _ _ _ (after_and {tokens = ts} {depth = d} operand tree w without_not without_and writes) =
      states_on ts (operand ++ and_word ∷ []) (wants_operand 0) (wants_operand d) (Some (wants_operand d)) (awaits_state _ _ _ _ w)
      (states_on operand (and_word ∷ []) (wants_operand d) (wants_operator d) (Some (wants_operand d)) (writes_state _ _ _ d writes) refl)
  awaits_state _ _ _ _ (after_or {tokens = ts} {depth = d} operand tree w without_not without_and without_or writes) =
      states_on ts (operand ++ or_word ∷ []) (wants_operand 0) (wants_operand d) (Some (wants_operand d)) (awaits_state _ _ _ _ w)
      (states_on operand (or_word ∷ []) (wants_operand d) (wants_operator d) (Some (wants_operand d)) (writes_state _ _ _ d writes) refl)

  follows_state : (level : Level) (operators : List Operator) (ts : List QueryToken) (written : List Step) (depth : ℕ) → Follows schema level operators ts written depth → after_all (wants_operand 0) ts ≡ Some (wants_operator depth)
  follows_state level operators ts written depth f =
      subst (λ (l : List QueryToken). after_all (wants_operand 0) l ≡ Some (wants_operator depth)) (sym f.tokens_are)
      (states_on f.before f.operand (wants_operand 0) (wants_operand depth) (Some (wants_operator depth)) (awaits_state operators f.before f.before_steps depth f.awaits) (writes_state level f.operand f.tree depth f.writes))

at_state : (schema : List Entry) (wants : Bool) (operators : List Operator) (ts : List QueryToken) (written : List Step) (depth : ℕ) (P : Type 0) → MatchBool wants (Awaits schema operators ts written depth) (Follows schema factor operators ts written depth × P)
    → after_all (wants_operand 0) ts ≡ Some (if wants then wants_operand depth else wants_operator depth)
at_state schema true operators ts written depth P at = awaits_state operators ts written depth at
at_state schema false operators ts written depth P at = follows_state factor operators ts written depth at.0

-- ---- clauses

taken_on : (schema : List Entry) (xs ys : List QueryToken) → AllByRecursion (IsTaken schema) xs → AllByRecursion (IsTaken schema) ys → AllByRecursion (IsTaken schema) (xs ++ ys)
taken_on schema [] ys xs_taken ys_taken = ys_taken
taken_on schema (x ∷ xs) ys xs_taken ys_taken = (xs_taken.0, taken_on schema xs ys xs_taken.1 ys_taken)

pub writes_taken : (schema : List Entry) (level : Level) (ts : List QueryToken) (tree : QueryTree) → WritesQuery schema level ts tree → AllByRecursion (IsTaken schema) ts
writes_taken schema _ _ _ (of_clause {selection = s} is) = ((s, is), tt)
writes_taken schema _ _ _ (in_parentheses {tokens = ts} w) = (tt, taken_on schema ts (closed ∷ []) (writes_taken schema _ _ _ w) (tt, tt))
writes_taken schema _ _ _ (not_of w) = (tt, writes_taken schema _ _ _ w)
writes_taken schema _ _ _ (one_factor w) = writes_taken schema _ _ _ w
writes_taken schema _ _ _ (and_of {first = f} {second = s} v w) = taken_on schema f (and_word ∷ s) (writes_taken schema _ _ _ v) (tt, writes_taken schema _ _ _ w)
writes_taken schema _ _ _ (all_alone w) = writes_taken schema _ _ _ w
writes_taken schema _ _ _ (or_of {first = f} {second = s} v w) = taken_on schema f (or_word ∷ s) (writes_taken schema _ _ _ v) (tt, writes_taken schema _ _ _ w)

awaits_taken : (schema : List Entry) (operators : List Operator) (ts : List QueryToken) (written : List Step) (depth : ℕ) → Awaits schema operators ts written depth → AllByRecursion (IsTaken schema) ts
awaits_taken schema _ _ _ _ at_start = tt
awaits_taken schema _ _ _ _ (after_open {tokens = ts} w) = taken_on schema ts (opened ∷ []) (awaits_taken schema _ _ _ _ w) (tt, tt)
awaits_taken schema _ _ _ _ (after_not {tokens = ts} w) = taken_on schema ts (not_word ∷ []) (awaits_taken schema _ _ _ _ w) (tt, tt)
awaits_taken schema _ _ _ _ (after_and {tokens = ts} operand tree w without_not without_and writes) =
    taken_on schema ts (operand ++ and_word ∷ []) (awaits_taken schema _ _ _ _ w) (taken_on schema operand (and_word ∷ []) (writes_taken schema _ _ _ writes) (tt, tt))
awaits_taken schema _ _ _ _ (after_or {tokens = ts} operand tree w without_not without_and without_or writes) =
    taken_on schema ts (operand ++ or_word ∷ []) (awaits_taken schema _ _ _ _ w) (taken_on schema operand (or_word ∷ []) (writes_taken schema _ _ _ writes) (tt, tt))

follows_taken : (schema : List Entry) (level : Level) (operators : List Operator) (ts : List QueryToken) (written : List Step) (depth : ℕ) → Follows schema level operators ts written depth → AllByRecursion (IsTaken schema) ts
follows_taken schema level operators ts written depth f =
    subst (AllByRecursion (IsTaken schema)) (sym f.tokens_are)
    (taken_on schema f.before f.operand (awaits_taken schema operators f.before f.before_steps depth f.awaits) (writes_taken schema level f.operand f.tree f.writes))

at_taken : (schema : List Entry) (wants : Bool) (operators : List Operator) (ts : List QueryToken) (written : List Step) (depth : ℕ) (P : Type 0) → MatchBool wants (Awaits schema operators ts written depth) (Follows schema factor operators ts written depth × P)
    → AllByRecursion (IsTaken schema) ts
at_taken schema true operators ts written depth P at = awaits_taken schema operators ts written depth at
at_taken schema false operators ts written depth P at = follows_taken schema factor operators ts written depth at.0

-- ---- so far

pub record ReadSoFar (schema : List Entry) (text : List ℕ) (parser : Parser) (rest : List ℕ) : Type 0 where
  pub tokens : List QueryToken
  pub space : List ℕ
  pub depth : ℕ
  pub begins : BeginsWithTokens text tokens (space ++ rest)
  pub is_space : IsSpace space
  pub no_space : BeginsWithout is_ascii_whitespace rest
  pub at : IsAt schema parser tokens depth

pub read_none : (schema : List Entry) (text : List ℕ) (parser : Parser) (rest : List ℕ) → IsTrimAsciiStart text rest → IsAt schema parser [] 0 → ReadSoFar schema text parser rest
read_none schema text parser rest trims at =
    let t = trimmed text rest trims in
    record { tokens = []; space = t.space; depth = 0; begins = subst (λ (l : List ℕ). BeginsWithTokens text [] l) t.text_is no_tokens; is_space = t.is_space; no_space = t.no_space; at = at }

module _ {schema : List Entry} {text : List ℕ} {parser : Parser} {rest : List ℕ} (r : ReadSoFar schema text parser rest) where
  pub read_more : {next : Parser} {left after : List ℕ} (token : QueryToken) → BeginsWithToken rest token left → IsTrimAsciiStart left after → (depth : ℕ) × IsAt schema next (r.tokens ++ token ∷ []) depth → ReadSoFar schema text next after
  read_more {next} {left} {after} token begins trims at =
      let t = trimmed left after trims in
      record {
        tokens = r.tokens ++ token ∷ [];
        space = t.space;
        depth = at.0;
        begins = begins_more text r.tokens (r.space ++ rest) r.space rest (t.space ++ after) token r.begins refl r.is_space (subst (BeginsWithToken rest token) t.text_is begins);
        is_space = t.is_space;
        no_space = t.no_space;
        at = at.1;
      }

  pub refuses_here : (error : QueryError) → error.place + length rest ≡ length text → Tells Memory (TakesMemoryAfter schema r.tokens) (RefusesRest schema (state_of parser r.depth) rest) error.reason → Refuses schema text error
  refuses_here error place reason = record {
    tokens = r.tokens;
    space = r.space;
    rest = rest;
    state = state_of parser r.depth;
    begins = r.begins;
    is_space = r.is_space;
    no_space = r.no_space;
    place = place;
    follow = at_state schema parser.wants_operand parser.operators.items r.tokens parser.steps.items r.depth _ r.at;
    taken = at_taken schema parser.wants_operand parser.operators.items r.tokens parser.steps.items r.depth _ r.at;
    reason = reason;
  }

-- ---- each token takes a byte or more

longer_by : (whole word rest : List ℕ) → whole ≡ word ++ rest → word ≢ [] → length rest < length whole
longer_by whole [] rest is some = absurd (some refl)
longer_by whole (b ∷ bs) rest is some = omega (arith, ap length is, length-append (b ∷ bs) rest)

no_longer : (whole word rest : List ℕ) → whole ≡ word ++ rest → length rest ≤ length whole
no_longer whole word rest is = omega (arith, ap length is, length-append word rest)

quoted_longer : (whole inner rest : List ℕ) → IsQuoted whole inner rest → length rest < length whole
quoted_longer whole inner rest q = omega (arith, ap length q.text_is, length-append inner (q.quote ∷ rest))

path_longer : (whole path rest : List ℕ) → BeginsWithPath whole path rest → length rest < length whole
path_longer whole path rest (bare up_to some) = omega (arith, no_longer whole path (58 ∷ rest) up_to.text_is)
path_longer whole path rest (quoted q) = omega (arith, quoted_longer whole path (58 ∷ rest) q)

wanted_longer : (whole : List ℕ) (wanted : WantedText) (rest : List ℕ) → BeginsWithWanted whole wanted rest → length rest ≤ length whole
wanted_longer whole _ _ (all {rest = r} up_to) = no_longer whole star r up_to.text_is
wanted_longer whole _ _ (bracketed {inner = i} {rest = r} b) = no_longer whole i r b.text_is
wanted_longer whole _ _ (quoted_prefix {inner = i} {rest = r} q) = omega (arith, quoted_longer whole i (42 ∷ r) q)
wanted_longer whole _ _ (quoted_text {inner = i} {rest = r} q without) = omega (arith, quoted_longer whole i r q)
wanted_longer whole _ _ (word_prefix {inner = i} {rest = r} w) = no_longer whole (i ++ star) r w.up_to.text_is
wanted_longer whole _ _ (word_text {word = w} {rest = r} b other) = no_longer whole w r b.up_to.text_is

pub token_longer : (whole : List ℕ) (token : QueryToken) (rest : List ℕ) → BeginsWithToken whole token rest → length rest < length whole
token_longer whole _ _ (opens {rest = r} is) = omega (arith, ap length is)
token_longer whole _ _ (closes {rest = r} is) = omega (arith, ap length is)
token_longer whole _ _ (operates {token = t} {word = w} {rest = r} o is) = longer_by whole w r o.up_to.text_is o.some
token_longer whole _ _ (selects {path = p} {middle = m} {rest = r} {wanted = w} begins wants) = omega (arith, path_longer whole p m begins, wanted_longer m w r wants)
