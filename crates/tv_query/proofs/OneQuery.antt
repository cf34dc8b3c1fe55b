-- A text is one query, or is refused for one reason at one place.
use Rattle.std.proofs.Common.{◌≡◌, ◌≢◌, ◌⊎◌, ◌++◌, ◌∷◌, ◌+◌, [], ℕ, Bool, true, false, List, MatchBool, Option, Some, None, Ok, Err, length, option_and_then, append-nil, arith, refl, sym, subst, ap, ◌∙◌, inl, inr}
use Rattle.std.proofs.lemmas.Bool.Decides.{nat_tests}
use Rattle.std.specs.Char.{is_ascii_whitespace}
use Rattle.std.specs.List.{AllByRecursion}
use Rattle.tv_field.specs.Entry.{Entry}
use Rattle.tv_field.specs.declared.field_type.FieldType.{FieldType}
use Rattle.tv_field.specs.declared.field_type.FieldType.TheVariants as types
use Rattle.tv_indexing.specs.IndexedField.{FoundField}
use Rattle.tv_indexing.specs.TextRange.{BelowInField}
use Rattle.tv_indexing.specs.TextTerms.{TermsInField}
use Rattle.tv_indexing.specs.declared.text_terms_error.TextTermsError.{TextTermsError}
use Rattle.tv_indexing.proofs.OneAnswer.{names_one, no_value, path_or_field, terms_one}
use Rattle.tv_indexing.proofs.OneRange.{ranges_of_text_one}
use Rattle.tv_indexing.specs.IndexedField.{indexed, refused as path_refused}
use Rattle.tv_query.specs.Grammar.{ParserState, QueryTree, WritesQuery, after, after_all, any, wants_operand, wants_operator}
use Rattle.tv_query.specs.Refusals.{IsTaken, Refuses, RefusesEnd, RefusesRest, RefusesTaken, ended, no_place, no_token}
use Rattle.tv_query.specs.Selections.{RefusesClause, RefusesInField, Selects, WantsInField, is_of_facets}
use Rattle.tv_query.specs.Tokens.{and_word, closed, not_word, opened, or_word, BeginsWithPath, BeginsWithToken, BeginsWithTokens, BeginsWithout, IsSpace, IsUpTo, QueryToken, WantedText, WritesTokens, bare, clause, closes, ends_path, is_quote, next_token, no_tokens, of_prefix, of_range, of_text, opens, operates, quoted, selects}
use Rattle.tv_query.specs.declared.query_error.QueryError.{QueryError}
use Rattle.tv_query.specs.declared.query_error.QueryReason.{QueryReason}
use Rattle.tv_query.specs.declared.query_error.QueryReason.TheVariants.{Clause, Memory}
use Rattle.tv_query.specs.declared.query_error.QueryReason.TheVariants as reasons
use Rattle.tv_query.specs.declared.selection.Selection.{Selection}
use Rattle.tv_term.specs.declared.range.TermRange.{TermRange}
use Rattle.tv_value.specs.declared.field.Field.{Field}
use Rattle.tv_query.proofs.OneToken.{one_token}
use Rattle.tv_query.proofs.Reading.{states_on, token_longer, writes_state, writes_taken}
use Rattle.tv_query.proofs.Refusing.{not_refused, clause_refused, token_refused_here}

-- ---- white space

word_unspaced : (text word rest : List ℕ) → IsUpTo ends_path text word rest → word ≢ [] → BeginsWithout is_ascii_whitespace text
word_unspaced text [] rest up_to some = absurd (some refl)
word_unspaced text (b ∷ bs) rest up_to some = subst (BeginsWithout is_ascii_whitespace) (sym up_to.text_is) (plain b up_to.before.0)
  where
    plain : (b : ℕ) → ends_path b ≡ false → is_ascii_whitespace b ≡ false
    plain b e = grind (arith, nat_tests)

quote_unspaced : (b : ℕ) → is_quote b ≡ true → is_ascii_whitespace b ≡ false
quote_unspaced b e = grind (arith, nat_tests)

path_unspaced : (text path rest : List ℕ) → BeginsWithPath text path rest → BeginsWithout is_ascii_whitespace text
path_unspaced text path rest (bare up_to some) = word_unspaced text path (58 ∷ rest) up_to some
path_unspaced text path rest (quoted q) = subst (BeginsWithout is_ascii_whitespace) (sym q.text_is) (quote_unspaced q.quote q.is_quote)

pub token_unspaced : (text : List ℕ) (token : QueryToken) (rest : List ℕ) → BeginsWithToken text token rest → BeginsWithout is_ascii_whitespace text
token_unspaced text _ _ (opens is) = subst (BeginsWithout is_ascii_whitespace) (sym is) refl
token_unspaced text _ _ (closes is) = subst (BeginsWithout is_ascii_whitespace) (sym is) refl
token_unspaced text _ _ (operates {word = w} {rest = r} o is) = word_unspaced text w r o.up_to o.some
token_unspaced text _ _ (selects {path = p} {middle = m} begins wants) = path_unspaced text p m begins

pub one_space : (s t u v : List ℕ) → IsSpace s → IsSpace t → BeginsWithout is_ascii_whitespace u → BeginsWithout is_ascii_whitespace v → s ++ u ≡ t ++ v → u ≡ v
one_space [] [] u v x y no_u no_v e = e
one_space [] (b ∷ bs) u v x y no_u no_v e = let both : true ≡ false = sym y.0 ∙ subst (BeginsWithout is_ascii_whitespace) e no_u in absurd (cc)
one_space (b ∷ bs) [] u v x y no_u no_v e = let both : true ≡ false = sym x.0 ∙ subst (BeginsWithout is_ascii_whitespace) (sym e) no_v in absurd (cc)
one_space (b ∷ bs) (c ∷ cs) u v x y no_u no_v e = let tails : bs ++ u ≡ cs ++ v = cc in one_space bs cs u v x.1 y.1 no_u no_v tails

pub space_rest : (s u : List ℕ) → IsSpace (s ++ u) → IsSpace u
space_rest [] u x = x
space_rest (b ∷ bs) u x = space_rest bs u x.1

pub only_space : (u : List ℕ) → IsSpace u → BeginsWithout is_ascii_whitespace u → u ≡ []
only_space [] x no_u = refl
only_space (b ∷ bs) x no_u = let both : true ≡ false = sym x.0 ∙ no_u in absurd (cc)

-- ---- tokens one after the other

pub first_of : (text : List ℕ) (token : QueryToken) (more : List QueryToken) (left : List ℕ) → BeginsWithTokens text (token ∷ more) left → (space : List ℕ) × (here : List ℕ) × (middle : List ℕ) × (text ≡ space ++ here) × IsSpace space × BeginsWithToken here token middle
first_of _ _ _ _ (next_token space {text = t} {middle = m} is_space begins more) = (space, t, m, refl, is_space, begins)

pub none_of : (text left : List ℕ) → BeginsWithTokens text [] left → text ≡ left
none_of _ _ no_tokens = refl

abbrev pub Leads : List QueryToken → List QueryToken → List ℕ → List ℕ → Type 0
Leads xs ys left rest = (more : List QueryToken) × (ys ≡ xs ++ more) × BeginsWithTokens left more rest

one_more : (x y : QueryToken) (xs ys : List QueryToken) (left rest : List ℕ) → x ≡ y → Leads xs ys left rest ⊎ Leads ys xs rest left → Leads (x ∷ xs) (y ∷ ys) left rest ⊎ Leads (y ∷ ys) (x ∷ xs) rest left
one_more x y xs ys left rest same (inl l) = inl (l.0, ap (λ (z : QueryToken). z ∷ ys) (sym same) ∙ ap (λ (zs : List QueryToken). x ∷ zs) l.1, l.2)
one_more x y xs ys left rest same (inr l) = inr (l.0, ap (λ (z : QueryToken). z ∷ xs) same ∙ ap (λ (zs : List QueryToken). y ∷ zs) l.1, l.2)

-- of two beginnings of a text that are tokens one goes on where the other ends
pub leads : (text other : List ℕ) (xs ys : List QueryToken) (left rest : List ℕ) → text ≡ other → BeginsWithTokens text xs left → BeginsWithTokens other ys rest → Leads xs ys left rest ⊎ Leads ys xs rest left
leads _ _ _ ys _ rest is (no_tokens {text = t}) b = inl (ys, refl, subst (λ (l : List ℕ). BeginsWithTokens l ys rest) (sym is) b)
leads _ _ xs _ left _ is a (no_tokens {text = t}) = inr (xs, refl, subst (λ (l : List ℕ). BeginsWithTokens l xs left) is a)
leads _ _ _ _ left rest is (next_token s {text = t} {middle = m} {token = x} {tokens = xs} is_s begins more) (next_token z {text = u} {middle = n} {token = y} {tokens = ys} is_z also others) =
    let here : t ≡ u = one_space s z t u is_s is_z (token_unspaced t x m begins) (token_unspaced u y n also) is in
    let one = one_token u x y m n (subst (λ (l : List ℕ). BeginsWithToken l x m) here begins) also in
    one_more x y xs ys left rest one.0 (leads m n xs ys left rest one.1 more others)

-- ---- a clause has one answer

pub facet_or_refused : (field : Field) (type : FieldType) (rest s : List ℕ) (range : TermRange) (e : TextTermsError) → is_of_facets type ≡ true → BelowInField (record { field = field; type = type; rest = rest }) s (Ok range)
    → TermsInField (record { field = field; type = type; rest = rest }) s (Err e) → ⊥
facet_or_refused field (types.Facet options) rest s range e test x h = no_value field (types.Facet options) s x.0 e x.2.is_value h
facet_or_refused field (types.Str options) rest s range e test x h = absurd (cc)
facet_or_refused field (types.U64 options) rest s range e test x h = absurd (cc)
facet_or_refused field (types.I64 options) rest s range e test x h = absurd (cc)
facet_or_refused field (types.Bool options) rest s range e test x h = absurd (cc)
facet_or_refused field (types.Date options) rest s range e test x h = absurd (cc)
facet_or_refused field (types.Bytes options) rest s range e test x h = absurd (cc)
facet_or_refused field (types.JsonObject options) rest s range e test x h = absurd (cc)
facet_or_refused field (types.IpAddr options) rest s range e test x h = absurd (cc)

text_or_refused : (at : FoundField) (s : List ℕ) (selection : Selection) (e : TextTermsError) (facets : Bool) → is_of_facets at.type ≡ facets
    → MatchBool facets ((selection.exact ≡ []) × (range : TermRange) × (selection.ranges.items ≡ range ∷ []) × BelowInField at s (Ok range)) (TermsInField at s (Ok selection.exact) × (selection.ranges.items ≡ [])) → TermsInField at s (Err e) → ⊥
text_or_refused at s selection e true test w h = facet_or_refused at.field at.type at.rest s w.1 e test w.3 h
text_or_refused at s selection e false test w h = terms_one at s (Ok selection.exact) (Err e) w.0 h

pub wants_or_refuses : (at : FoundField) (wanted : WantedText) (selection : Selection) (why : QueryReason) → WantsInField at wanted selection → RefusesInField at wanted why → ⊥
wants_or_refuses at (of_text s) selection (Clause e) w h = text_or_refused at s selection e (is_of_facets at.type) refl w h
wants_or_refuses at (of_prefix s) selection (Clause e) w h = terms_one at s (Ok w.2) (Err e) w.3 h.1
wants_or_refuses at (of_prefix s) selection reasons.NoPrefix w h = let e : true ≡ false = sym w.0 ∙ h in absurd (cc)
wants_or_refuses at (of_range s) selection (Clause e) w h = ranges_of_text_one at s (Ok selection.ranges.items) (Err e) w.1 h
wants_or_refuses at (of_text s) selection reasons.NoOperand w h = h
wants_or_refuses at (of_text s) selection reasons.NoOperator w h = h
wants_or_refuses at (of_text s) selection reasons.Unopened w h = h
wants_or_refuses at (of_text s) selection reasons.Unclosed w h = h
wants_or_refuses at (of_text s) selection reasons.NoColon w h = h
wants_or_refuses at (of_text s) selection reasons.NoPath w h = h
wants_or_refuses at (of_text s) selection reasons.NoText w h = h
wants_or_refuses at (of_text s) selection reasons.Unended w h = h
wants_or_refuses at (of_text s) selection reasons.NoPrefix w h = h
wants_or_refuses at (of_text s) selection reasons.Memory w h = h
wants_or_refuses at (of_prefix s) selection reasons.NoOperand w h = h
wants_or_refuses at (of_prefix s) selection reasons.NoOperator w h = h
wants_or_refuses at (of_prefix s) selection reasons.Unopened w h = h
wants_or_refuses at (of_prefix s) selection reasons.Unclosed w h = h
wants_or_refuses at (of_prefix s) selection reasons.NoColon w h = h
wants_or_refuses at (of_prefix s) selection reasons.NoPath w h = h
wants_or_refuses at (of_prefix s) selection reasons.NoText w h = h
wants_or_refuses at (of_prefix s) selection reasons.Unended w h = h
wants_or_refuses at (of_prefix s) selection reasons.Memory w h = h
wants_or_refuses at (of_range s) selection reasons.NoOperand w h = h
wants_or_refuses at (of_range s) selection reasons.NoOperator w h = h
wants_or_refuses at (of_range s) selection reasons.Unopened w h = h
wants_or_refuses at (of_range s) selection reasons.Unclosed w h = h
wants_or_refuses at (of_range s) selection reasons.NoColon w h = h
wants_or_refuses at (of_range s) selection reasons.NoPath w h = h
wants_or_refuses at (of_range s) selection reasons.NoText w h = h
wants_or_refuses at (of_range s) selection reasons.Unended w h = h
wants_or_refuses at (of_range s) selection reasons.NoPrefix w h = h
wants_or_refuses at (of_range s) selection reasons.Memory w h = h

pub clause_or_refused : (schema : List Entry) (path : List ℕ) (wanted : WantedText) (selection : Selection) (why : QueryReason) → Selects schema path wanted selection → RefusesClause schema path wanted why → ⊥
clause_or_refused schema path wanted selection why (path_refused e x is) r = absurd (cc)
clause_or_refused schema path wanted selection why (indexed at names is w) (path_refused e x be) = path_or_field schema path at e names is x
clause_or_refused schema path wanted selection why (indexed at names is w) (indexed found also has h) =
    wants_or_refuses at wanted selection why w.1 (subst (λ (f : FoundField). RefusesInField f wanted why) (names_one schema path found at also names) h)

-- ---- what stands after the tokens

taken_at : (schema : List Entry) (xs : List QueryToken) (token : QueryToken) (more : List QueryToken) → AllByRecursion (IsTaken schema) (xs ++ token ∷ more) → IsTaken schema token
taken_at schema [] token more all = all.0
taken_at schema (x ∷ xs) token more all = taken_at schema xs token more all.1

some_state : (o : Option ParserState) (token : QueryToken) (more : List QueryToken) (s : ParserState) → option_and_then (λ next. after_all next more) o ≡ Some s → o ≢ None
some_state None token more s e = absurd (cc)
some_state (Some n) token more s e = λ none. cc

may_stand : (schema : List Entry) (state : ParserState) (token : QueryToken) (why : QueryReason) → after state token ≢ None → IsTaken schema token → RefusesTaken schema state token why → ⊥
may_stand schema state (clause path wanted) why may taken r = clause_or_refused schema path wanted taken.0 why taken.1 (clause_refused state path wanted why may r)
may_stand schema state opened why may taken r = not_refused state opened why may (λ p w e. cc) r
may_stand schema state closed why may taken r = not_refused state closed why may (λ p w e. cc) r
may_stand schema state and_word why may taken r = not_refused state and_word why may (λ p w e. cc) r
may_stand schema state or_word why may taken r = not_refused state or_word why may (λ p w e. cc) r
may_stand schema state not_word why may taken r = not_refused state not_word why may (λ p w e. cc) r

module _ {schema : List Entry} {text : List ℕ} {error : QueryError} (r : Refuses schema text error) where
  -- no token can go on there
  pub goes_on : (token : QueryToken) (more : List QueryToken) (left : List ℕ) (state : ParserState) (why : QueryReason) → BeginsWithTokens (r.space ++ r.rest) (token ∷ more) left → after_all (wants_operand 0) (r.tokens ++ token ∷ more) ≡ Some state
      → AllByRecursion (IsTaken schema) (r.tokens ++ token ∷ more) → RefusesRest schema r.state r.rest why → ⊥
  goes_on token more left state why begins follow all refuses =
      let f = first_of (r.space ++ r.rest) token more left begins in
      let here : r.rest ≡ f.1 = one_space r.space f.0 r.rest f.1 r.is_space f.4 r.no_space (token_unspaced f.1 token f.2 f.5) f.3 in
      let begun : BeginsWithToken r.rest token f.2 = subst (λ (l : List ℕ). BeginsWithToken l token f.2) (sym here) f.5 in
      let next : after_all r.state (token ∷ more) ≡ Some state = sym (states_on r.tokens (token ∷ more) (wants_operand 0) r.state (after_all r.state (token ∷ more)) r.follow refl) ∙ follow in
      may_stand schema r.state token why (some_state (after r.state token) token more state next) (taken_at schema r.tokens token more all) (token_refused_here r.state r.rest f.2 token why begun refuses)

  -- nor does the text end well
  no_end : (why : QueryReason) → r.rest ≡ [] → r.state ≡ wants_operator 0 → RefusesRest schema r.state r.rest why → ⊥
  no_end why none state (ended is e) = let n = subst (λ (s : ParserState). RefusesEnd s why) state e in omega (arith, n.0)
  no_end why none state (no_token some x) = some none
  no_end why none state (no_place {token = t} {rest = l} begins taken) = omega (arith, ap length none, token_longer r.rest t l begins)

  ends_there : (why : QueryReason) (tokens : List QueryToken) (left : List ℕ) → tokens ≡ r.tokens → r.space ++ r.rest ≡ left → after_all (wants_operand 0) tokens ≡ Some (wants_operator 0) → IsSpace left → RefusesRest schema r.state r.rest why → ⊥
  ends_there why tokens left same is ends space refuses =
      let none = only_space r.rest (space_rest r.space r.rest (subst IsSpace (sym is) space)) r.no_space in
      let states : ◌≡◌ {A = Option ParserState} (Some r.state) (Some (wants_operator 0)) = sym r.follow ∙ ap (after_all (wants_operand 0)) (sym same) ∙ ends in
      let state : r.state ≡ wants_operator 0 = cc in
      no_end why none state refuses

  module _ (why : QueryReason) (tokens : List QueryToken) (left : List ℕ) (all : AllByRecursion (IsTaken schema) tokens) (ends : after_all (wants_operand 0) tokens ≡ Some (wants_operator 0)) (space : IsSpace left) (refuses : RefusesRest schema r.state r.rest why) where
    on_from : (more : List QueryToken) → tokens ≡ r.tokens ++ more → BeginsWithTokens (r.space ++ r.rest) more left → ⊥
    on_from [] is begins = ends_there why tokens left (is ∙ append-nil r.tokens) (none_of (r.space ++ r.rest) left begins) ends space refuses
    on_from (t ∷ more) is begins =
        goes_on t more left (wants_operator 0) why begins (subst (λ (l : List QueryToken). after_all (wants_operand 0) l ≡ Some (wants_operator 0)) is ends) (subst (AllByRecursion (IsTaken schema)) is all) refuses

    back_from : (more : List QueryToken) → r.tokens ≡ tokens ++ more → BeginsWithTokens left more (r.space ++ r.rest) → ⊥
    back_from [] is begins = ends_there why tokens left (sym (is ∙ append-nil tokens)) (sym (none_of left (r.space ++ r.rest) begins)) ends space refuses
    back_from (t ∷ more) is begins =
        let f = first_of left t more (r.space ++ r.rest) begins in
        let none = only_space f.1 (space_rest f.0 f.1 (subst IsSpace f.3 space)) (token_unspaced f.1 t f.2 f.5) in
        omega (arith, ap length none, token_longer f.1 t f.2 f.5)

    not_led : Leads r.tokens tokens (r.space ++ r.rest) left ⊎ Leads tokens r.tokens left (r.space ++ r.rest) → ⊥
    not_led (inl l) = on_from l.0 l.1 l.2
    not_led (inr l) = back_from l.0 l.1 l.2

  pub not_written : (tokens : List QueryToken) (tree : QueryTree) → WritesTokens text tokens → WritesQuery schema any tokens tree → error.reason ≢ Memory → ⊥
  not_written tokens tree written writes some =
      not_led error.reason tokens written.0 (writes_taken schema any tokens tree writes) (writes_state any tokens tree 0 writes) written.2 (r.reason.0 some)
      (leads text text r.tokens tokens (r.space ++ r.rest) written.0 refl r.begins written.1)
