-- What a byte that is no space makes of the tokens.
use Rattle.std.proofs.Common.{◌≡◌, ℕ, List, [], ◌∷◌, Bool, true, false, refl, sym, ap, ◌∙◌, Option, Some, None}
use Rattle.std.proofs.lemmas.Bool.{true≢false}
use Rattle.json.specs.Token as token
use Rattle.json.specs.Token.{Token}
use Rattle.json.specs.Align.{is_good}
use Rattle.json.specs.Text.{content, plain}
use Rattle.json.specs.Word.{is_operator, is_space, word}
use Rattle.json.specs.Lex as lex
use Rattle.json.specs.Lex.{Class, class, Lexeme, lex_byte, operator_lexeme, string_token, begins_colon, may_begin, may_close, if_allowed, place_token, punctuate}
use Rattle.tv_json.proofs.AcceptedTokens.{WordToken, is_number, is_boolean, is_null, word_passes}
use Rattle.tv_json.proofs.Accepted.{Says, class-says, by_operator}

pub data Turn (p : lex.Place) (x : ℕ) (ys : List ℕ) (ts : List Token) : Type 0 where
  fault : ts ≡ token.bad ∷ [] → Turn p x ys ts
  value_string : (s : List ℕ) → x ≡ 34 → content plain ys ≡ Some s → may_begin p ≡ true →
      ts ≡ token.string s ∷ punctuate lex.after_value (lex.lex lex.in_string ys) → Turn p x ys ts
  key_string : (s : List ℕ) → x ≡ 34 → content plain ys ≡ Some s → may_begin p ≡ true → begins_colon (lex.lex lex.in_string ys) ≡ true →
      ts ≡ token.key s ∷ punctuate lex.after_key (lex.lex lex.in_string ys) → Turn p x ys ts
  word_token : class x ≡ lex.other → is_good (word (x ∷ ys)) ≡ true → may_begin p ≡ true →
      ts ≡ word (x ∷ ys) ∷ punctuate lex.after_value (lex.lex lex.in_word ys) → Turn p x ys ts
  opens_object : x ≡ 123 → may_begin p ≡ true → ts ≡ token.begin_object ∷ punctuate lex.fresh (lex.lex lex.between ys) → Turn p x ys ts
  opens_array : x ≡ 91 → may_begin p ≡ true → ts ≡ token.begin_array ∷ punctuate lex.fresh (lex.lex lex.between ys) → Turn p x ys ts
  closes_object : x ≡ 125 → may_close p ≡ true → ts ≡ token.end_object ∷ punctuate lex.after_value (lex.lex lex.between ys) → Turn p x ys ts
  closes_array : x ≡ 93 → may_close p ≡ true → ts ≡ token.end_array ∷ punctuate lex.after_value (lex.lex lex.between ys) → Turn p x ys ts
  comma : x ≡ 44 → p ≡ lex.after_value → ts ≡ punctuate lex.after_comma (lex.lex lex.between ys) → Turn p x ys ts
  colon : x ≡ 58 → p ≡ lex.after_key → ts ≡ punctuate lex.fresh (lex.lex lex.between ys) → Turn p x ys ts

pub punctuate-token : (p : lex.Place) (t : Token) (ls : List Lexeme) → punctuate p (lex.token t ∷ ls) ≡ place_token p t (begins_colon ls) (λ next. punctuate next ls)
unfolding punctuate
punctuate-token lex.fresh t ls = refl
punctuate-token lex.after_value t ls = refl
punctuate-token lex.after_comma t ls = refl
punctuate-token lex.after_key t ls = refl

bad_is : (t : Token) → is_good t ≡ false → t ≡ token.bad
bad_is token.begin_object e = absurd (true≢false e)
bad_is token.end_object e = absurd (true≢false e)
bad_is token.begin_array e = absurd (true≢false e)
bad_is token.end_array e = absurd (true≢false e)
bad_is (token.key s) e = absurd (true≢false e)
bad_is (token.string s) e = absurd (true≢false e)
bad_is (token.number s) e = absurd (true≢false e)
bad_is (token.boolean b) e = absurd (true≢false e)
bad_is token.null e = absurd (true≢false e)
bad_is token.bad e = refl

pub place-word :
    (p : lex.Place) (w : Token) → WordToken w → (b : Bool) (k : lex.Place → List Token) → place_token p w b k ≡ if_allowed (may_begin p) w k lex.after_value
place-word p w (is_number s) b k = refl
place-word p w (is_boolean v) b k = refl
place-word p w is_null b k = refl

module _ (p : lex.Place) (x : ℕ) (ys : List ℕ) where
  bad_turn : (ls : List Lexeme) → Turn p x ys (punctuate p (lex.token token.bad ∷ ls))
  bad_turn ls = fault (punctuate-token p token.bad ls)

  string_turn : (s : List ℕ) → x ≡ 34 → content plain ys ≡ Some s → Turn p x ys (punctuate p (lex.token (token.string s) ∷ lex.lex lex.in_string ys))
  string_turn s e f = go (begins_colon ls) (may_begin p) refl refl
    where
      ls : List Lexeme
      ls = lex.lex lex.in_string ys

      go : (b m : Bool) → begins_colon (lex.lex lex.in_string ys) ≡ b → may_begin p ≡ m →
          Turn p x ys (punctuate p (lex.token (token.string s) ∷ lex.lex lex.in_string ys))
      go true true g h = key_string s e f h g
          (punctuate-token p (token.string s) (lex.lex lex.in_string ys)
          ∙ (λ i. place_token p (token.string s) (g i) (λ next. punctuate next (lex.lex lex.in_string ys)))
          ∙ (λ i. if_allowed (h i) (token.key s) (λ next. punctuate next (lex.lex lex.in_string ys)) lex.after_key))
      go true false g h = fault
          (punctuate-token p (token.string s) (lex.lex lex.in_string ys)
          ∙ (λ i. place_token p (token.string s) (g i) (λ next. punctuate next (lex.lex lex.in_string ys)))
          ∙ (λ i. if_allowed (h i) (token.key s) (λ next. punctuate next (lex.lex lex.in_string ys)) lex.after_key))
      go false true g h = value_string s e f h
          (punctuate-token p (token.string s) (lex.lex lex.in_string ys)
          ∙ (λ i. place_token p (token.string s) (g i) (λ next. punctuate next (lex.lex lex.in_string ys)))
          ∙ (λ i. if_allowed (h i) (token.string s) (λ next. punctuate next (lex.lex lex.in_string ys)) lex.after_value))
      go false false g h = fault
          (punctuate-token p (token.string s) (lex.lex lex.in_string ys)
          ∙ (λ i. place_token p (token.string s) (g i) (λ next. punctuate next (lex.lex lex.in_string ys)))
          ∙ (λ i. if_allowed (h i) (token.string s) (λ next. punctuate next (lex.lex lex.in_string ys)) lex.after_value))

  -- where the token may come, or not
  allowed :
      (b : Bool) (t : Token) (next : lex.Place) (ls : List Lexeme) →
      punctuate p (lex.token t ∷ ls) ≡ if_allowed b t (λ n. punctuate n ls) next →
      (b ≡ true → punctuate p (lex.token t ∷ ls) ≡ t ∷ punctuate next ls → Turn p x ys (punctuate p (lex.token t ∷ ls))) →
      Turn p x ys (punctuate p (lex.token t ∷ ls))
  allowed true t next ls e f = f refl e
  allowed false t next ls e f = fault e

  operator_turn : x ≡ 123 → Turn p x ys (punctuate p (operator_lexeme 123 ∷ lex.lex lex.between ys))
  operator_turn e =
      allowed (may_begin p) token.begin_object lex.fresh (lex.lex lex.between ys) (punctuate-token p token.begin_object (lex.lex lex.between ys)) (λ m f. opens_object e m f)

  array_turn : x ≡ 91 → Turn p x ys (punctuate p (operator_lexeme 91 ∷ lex.lex lex.between ys))
  array_turn e =
      allowed (may_begin p) token.begin_array lex.fresh (lex.lex lex.between ys) (punctuate-token p token.begin_array (lex.lex lex.between ys)) (λ m f. opens_array e m f)

  end_object_turn : x ≡ 125 → Turn p x ys (punctuate p (operator_lexeme 125 ∷ lex.lex lex.between ys))
  end_object_turn e =
      allowed (may_close p) token.end_object lex.after_value (lex.lex lex.between ys) (punctuate-token p token.end_object (lex.lex lex.between ys))
      (λ m f. closes_object e m f)

  end_array_turn : x ≡ 93 → Turn p x ys (punctuate p (operator_lexeme 93 ∷ lex.lex lex.between ys))
  end_array_turn e =
      allowed (may_close p) token.end_array lex.after_value (lex.lex lex.between ys) (punctuate-token p token.end_array (lex.lex lex.between ys))
      (λ m f. closes_array e m f)

  word_turn : class x ≡ lex.other → Turn p x ys (punctuate p (lex.token (word (x ∷ ys)) ∷ lex.lex lex.in_word ys))
  word_turn c = go (is_good (word (x ∷ ys))) refl
    where
      go : (b : Bool) → is_good (word (x ∷ ys)) ≡ b → Turn p x ys (punctuate p (lex.token (word (x ∷ ys)) ∷ lex.lex lex.in_word ys))
      go true g =
          allowed (may_begin p) (word (x ∷ ys)) lex.after_value (lex.lex lex.in_word ys)
          (punctuate-token p (word (x ∷ ys)) (lex.lex lex.in_word ys)
          ∙ place-word p (word (x ∷ ys)) (word_passes [] true (x ∷ ys) g).is_word (begins_colon (lex.lex lex.in_word ys)) (λ next. punctuate next (lex.lex lex.in_word ys)))
          (λ m f. word_token c g m f)
      go false g =
          fault (punctuate-token p (word (x ∷ ys)) (lex.lex lex.in_word ys)
          ∙ ap (λ t. place_token p t (begins_colon (lex.lex lex.in_word ys)) (λ next. punctuate next (lex.lex lex.in_word ys))) (bad_is (word (x ∷ ys)) g))

comma_turn : (p : lex.Place) (x : ℕ) (ys : List ℕ) → x ≡ 44 → Turn p x ys (punctuate p (lex.comma ∷ lex.lex lex.between ys))
unfolding punctuate
comma_turn lex.fresh x ys e = fault refl
comma_turn lex.after_value x ys e = comma e refl refl
comma_turn lex.after_comma x ys e = fault refl
comma_turn lex.after_key x ys e = fault refl

colon_turn : (p : lex.Place) (x : ℕ) (ys : List ℕ) → x ≡ 58 → Turn p x ys (punctuate p (lex.colon ∷ lex.lex lex.between ys))
unfolding punctuate
colon_turn lex.fresh x ys e = fault refl
colon_turn lex.after_value x ys e = fault refl
colon_turn lex.after_comma x ys e = fault refl
colon_turn lex.after_key x ys e = colon e refl refl

pub turn : (p : lex.Place) (x : ℕ) (ys : List ℕ) → is_space x ≡ false → Turn p x ys (punctuate p (lex.lex lex.between (x ∷ ys)))
unfolding lex.lex
turn p x ys solid = go (class x) refl (class-says x)
  where
    string_or_bad : (o : Option (List ℕ)) → content plain ys ≡ o → x ≡ 34 → Turn p x ys (punctuate p (lex.token (string_token o) ∷ lex.lex lex.in_string ys))
    string_or_bad None f e = bad_turn p x ys (lex.lex lex.in_string ys)
    string_or_bad (Some s) f e = string_turn p x ys s e f

    by_byte : (y : ℕ) → is_operator y ≡ true → x ≡ y → Turn p x ys (punctuate p (operator_lexeme y ∷ lex.lex lex.between ys))
    by_byte =
        by_operator (λ y. x ≡ y → Turn p x ys (punctuate p (operator_lexeme y ∷ lex.lex lex.between ys)))
        (operator_turn p x ys) (end_object_turn p x ys) (array_turn p x ys) (end_array_turn p x ys) (colon_turn p x ys) (comma_turn p x ys)

    go : (c : Class) → class x ≡ c → Says c x → Turn p x ys (punctuate p (lex_byte lex.between c x ys (λ next. lex.lex next ys)))
    go lex.quote c e = string_or_bad (content plain ys) refl e
    go lex.backslash c e = bad_turn p x ys (lex.lex lex.in_word ys)
    go lex.operator c e = by_byte x e refl
    go lex.space c e = absurd (true≢false (sym e ∙ solid))
    go lex.other c e = word_turn p x ys c
