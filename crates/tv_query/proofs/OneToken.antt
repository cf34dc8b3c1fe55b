-- A text begins with one token, or is refused for one reason: a function gives the answer that the definitions allow.
use Rattle.std.proofs.Common.{◌≡◌, ◌≢◌, ◌==◌, ℕ, List, [], ◌∷◌, ◌++◌, codes, Bool, true, false, cond, Option, Some, None, option_map, Result, Ok, Err, refl, sym, ap, ◌∙◌, arith, append_assoc, bytes_eq}
use Rattle.std.proofs.lemmas.Bool.Decides.{nat_tests}
use Rattle.std.proofs.lemmas.Slice.Eq.{bytes_eq-Decides}
use Rattle.std.specs.Str.{NonePass}
use Rattle.tv_query.specs.Refusals.{RefusesToken, RefusesWanted, no_path, nothing, quoted_alone, unclosed, unquoted, unquoted_path, wants_nothing, word_alone}
use Rattle.tv_query.specs.Tokens.{BeginsWithPath, BeginsWithToken, BeginsWithWanted, BeginsWithWord, BeginsWithout, IsBracketed, IsEmptyOrBegins, IsOperator, IsQuoted, IsUpTo, QueryToken, WantedText}
use Rattle.tv_query.specs.Tokens.{all, and_word, bare, bracketed, clause, closed, closes, closes_range, ends_path, ends_word, is_quote, not_word, of_prefix, of_range, of_text, opened, opens, opens_range, operates, or_word}
use Rattle.tv_query.specs.Tokens.{quoted, quoted_prefix, quoted_text, selects, star, word_prefix, word_text}
use Rattle.tv_query.specs.declared.query_error.QueryReason.{QueryReason}
use Rattle.tv_query.specs.declared.query_error.QueryReason.TheVariants.{NoColon, NoPath, NoText, Unended}

-- ---- parts of a text

abbrev part : (ℕ → Bool) → List ℕ → List ℕ × List ℕ
part p [] = ([], [])
part p (b ∷ bs) = cond (p b) ([], b ∷ bs) (b ∷ (part p bs).0, (part p bs).1)

part_of : (p : ℕ → Bool) (word rest : List ℕ) → NonePass p word → IsEmptyOrBegins p rest → part p (word ++ rest) ≡ (word, rest)
part_of p [] [] none ends = refl
part_of p [] (b ∷ bs) none ends = rw ends refl
part_of p (b ∷ bs) rest none ends = rw (none.0, part_of p bs rest none.1 ends) refl

-- ---- what is wanted

abbrev Answer : Type 0 → Type 0
Answer A = Result (A × List ℕ) QueryReason

abbrev quoted_wanted : List ℕ → List ℕ → Answer WantedText
quoted_wanted inner [] = Err Unended
quoted_wanted inner (q ∷ []) = Ok (of_text inner, [])
quoted_wanted inner (q ∷ (b ∷ rest)) = cond (b == 42) (Ok (of_prefix inner, rest)) (Ok (of_text inner, b ∷ rest))

abbrev bracketed_wanted : List ℕ → List ℕ → Answer WantedText
bracketed_wanted front [] = Err Unended
bracketed_wanted front (b ∷ rest) = Ok (of_range (front ++ b ∷ []), rest)

-- what a word has before the star at its end
abbrev before_star : List ℕ → Option (List ℕ)
before_star [] = None
before_star (b ∷ []) = cond (b == 42) (Some []) None
before_star (b ∷ (c ∷ cs)) = option_map (λ l. b ∷ l) (before_star (c ∷ cs))

abbrev starred_wanted : List ℕ → List ℕ → Option (List ℕ) → Answer WantedText
starred_wanted word rest None = Ok (of_text word, rest)
starred_wanted word rest (Some []) = Ok (of_range word, rest)
starred_wanted word rest (Some (b ∷ bs)) = Ok (of_prefix (b ∷ bs), rest)

abbrev word_wanted : List ℕ → List ℕ → Answer WantedText
word_wanted [] rest = Err NoText
word_wanted (b ∷ bs) rest = starred_wanted (b ∷ bs) rest (before_star (b ∷ bs))

abbrev wanted_by : Bool → Bool → ℕ → List ℕ → Answer WantedText
wanted_by true is_range b bs = quoted_wanted (part (λ c. c == b) bs).0 (part (λ c. c == b) bs).1
wanted_by false true b bs = bracketed_wanted (part closes_range (b ∷ bs)).0 (part closes_range (b ∷ bs)).1
wanted_by false false b bs = word_wanted (part ends_word (b ∷ bs)).0 (part ends_word (b ∷ bs)).1

abbrev wanted_in : List ℕ → Answer WantedText
wanted_in [] = Err NoText
wanted_in (b ∷ bs) = wanted_by (is_quote b) (opens_range b) b bs

-- ---- tokens

abbrev with_path : List ℕ → Answer WantedText → Answer QueryToken
with_path path (Ok found) = Ok (clause path found.0, found.1)
with_path path (Err reason) = Err reason

abbrev quoted_token : List ℕ → List ℕ → Answer QueryToken
quoted_token inner [] = Err Unended
quoted_token inner (q ∷ []) = Err NoColon
quoted_token inner (q ∷ (b ∷ rest)) = cond (b == 58) (with_path inner (wanted_in rest)) (Err NoColon)

abbrev operator_in : List ℕ → Option QueryToken
operator_in word = cond (bytes_eq word (codes "AND")) (Some and_word) (cond (bytes_eq word (codes "OR")) (Some or_word) (cond (bytes_eq word (codes "NOT")) (Some not_word) None))

abbrev operator_or : List ℕ → Option QueryToken → Answer QueryToken
operator_or rest (Some token) = Ok (token, rest)
operator_or rest None = Err NoColon

abbrev word_token : List ℕ → List ℕ → Answer QueryToken
word_token [] rest = Err NoPath
word_token (b ∷ bs) [] = operator_or [] (operator_in (b ∷ bs))
word_token (b ∷ bs) (c ∷ rest) = cond (c == 58) (with_path (b ∷ bs) (wanted_in rest)) (operator_or (c ∷ rest) (operator_in (b ∷ bs)))

abbrev token_by : Bool → ℕ → List ℕ → Answer QueryToken
token_by true b bs = quoted_token (part (λ c. c == b) bs).0 (part (λ c. c == b) bs).1
token_by false b bs = word_token (part ends_path (b ∷ bs)).0 (part ends_path (b ∷ bs)).1

-- the first token, and the rest; or why there is none
abbrev token_in : List ℕ → Answer QueryToken
token_in [] = Err NoColon
token_in (b ∷ bs) = cond (b == 40) (Ok (opened, bs)) (cond (b == 41) (Ok (closed, bs)) (token_by (is_quote b) b bs))

-- ---- each answer that the definitions allow is that one

same_byte : (b : ℕ) → (b == b) ≡ true
same_byte b = grind (arith, nat_tests)

not_quote : (b : ℕ) → ends_word b ≡ false → is_quote b ≡ false
not_quote b e = grind (arith, nat_tests)

range_no_quote : (b : ℕ) → opens_range b ≡ true → is_quote b ≡ false
range_no_quote b e = grind (arith, nat_tests)

range_opens : (b : ℕ) → opens_range b ≡ true → closes_range b ≡ false
range_opens b e = grind (arith, nat_tests)

path_no_word : (b : ℕ) → ends_path b ≡ false → ends_word b ≡ false
path_no_word b e = grind (arith, nat_tests)

no_opening : (b : ℕ) → ends_word b ≡ false → (b == 40) ≡ false
no_opening b e = grind (arith, nat_tests)

no_closing : (b : ℕ) → ends_word b ≡ false → (b == 41) ≡ false
no_closing b e = grind (arith, nat_tests)

quote_no_opening : (b : ℕ) → is_quote b ≡ true → (b == 40) ≡ false
quote_no_opening b e = grind (arith, nat_tests)

quote_no_closing : (b : ℕ) → is_quote b ≡ true → (b == 41) ≡ false
quote_no_closing b e = grind (arith, nat_tests)

word_no_range : (b : ℕ) → ends_word b ≡ true → opens_range b ≡ false
word_no_range b e = grind (arith, nat_tests)

-- after a quote
within : (quote : ℕ) (inner rest : List ℕ) → NonePass (λ b. b == quote) inner → part (λ b. b == quote) (inner ++ quote ∷ rest) ≡ (inner, quote ∷ rest)
within quote inner rest inside = part_of (λ b. b == quote) inner (quote ∷ rest) inside (same_byte quote)

not_closed : (p : ℕ → Bool) (inner : List ℕ) → NonePass p inner → part p inner ≡ (inner, [])
not_closed p [] inside = refl
not_closed p (b ∷ bs) inside = rw (inside.0, not_closed p bs inside.1) refl

wanted_quoted : (text inner rest : List ℕ) (q : IsQuoted text inner rest) → wanted_in text ≡ quoted_wanted inner (q.quote ∷ rest)
wanted_quoted text inner rest q = ap wanted_in q.text_is ∙ rw (q.is_quote, within q.quote inner rest q.inside) refl

starred : (inner : List ℕ) → before_star (inner ++ star) ≡ Some inner
starred [] = refl
starred (b ∷ []) = refl
starred (b ∷ (c ∷ cs)) = ap (option_map (λ l. b ∷ l)) (starred (c ∷ cs))

last_byte : (b : ℕ) (is_star : Bool) → (b == 42) ≡ is_star → ((inner : List ℕ) → b ∷ [] ≢ inner ++ star) → ◌≡◌ {A = Option (List ℕ)} (cond is_star (Some []) None) None
last_byte b true is other = absurd (other [] (ap (λ (n : ℕ). n ∷ []) (grind (arith, nat_tests, is))))
last_byte b false is other = refl

not_starred : (word : List ℕ) → ((inner : List ℕ) → word ≢ inner ++ star) → before_star word ≡ None
not_starred [] other = refl
not_starred (b ∷ []) other = last_byte b (b == 42) refl other
not_starred (b ∷ (c ∷ cs)) other = ap (option_map (λ l. b ∷ l)) (not_starred (c ∷ cs) (λ inner e. other (b ∷ inner) (ap (λ (l : List ℕ). b ∷ l) e)))

wanted_word : (text word rest : List ℕ) → BeginsWithWord text word rest → wanted_in text ≡ starred_wanted word rest (before_star word)
wanted_word text [] rest w = absurd (w.some refl)
wanted_word text (b ∷ bs) rest w =
    ap wanted_in w.up_to.text_is ∙ rw (not_quote b w.up_to.before.0, w.no_bracket, part_of ends_word (b ∷ bs) rest w.up_to.before w.up_to.ends) refl

prefixed : (text inner rest : List ℕ) → BeginsWithWord text (inner ++ star) rest → starred_wanted (inner ++ star) rest (Some inner) ≡ Ok (of_prefix inner, rest)
prefixed text [] rest w = absurd (w.no_star refl)
prefixed text (b ∷ bs) rest w = refl

after_text : (quote : ℕ) (inner rest : List ℕ) → BeginsWithout (λ b. b == 42) rest → quoted_wanted inner (quote ∷ rest) ≡ Ok (of_text inner, rest)
after_text quote inner [] no_star = refl
after_text quote inner (b ∷ bs) no_star = rw no_star refl

bracketed_is : (text inner rest : List ℕ) → IsBracketed text inner rest → wanted_in text ≡ Ok (of_range inner, rest)
bracketed_is text inner rest r =
    let front = r.opening ∷ r.middle in
    let whole : text ≡ front ++ r.closing ∷ rest = r.text_is ∙ ap (λ (l : List ℕ). l ++ rest) r.inner_is ∙ append_assoc front (r.closing ∷ []) rest in
    ap wanted_in whole ∙ rw (range_no_quote r.opening r.opens, r.opens, part_of closes_range front (r.closing ∷ rest) (range_opens r.opening r.opens, r.inside) r.closes)
    (ap (λ (l : List ℕ). Ok (of_range l, rest)) (sym r.inner_is))

wanted_is : (text : List ℕ) (wanted : WantedText) (rest : List ℕ) → BeginsWithWanted text wanted rest → wanted_in text ≡ Ok (wanted, rest)
wanted_is text _ _ (all {rest = r} up_to) = ap wanted_in up_to.text_is ∙ ap (λ (s : List ℕ × List ℕ). word_wanted s.0 s.1) (part_of ends_word star r up_to.before up_to.ends)
wanted_is text _ _ (bracketed {inner = i} {rest = r} b) = bracketed_is text i r b
wanted_is text _ _ (quoted_prefix {inner = i} {rest = r} q) = wanted_quoted text i (42 ∷ r) q
wanted_is text _ _ (quoted_text {inner = i} {rest = r} q no_star) = wanted_quoted text i r q ∙ after_text q.quote i r no_star
wanted_is text _ _ (word_prefix {inner = i} {rest = r} w) = wanted_word text (i ++ star) r w ∙ ap (starred_wanted (i ++ star) r) (starred i) ∙ prefixed text i r w
wanted_is text _ _ (word_text {word = w} {rest = r} b other) = wanted_word text w r b ∙ ap (starred_wanted w r) (not_starred w other)

nothing_is : (text : List ℕ) → BeginsWithout is_quote text → IsEmptyOrBegins ends_word text → wanted_in text ≡ Err NoText
nothing_is [] no_quote ends = refl
nothing_is (b ∷ bs) no_quote ends = rw (no_quote, word_no_range b ends, part_of ends_word [] (b ∷ bs) tt ends) refl

wanted_refused : (text : List ℕ) (reason : QueryReason) → RefusesWanted text reason → wanted_in text ≡ Err reason
wanted_refused text _ (nothing no_quote ends) = nothing_is text no_quote ends
wanted_refused text _ (unquoted u) = ap wanted_in u.text_is ∙ rw (u.is_quote, not_closed (λ b. b == u.quote) u.inner u.inside) refl
wanted_refused text _ (unclosed u) = ap wanted_in u.text_is ∙ rw (range_no_quote u.opening u.opens, u.opens, not_closed closes_range (u.opening ∷ u.inner) (range_opens u.opening u.opens, u.inside)) refl

-- ---- tokens

token_quoted : (text inner rest : List ℕ) (q : IsQuoted text inner rest) → token_in text ≡ quoted_token inner (q.quote ∷ rest)
token_quoted text inner rest q = ap token_in q.text_is ∙ rw (quote_no_opening q.quote q.is_quote, quote_no_closing q.quote q.is_quote, q.is_quote, within q.quote inner rest q.inside) refl

token_word : (text word rest : List ℕ) → IsUpTo ends_path text word rest → word ≢ [] → token_in text ≡ word_token word rest
token_word text [] rest up_to some = absurd (some refl)
token_word text (b ∷ bs) rest up_to some =
    let plain = path_no_word b up_to.before.0 in
    ap token_in up_to.text_is ∙ rw (no_opening b plain, no_closing b plain, not_quote b plain, part_of ends_path (b ∷ bs) rest up_to.before up_to.ends) refl

operator_is : (token : QueryToken) (word : List ℕ) → IsOperator token word → operator_in word ≡ Some token
operator_is and_word word is = ap operator_in is
operator_is or_word word is = ap operator_in is
operator_is not_word word is = ap operator_in is
operator_is opened word is = absurd is
operator_is closed word is = absurd is
operator_is (clause path wanted) word is = absurd is

other_text : (word text : List ℕ) → (word ≡ text → ⊥) → bytes_eq word text ≡ false
other_text word text other = by (bytes_eq word text) refl
  where
    by : (b : Bool) → bytes_eq word text ≡ b → b ≡ false
    by true e = absurd (other ((bytes_eq-Decides word text).0 e))
    by false e = refl

no_operator : (word : List ℕ) → ((token : QueryToken) → ¬ IsOperator token word) → operator_in word ≡ None
no_operator word none = rw (other_text word (codes "AND") (none and_word), other_text word (codes "OR") (none or_word), other_text word (codes "NOT") (none not_word)) refl

word_no_colon : (word rest : List ℕ) → word ≢ [] → BeginsWithout (λ b. b == 58) rest → word_token word rest ≡ operator_or rest (operator_in word)
word_no_colon [] rest some no_colon = absurd (some refl)
word_no_colon (b ∷ bs) [] some no_colon = refl
word_no_colon (b ∷ bs) (c ∷ rest) some no_colon = rw no_colon refl

word_colon : (word rest : List ℕ) → word ≢ [] → word_token word (58 ∷ rest) ≡ with_path word (wanted_in rest)
word_colon [] rest some = absurd (some refl)
word_colon (b ∷ bs) rest some = refl

path_is : (text path middle : List ℕ) → BeginsWithPath text path middle → token_in text ≡ with_path path (wanted_in middle)
path_is text path middle (bare up_to some) = token_word text path (58 ∷ middle) up_to some ∙ word_colon path middle some
path_is text path middle (quoted q) = token_quoted text path (58 ∷ middle) q

quoted_no_colon : (quote : ℕ) (inner rest : List ℕ) → BeginsWithout (λ b. b == 58) rest → quoted_token inner (quote ∷ rest) ≡ Err NoColon
quoted_no_colon quote inner [] no_colon = refl
quoted_no_colon quote inner (b ∷ bs) no_colon = rw no_colon refl

token_is : (text : List ℕ) (token : QueryToken) (rest : List ℕ) → BeginsWithToken text token rest → token_in text ≡ Ok (token, rest)
token_is text _ _ (opens is) = ap token_in is
token_is text _ _ (closes is) = ap token_in is
token_is text _ _ (operates {token = t} {word = w} {rest = r} o is) = token_word text w r o.up_to o.some ∙ word_no_colon w r o.some o.no_colon ∙ ap (operator_or r) (operator_is t w is)
token_is text _ _ (selects {path = p} {middle = m} {rest = r} {wanted = w} begins wants) = path_is text p m begins ∙ ap (with_path p) (wanted_is m w r wants)

token_refused : (text : List ℕ) (reason : QueryReason) → RefusesToken text reason → token_in text ≡ Err reason
token_refused text _ (no_path {rest = r} is) = ap token_in is
token_refused text _ (unquoted_path u) =
    ap token_in u.text_is ∙ rw (quote_no_opening u.quote u.is_quote, quote_no_closing u.quote u.is_quote, u.is_quote, not_closed (λ b. b == u.quote) u.inner u.inside) refl
token_refused text _ (quoted_alone {path = p} {rest = r} q no_colon) = token_quoted text p r q ∙ quoted_no_colon q.quote p r no_colon
token_refused text _ (word_alone {word = w} {rest = r} o none) = token_word text w r o.up_to o.some ∙ word_no_colon w r o.some o.no_colon ∙ ap (operator_or r) (no_operator w none)
token_refused text _ (wants_nothing {path = p} {rest = r} {reason = e} begins refuses) = path_is text p r begins ∙ ap (with_path p) (wanted_refused r e refuses)

pub one_token : (text : List ℕ) (a b : QueryToken) (rest left : List ℕ) → BeginsWithToken text a rest → BeginsWithToken text b left → (a ≡ b) × (rest ≡ left)
one_token text a b rest left begins other = let same : ◌≡◌ {A = Answer QueryToken} (Ok (a, rest)) (Ok (b, left)) = sym (token_is text a rest begins) ∙ token_is text b left other in
    let pair : ◌≡◌ {A = QueryToken × List ℕ} (a, rest) (b, left) = cc in (ap (λ (p : QueryToken × List ℕ). p.0) pair, ap (λ (p : QueryToken × List ℕ). p.1) pair)

pub no_refusal : (text : List ℕ) (token : QueryToken) (rest : List ℕ) (reason : QueryReason) → BeginsWithToken text token rest → RefusesToken text reason → ⊥
no_refusal text token rest reason begins refuses = let same : ◌≡◌ {A = Answer QueryToken} (Ok (token, rest)) (Err reason) = sym (token_is text token rest begins) ∙ token_refused text reason refuses in cc

pub one_reason : (text : List ℕ) (a b : QueryReason) → RefusesToken text a → RefusesToken text b → a ≡ b
one_reason text a b refuses other = let same : ◌≡◌ {A = Answer QueryToken} (Err a) (Err b) = sym (token_refused text a refuses) ∙ token_refused text b other in cc
