-- First bytes, and parts of texts up to a byte.
use Rattle.std.proofs.Common.{◌≡◌, ◌≢◌, ◌==◌, ℕ, zero, suc, ◌+◌, ◌<◌, List, [], ◌∷◌, ◌++◌, length, take, drop, get_or, Bool, true, false, refl, sym, subst, ap, ◌∙◌, arith, append-nil, append_assoc}
use borrow.Author.Tests.{eqb-true}
use Rattle.std.proofs.Math.Seq.{take-append-add, drop-append-add, get_or-append_seam}
use Rattle.std.proofs.lemmas.Bool.Decides.{nat_tests}
use Rattle.std.proofs.lemmas.List.{take-append-drop, length-append}
use Rattle.std.proofs.lemmas.Str.{IsCharBoundary-after_ascii}
use Rattle.std.specs.Str.{IsCharBoundary, IsUtf8, NonePass}
use Rattle.tv_query.specs.Refusals.{IsUnclosed, IsUnquoted, RefusesWanted, nothing}
use Rattle.std.specs.Char.{is_ascii_whitespace}
use Rattle.tv_query.specs.Tokens.{BeginsWithQuote, BeginsWithout, IsBracketed, IsEmptyOrBegins, IsOperator, IsQuoted, IsUpTo, QueryToken, and_word, clause, closed, closes_range, ends_path, ends_word, is_quote, not_word, opened, opens_range, or_word, stops_at}
use Rattle.tv_query.specs.declared.query_error.QueryReason.TheVariants.{NoText}
use Rattle.tv_query.specs.declared.token.Stop.{Stop}
use Rattle.tv_query.specs.declared.token.Stop.TheVariants as stop

none_before : (p : ℕ → Bool) (s : List ℕ) (n : ℕ) → ((k : ℕ) → k < n → p (get_or s k 0) ≡ false) → NonePass p (take n s)
none_before p s zero each = tt
none_before p [] (suc n) each = tt
none_before p (x ∷ xs) (suc n) each = (each 0 (omega arith), none_before p xs n (λ k lt. each (suc k) (omega arith)))

ends_at : (p : ℕ → Bool) (s : List ℕ) (n : ℕ) → (n < length s → p (get_or s n 0) ≡ true) → IsEmptyOrBegins p (drop n s)
ends_at p [] zero ended = tt
ends_at p (x ∷ xs) zero ended = ended (omega arith)
ends_at p [] (suc n) ended = tt
ends_at p (x ∷ xs) (suc n) ended = ends_at p xs n (λ lt. ended (omega arith))

pub up_to : (p : ℕ → Bool) (s word rest : List ℕ) (n : ℕ) → ((k : ℕ) → k < n → p (get_or s k 0) ≡ false) → (n < length s → p (get_or s n 0) ≡ true)
    → word ≡ take n s → rest ≡ drop n s → IsUpTo p s word rest
up_to p s word rest n each ended is_word is_rest = record {
  text_is = sym (ap (λ (w : List ℕ). w ++ rest) is_word ∙ ap (λ (r : List ℕ). take n s ++ r) is_rest ∙ take-append-drop n s);
  before = subst (NonePass p) (sym is_word) (none_before p s n each);
  ends = subst (IsEmptyOrBegins p) (sym is_rest) (ends_at p s n ended);
}

-- ---- empty texts

pub is_empty : {A : Type 0} (s : List A) → true ≡ (length s == 0) → s ≡ []
is_empty [] is = refl
is_empty (x ∷ xs) is = absurd (omega (arith, eqb-true (length (x ∷ xs)) 0 (sym is)))

pub not_empty : {A : Type 0} (s : List A) → false ≡ (length s == 0) → s ≢ []
not_empty [] is = λ e. absurd (cc)
not_empty (x ∷ xs) is = λ e. cc

-- ---- quotes

pub quoted_by : (quote : Stop) (text after inner rest last : List ℕ) → BeginsWithQuote text quote → (text ≢ [] → text ≡ get_or text 0 0 ∷ after) → IsUpTo (stops_at quote) after inner rest → rest ≢ []
    → (rest ≢ [] → rest ≡ get_or rest 0 0 ∷ last) → IsQuoted text inner last
quoted_by stop.DoubleQuote (b ∷ bs) after inner (q ∷ qs) last begins cut parts some cut_rest = record {
  quote = 34;
  is_quote = refl;
  text_is =
      cut (λ e. cc) ∙ ap (λ (n : ℕ). n ∷ after) begins ∙ ap (λ (l : List ℕ). 34 ∷ l) (parts.text_is ∙ ap (λ (l : List ℕ). inner ++ l) (cut_rest some ∙ ap (λ (n : ℕ). n ∷ last) (grind (arith, nat_tests, parts.ends))));
  inside = parts.before;
}
quoted_by stop.SingleQuote (b ∷ bs) after inner (q ∷ qs) last begins cut parts some cut_rest = record {
  quote = 39;
  is_quote = refl;
  text_is =
      cut (λ e. cc) ∙ ap (λ (n : ℕ). n ∷ after) begins ∙ ap (λ (l : List ℕ). 39 ∷ l) (parts.text_is ∙ ap (λ (l : List ℕ). inner ++ l) (cut_rest some ∙ ap (λ (n : ℕ). n ∷ last) (grind (arith, nat_tests, parts.ends))));
  inside = parts.before;
}
quoted_by quote text after inner [] last begins cut parts some cut_rest = absurd (some refl)
quoted_by quote [] after inner rest last begins cut parts some cut_rest = absurd begins
quoted_by stop.Path (b ∷ bs) after inner (q ∷ qs) last begins cut parts some cut_rest = absurd begins
quoted_by stop.Word (b ∷ bs) after inner (q ∷ qs) last begins cut parts some cut_rest = absurd begins
quoted_by stop.Bracket (b ∷ bs) after inner (q ∷ qs) last begins cut parts some cut_rest = absurd begins

whole_part : (text word rest : List ℕ) → text ≡ word ++ rest → rest ≡ [] → text ≡ word
whole_part text word rest is none = is ∙ ap (λ (l : List ℕ). word ++ l) none ∙ append-nil word

pub unquoted_by : (quote : Stop) (text after inner rest : List ℕ) → BeginsWithQuote text quote → (text ≢ [] → text ≡ get_or text 0 0 ∷ after) → IsUpTo (stops_at quote) after inner rest → rest ≡ [] → IsUnquoted text
unquoted_by quote [] after inner rest begins cut parts none = absurd begins
unquoted_by stop.DoubleQuote (b ∷ bs) after inner rest begins cut parts none = record {
  quote = 34;
  inner = inner;
  is_quote = refl;
  text_is = cut (λ e. cc) ∙ ap (λ (n : ℕ). n ∷ after) begins ∙ ap (λ (l : List ℕ). 34 ∷ l) (whole_part after inner rest parts.text_is none);
  inside = parts.before;
}
unquoted_by stop.SingleQuote (b ∷ bs) after inner rest begins cut parts none = record {
  quote = 39;
  inner = inner;
  is_quote = refl;
  text_is = cut (λ e. cc) ∙ ap (λ (n : ℕ). n ∷ after) begins ∙ ap (λ (l : List ℕ). 39 ∷ l) (whole_part after inner rest parts.text_is none);
  inside = parts.before;
}
unquoted_by stop.Path (b ∷ bs) after inner rest begins cut parts none = absurd begins
unquoted_by stop.Word (b ∷ bs) after inner rest begins cut parts none = absurd begins
unquoted_by stop.Bracket (b ∷ bs) after inner rest begins cut parts none = absurd begins

-- ---- brackets

closes_ascii : (b : ℕ) → closes_range b ≡ true → b < 128
closes_ascii b closes = grind (arith, nat_tests)

not_both : (b : ℕ) → opens_range b ≡ true → closes_range b ≡ true → ⊥
not_both b opens closes = grind (arith, nat_tests)

pub cut_after : (text front rest : List ℕ) → IsUtf8 text → IsUpTo closes_range text front rest → rest ≢ [] → IsCharBoundary text (length front + 1)
cut_after text front [] utf8 parts some = absurd (some refl)
cut_after text front (b ∷ bs) utf8 parts some =
    let byte : get_or text (length front) 0 ≡ b = rw parts.text_is (get_or-append_seam front b bs 0) in
    let ascii : b < 128 = closes_ascii b parts.ends in
    IsCharBoundary-after_ascii text (length front) utf8 (omega (arith, ap length parts.text_is, length-append front (b ∷ bs))) (omega (arith, byte, ascii))

pub bracketed_by : (text front rest range after : List ℕ) → IsUpTo closes_range text front rest → rest ≢ [] → opens_range (get_or text 0 0) ≡ true → range ≡ take (length front + 1) text → after ≡ drop (length front + 1) text → IsBracketed text range after
bracketed_by text front [] range after parts some opens is_range is_after = absurd (some refl)
bracketed_by text [] (b ∷ bs) range after parts some opens is_range is_after = absurd (not_both b (subst (λ (l : List ℕ). opens_range (get_or l 0 0) ≡ true) parts.text_is opens) parts.ends)
bracketed_by text (o ∷ os) (b ∷ bs) range after parts some opens is_range is_after =
    let range_is : range ≡ o ∷ (os ++ b ∷ []) = is_range ∙ ap (λ (l : List ℕ). take (length (o ∷ os) + 1) l) parts.text_is ∙ take-append-add (o ∷ os) (b ∷ bs) 1 in
    let after_is : after ≡ bs = is_after ∙ ap (λ (l : List ℕ). drop (length (o ∷ os) + 1) l) parts.text_is ∙ drop-append-add (o ∷ os) (b ∷ bs) 1 in
    record {
      opening = o;
      middle = os;
      closing = b;
      opens = subst (λ (l : List ℕ). opens_range (get_or l 0 0) ≡ true) parts.text_is opens;
      closes = parts.ends;
      inside = parts.before.1;
      inner_is = range_is;
      text_is = parts.text_is ∙ sym (append_assoc (o ∷ os) (b ∷ []) bs) ∙ ap (λ (l : List ℕ). l ++ bs) (sym range_is) ∙ ap (λ (l : List ℕ). range ++ l) (sym after_is);
    }

pub unclosed_by : (text front rest : List ℕ) → IsUpTo closes_range text front rest → rest ≡ [] → opens_range (get_or text 0 0) ≡ true → IsUnclosed text
unclosed_by text [] rest parts none opens = absurd (cc (subst (λ (l : List ℕ). opens_range (get_or l 0 0) ≡ true) (whole_part text [] rest parts.text_is none) opens))
unclosed_by text (o ∷ os) rest parts none opens = record {
  opening = o;
  inner = os;
  opens = subst (λ (l : List ℕ). opens_range (get_or l 0 0) ≡ true) parts.text_is opens;
  text_is = whole_part text (o ∷ os) rest parts.text_is none;
  inside = parts.before.1;
}

-- ---- words

pub nothing_wanted : (text word rest : List ℕ) → IsUpTo ends_word text word rest → word ≡ [] → BeginsWithout is_quote text → RefusesWanted text NoText
nothing_wanted text word rest parts none no_quote = nothing no_quote (subst (IsEmptyOrBegins ends_word) (sym (parts.text_is ∙ ap (λ (l : List ℕ). l ++ rest) none)) parts.ends)

pub no_bracket_in : (text word rest : List ℕ) → text ≡ word ++ rest → BeginsWithout opens_range text → BeginsWithout opens_range word
no_bracket_in text [] rest is without = tt
no_bracket_in text (b ∷ bs) rest is without = subst (BeginsWithout opens_range) is without

pub operator_some : (token : QueryToken) (word : List ℕ) → IsOperator token word → word ≢ []
operator_some and_word word is = λ e. cc
operator_some or_word word is = λ e. cc
operator_some not_word word is = λ e. cc
operator_some opened word is = absurd is
operator_some closed word is = absurd is
operator_some (clause path wanted) word is = absurd is

-- what begins with no white space, parenthesis or quote begins with a word or a colon
pub begins_word : (text : List ℕ) → BeginsWithout is_ascii_whitespace text → BeginsWithout (λ b. b == 40) text → BeginsWithout (λ b. b == 41) text → BeginsWithout is_quote text → BeginsWithout ends_word text
begins_word [] no_space no_opening no_closing no_quote = tt
begins_word (b ∷ bs) no_space no_opening no_closing no_quote = grind (arith, nat_tests)

no_other_end : (text rest : List ℕ) → text ≡ rest → text ≢ [] → BeginsWithout ends_word text → IsEmptyOrBegins ends_path rest → BeginsWithout (λ b. b == 58) rest → ⊥
no_other_end text [] is some no_end ends no_colon = some is
no_other_end text (b ∷ bs) is some no_end ends no_colon =
    let plain : ends_word b ≡ false = subst (BeginsWithout ends_word) is no_end in
    grind (arith, nat_tests, plain, ends, no_colon)

-- such a word has a byte or more, where no colon follows
pub word_some : (text word rest : List ℕ) → IsUpTo ends_path text word rest → text ≢ [] → BeginsWithout ends_word text → BeginsWithout (λ b. b == 58) rest → word ≢ []
word_some text (b ∷ bs) rest up_to some no_end no_colon = λ e. cc
word_some text [] rest up_to some no_end no_colon = λ e. no_other_end text rest up_to.text_is some no_end up_to.ends no_colon
