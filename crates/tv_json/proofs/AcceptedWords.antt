-- Numbers and words are passed.
use Rattle.std.proofs.Common.{◌≡◌, ℕ, suc, ◌+◌, List, [], ◌∷◌, drop, Bool, true, false, ◌==◌, ◌||◌, cond, refl, sym, ap, ◌∙◌, subst, arith, Option, Some, None, Ok}
use Rattle.std.proofs.lemmas.Bool.{ne_eqb, true≢false}
use Rattle.std.specs.Char.{is_ascii_digit}
use Rattle.std.specs.List.{prefix_len}
use Rattle.json.specs.Word.{is_operator, is_space, ends_word, after_digits, after_sign, after_whole, after_fraction, after_exponent}
use Rattle.json.specs.Lex as lex
use Rattle.json.specs.Lex.{Class, class, Lexeme, lex_byte}
use Rattle.tv_json.specs.Faults.{next, taken, end_fault}
use Rattle.tv_json.specs.ListKinds.{innermost}
use Rattle.tv_json.specs.Syntax.{step_at, is_whole_number}
use Rattle.tv_json.specs.declared.json_place.ListKind.{ListKind}
use Rattle.tv_json.specs.declared.json_place.NumberPart.{NumberPart}
use Rattle.tv_json.specs.declared.json_place.NumberPart.TheVariants as part
use Rattle.tv_json.specs.declared.json_place.Place.TheVariants as place
use Rattle.tv_json.specs.declared.json_place.Step.{Step}
use Rattle.tv_json.specs.declared.json_place.Step.TheVariants as does
use Rattle.tv_json.specs.declared.json_scan.Scan.{Scan}
use Rattle.tv_json.proofs.Accepted.{Accepts, ends, more, at, is_or_not, by_delimiter, by_digit, class-digit, Says, class-says}

-- A word goes on there: under this condition what is left is passed, and the word leaves these lexemes.
abbrev pub GoesOn : Type 0 → List Lexeme → Scan → List ℕ → Type 0
GoesOn H lexemes s t = (H → Accepts s t) × (lex.lex lex.in_word t ≡ lexemes)

pub one_byte :
    {H : Type 0} {lexemes : List Lexeme} {s u : Scan} (x : ℕ) (xs : List ℕ) → next s x ≡ Ok u → class x ≡ lex.other → GoesOn H lexemes u xs →
    GoesOn H lexemes s (x ∷ xs)
unfolding lex.lex
one_byte x xs e c h = (λ i. more x e (h.0 i), ap (λ k. lex_byte lex.in_word k x xs (λ m. lex.lex m xs)) c ∙ h.1)

-- a word has ended
pub word_ends : (t : List ℕ) → ends_word t ≡ true → lex.lex lex.in_word t ≡ lex.lex lex.between t
unfolding lex.lex
word_ends [] h = refl
word_ends (x ∷ xs) h = go (class x) (class-says x)
  where
    go : (c : Class) → Says c x → lex_byte lex.in_word c x xs (λ m. lex.lex m xs) ≡ lex_byte lex.between c x xs (λ m. lex.lex m xs)
    go lex.quote e = absurd (true≢false (sym h ∙ ap (λ y. is_operator y || is_space y) e))
    go lex.backslash e = absurd (true≢false (sym h ∙ ap (λ y. is_operator y || is_space y) e))
    go lex.operator e = refl
    go lex.space e = refl
    go lex.other e = absurd (true≢false (sym h ∙ (λ i. e.0 i || e.1 i)))

module _ (lists : List ListKind) where
  abbrev pub in_number : NumberPart → Scan
  in_number p = at (place.InNumber p) lists

  pub taken_alike : (p : NumberPart) → is_whole_number p ≡ true → (o : Option Step) → taken (in_number p) o ≡ taken (at place.AfterValue lists) o
  taken_alike part.Minus h o = absurd (true≢false (sym h))
  taken_alike part.Point h o = absurd (true≢false (sym h))
  taken_alike part.LetterE h o = absurd (true≢false (sym h))
  taken_alike part.Sign h o = absurd (true≢false (sym h))
  taken_alike part.Zero h None = refl
  taken_alike part.Zero h (Some (does.To p)) = refl
  taken_alike part.Zero h (Some (does.Begin k)) = refl
  taken_alike part.Zero h (Some does.End) = refl
  taken_alike part.Whole h None = refl
  taken_alike part.Whole h (Some (does.To p)) = refl
  taken_alike part.Whole h (Some (does.Begin k)) = refl
  taken_alike part.Whole h (Some does.End) = refl
  taken_alike part.Fraction h None = refl
  taken_alike part.Fraction h (Some (does.To p)) = refl
  taken_alike part.Fraction h (Some (does.Begin k)) = refl
  taken_alike part.Fraction h (Some does.End) = refl
  taken_alike part.Exponent h None = refl
  taken_alike part.Exponent h (Some (does.To p)) = refl
  taken_alike part.Exponent h (Some (does.Begin k)) = refl
  taken_alike part.Exponent h (Some does.End) = refl

  abbrev Alike : NumberPart → ℕ → Type 0
  Alike p x = step_at (place.InNumber p) (innermost lists) x ≡ step_at place.AfterValue (innermost lists) x

  pub steps_alike : (p : NumberPart) → is_whole_number p ≡ true → (x : ℕ) → (is_operator x || is_space x) ≡ true → Alike p x
  steps_alike part.Minus h = absurd (true≢false (sym h))
  steps_alike part.Point h = absurd (true≢false (sym h))
  steps_alike part.LetterE h = absurd (true≢false (sym h))
  steps_alike part.Sign h = absurd (true≢false (sym h))
  steps_alike part.Zero h = by_delimiter (Alike part.Zero) refl refl refl refl refl refl refl refl refl refl
  steps_alike part.Whole h = by_delimiter (Alike part.Whole) refl refl refl refl refl refl refl refl refl refl
  steps_alike part.Fraction h = by_delimiter (Alike part.Fraction) refl refl refl refl refl refl refl refl refl refl
  steps_alike part.Exponent h = by_delimiter (Alike part.Exponent) refl refl refl refl refl refl refl refl refl refl

  pub ends_alike : (p : NumberPart) → is_whole_number p ≡ true → end_fault (at place.AfterValue lists) ≡ None → end_fault (in_number p) ≡ None
  ends_alike part.Minus h e = absurd (true≢false (sym h))
  ends_alike part.Point h e = absurd (true≢false (sym h))
  ends_alike part.LetterE h e = absurd (true≢false (sym h))
  ends_alike part.Sign h e = absurd (true≢false (sym h))
  ends_alike part.Zero h e = e
  ends_alike part.Whole h e = e
  ends_alike part.Fraction h e = e
  ends_alike part.Exponent h e = e

  accepts_number : (p : NumberPart) → is_whole_number p ≡ true → (t : List ℕ) → ends_word t ≡ true → Accepts (at place.AfterValue lists) t → Accepts (in_number p) t
  accepts_number p h [] e (ends f) = ends (ends_alike p h f)
  accepts_number p h (x ∷ xs) e (more y f rest) = more y (ap (taken (in_number p)) (steps_alike p h y e) ∙ taken_alike p h _ ∙ f) rest

  -- what follows a whole number follows a value
  pub number_ends :
      (p : NumberPart) → is_whole_number p ≡ true → (t : List ℕ) → ends_word t ≡ true →
      GoesOn (Accepts (at place.AfterValue lists) t) (lex.lex lex.between t) (in_number p) t
  number_ends p h t e = (accepts_number p h t e, word_ends t e)

  module _ (H : Type 0) (lexemes : List Lexeme) where
    abbrev Stays : NumberPart → Type 0
    Stays p = (x : ℕ) → is_ascii_digit x ≡ true → next (in_number p) x ≡ Ok (in_number p)

    digit_turn :
        (p : NumberPart) → Stays p → (x n : ℕ) (xs : List ℕ) → (GoesOn H lexemes (in_number p) (drop n xs) → GoesOn H lexemes (in_number p) xs) →
        (b : Bool) → is_ascii_digit x ≡ b → GoesOn H lexemes (in_number p) (drop (cond b (1 + n) 0) (x ∷ xs)) → GoesOn H lexemes (in_number p) (x ∷ xs)
    digit_turn p stays x n xs again false d k = k
    digit_turn p stays x n xs again true d k =
        let one : 1 + n ≡ suc n = omega arith in
        one_byte x xs (stays x d) (class-digit x d) (again (subst (λ m. GoesOn H lexemes (in_number p) (drop m (x ∷ xs))) one k))

    digits_pass : (p : NumberPart) → Stays p → (t : List ℕ) → GoesOn H lexemes (in_number p) (drop (prefix_len is_ascii_digit t) t) → GoesOn H lexemes (in_number p) t
    digits_pass p stays [] h = h
    digits_pass p stays (x ∷ xs) h =
        digit_turn p stays x (prefix_len is_ascii_digit xs) xs (λ k. digits_pass p stays xs k) (is_ascii_digit x) refl h

    after_one : (n x : ℕ) (xs rest : List ℕ) → cond ((1 + n) == 0) None (Some (drop (1 + n) (x ∷ xs))) ≡ Some rest → drop n xs ≡ rest
    after_one n x xs rest e =
        let one : suc n ≡ 1 + n = omega arith in
        let more : ((1 + n) == 0) ≡ false = ne_eqb (1 + n) 0 (λ z. omega arith) in
        let some : ◌≡◌ {A = Option (List ℕ)} (Some (drop (1 + n) (x ∷ xs))) (Some rest) =
        subst (λ b. cond b None (Some (drop (1 + n) (x ∷ xs))) ≡ Some rest) more e in
        let left : drop (1 + n) (x ∷ xs) ≡ rest = cc in ap (λ m. drop m (x ∷ xs)) one ∙ left

    none_goes : {P : Type 0} {rest : List ℕ} → ◌≡◌ {A = Option (List ℕ)} None (Some rest) → P
    none_goes e = absurd (cc)

    same_rest : {t rest : List ℕ} → ◌≡◌ {A = Option (List ℕ)} (Some t) (Some rest) → t ≡ rest
    same_rest e = cc

    -- digits, at least one
    digits_from :
        (s : Scan) (p : NumberPart) (x : ℕ) → (is_ascii_digit x ≡ true → next s x ≡ Ok (in_number p)) → Stays p → (xs rest : List ℕ) →
        after_digits (x ∷ xs) ≡ Some rest → GoesOn H lexemes (in_number p) rest → GoesOn H lexemes s (x ∷ xs)
    digits_from s p x first stays xs rest e h = go (is_ascii_digit x) refl e
      where
        go : (b : Bool) → is_ascii_digit x ≡ b →
            cond (cond b (1 + prefix_len is_ascii_digit xs) 0 == 0) None (Some (drop (cond b (1 + prefix_len is_ascii_digit xs) 0) (x ∷ xs))) ≡ Some rest →
            GoesOn H lexemes s (x ∷ xs)
        go false d k = none_goes k
        go true d k =
            let left = after_one (prefix_len is_ascii_digit xs) x xs rest k in
            one_byte x xs (first d) (class-digit x d) (digits_pass p stays xs (subst (GoesOn H lexemes (in_number p)) (sym left) h))

    some_digits :
        (s : Scan) (p : NumberPart) → ((x : ℕ) → is_ascii_digit x ≡ true → next s x ≡ Ok (in_number p)) → Stays p → (t rest : List ℕ) →
        after_digits t ≡ Some rest → GoesOn H lexemes (in_number p) rest → GoesOn H lexemes s t
    some_digits s p first stays [] rest e h = none_goes e
    some_digits s p first stays (x ∷ xs) rest e h = digits_from s p x (first x) stays xs rest e h

    abbrev Goes : Scan → Option (List ℕ) → List ℕ → Type 0
    Goes s after t = (rest : List ℕ) → after ≡ Some rest → GoesOn H lexemes (in_number part.Exponent) rest → GoesOn H lexemes s t

    signed : (t : List ℕ) → Goes (in_number part.LetterE) (after_digits (after_sign t)) t
    signed [] = λ rest e h. none_goes e
    signed (x ∷ xs) =
        let P : ℕ → Type 0 = λ y. Goes (in_number part.LetterE) (after_digits (after_sign (y ∷ xs))) (y ∷ xs) in
        let sign : (y : ℕ) → next (in_number part.LetterE) y ≡ Ok (in_number part.Sign) → class y ≡ lex.other →
        after_sign (y ∷ xs) ≡ xs → P y =
        λ y e c same rest f h. one_byte y xs e c
        (some_digits (in_number part.Sign) part.Exponent (by_digit _ refl refl refl refl refl refl refl refl refl refl)
        (by_digit _ refl refl refl refl refl refl refl refl refl refl) xs rest (sym (ap after_digits same) ∙ f) h) in
        is_or_not P x 45 (sign 45 refl refl refl) (λ minus. is_or_not P x 43 (sign 43 refl refl refl) (λ plus rest f h.
        let none : ((x == 45) || (x == 43)) ≡ false = (λ i. ne_eqb x 45 minus i || ne_eqb x 43 plus i) in
        let same : after_sign (x ∷ xs) ≡ x ∷ xs = ap (λ b. cond b xs (x ∷ xs)) none in
        some_digits (in_number part.LetterE) part.Exponent (by_digit _ refl refl refl refl refl refl refl refl refl refl)
        (by_digit _ refl refl refl refl refl refl refl refl refl refl) (x ∷ xs) rest (sym (ap after_digits same) ∙ f) h))

    -- the exponent of a number, or none
    exponent :
        (p : NumberPart) → next (in_number p) 101 ≡ Ok (in_number part.LetterE) → next (in_number p) 69 ≡ Ok (in_number part.LetterE) → (t rest : List ℕ) →
        after_exponent t ≡ Some rest → GoesOn H lexemes (in_number part.Exponent) rest → GoesOn H lexemes (in_number p) rest → GoesOn H lexemes (in_number p) t
    exponent p lower upper [] rest = λ e h k. subst (GoesOn H lexemes (in_number p)) (sym (same_rest e)) k
    exponent p lower upper (x ∷ xs) rest =
        let P : ℕ → Type 0 = λ y. after_exponent (y ∷ xs) ≡ Some rest → GoesOn H lexemes (in_number part.Exponent) rest →
        GoesOn H lexemes (in_number p) rest → GoesOn H lexemes (in_number p) (y ∷ xs) in
        is_or_not P x 101 (λ e h k. one_byte 101 xs lower refl (signed xs rest e h)) (λ n0.
        is_or_not P x 69 (λ e h k. one_byte 69 xs upper refl (signed xs rest e h)) (λ n1 e h k.
        let none : ((x == 101) || (x == 69)) ≡ false = (λ i. ne_eqb x 101 n0 i || ne_eqb x 69 n1 i) in
        let same : ◌≡◌ {A = Option (List ℕ)} (Some (x ∷ xs)) (Some rest) =
        sym (ap (λ b. cond b (after_digits (after_sign xs)) (Some (x ∷ xs))) none) ∙ e in
        subst (GoesOn H lexemes (in_number p)) (sym (same_rest same)) k))

    module _ (rest : List ℕ) (last : (p : NumberPart) → is_whole_number p ≡ true → GoesOn H lexemes (in_number p) rest) where
      abbrev DigitsOf : NumberPart → Scan → Type 0
      DigitsOf p s = (x : ℕ) → is_ascii_digit x ≡ true → next s x ≡ Ok (in_number p)

      -- the fraction of a number, or none, and the rest
      fraction :
          (p : NumberPart) → is_whole_number p ≡ true → next (in_number p) 46 ≡ Ok (in_number part.Point) → next (in_number p) 101 ≡ Ok (in_number part.LetterE) →
          next (in_number p) 69 ≡ Ok (in_number part.LetterE) → (t left : List ℕ) → after_fraction t ≡ Some left → after_exponent left ≡ Some rest →
          GoesOn H lexemes (in_number p) t
      fraction p whole dot lower upper [] left = λ e f.
          subst (GoesOn H lexemes (in_number p)) (sym (same_rest e)) (exponent p lower upper left rest f (last part.Exponent refl) (last p whole))
      fraction p whole dot lower upper (x ∷ xs) left =
          let P : ℕ → Type 0 = λ y. after_fraction (y ∷ xs) ≡ Some left → after_exponent left ≡ Some rest → GoesOn H lexemes (in_number p) (y ∷ xs) in
          is_or_not P x 46
          (λ e f. one_byte 46 xs dot refl (some_digits (in_number part.Point) part.Fraction (by_digit _ refl refl refl refl refl refl refl refl refl refl)
          (by_digit _ refl refl refl refl refl refl refl refl refl refl) xs left e
          (exponent part.Fraction refl refl left rest f (last part.Exponent refl) (last part.Fraction refl))))
          (λ n e f. let same : ◌≡◌ {A = Option (List ℕ)} (Some (x ∷ xs)) (Some left) =
          sym (ap (λ b. cond b (after_digits xs) (Some (x ∷ xs))) (ne_eqb x 46 n)) ∙ e in
          subst (GoesOn H lexemes (in_number p)) (sym (same_rest same)) (exponent p lower upper left rest f (last part.Exponent refl) (last p whole)))

      -- the digits before the point, and the rest
      pub whole_part :
          (s : Scan) → next s 48 ≡ Ok (in_number part.Zero) → ((x : ℕ) → is_ascii_digit x ≡ true → (x ≡ 48 → ⊥) → next s x ≡ Ok (in_number part.Whole)) →
          (t mid left : List ℕ) → after_whole t ≡ Some mid → after_fraction mid ≡ Some left → after_exponent left ≡ Some rest → GoesOn H lexemes s t
      whole_part s naught digit [] mid left = λ e f g. none_goes e
      whole_part s naught digit (x ∷ xs) mid left =
          let P : ℕ → Type 0 = λ y. after_whole (y ∷ xs) ≡ Some mid → after_fraction mid ≡ Some left → after_exponent left ≡ Some rest → GoesOn H lexemes s (y ∷ xs) in
          is_or_not P x 48
          (λ e f g. one_byte 48 xs naught refl (subst (GoesOn H lexemes (in_number part.Zero)) (sym (same_rest e)) (fraction part.Zero refl refl refl refl mid left f g)))
          (λ n e f g. let digits : after_digits (x ∷ xs) ≡ Some mid = sym (ap (λ b. cond b (Some xs) (after_digits (x ∷ xs))) (ne_eqb x 48 n)) ∙ e in
          digits_from s part.Whole x (λ d. digit x d n) (by_digit _ refl refl refl refl refl refl refl refl refl refl) xs mid digits
          (fraction part.Whole refl refl refl refl mid left f g))
