-- A word where a value comes is passed.
use Rattle.std.proofs.Common.{◌≡◌, ℕ, List, [], ◌∷◌, ◌++◌, length, take, drop, Bool, true, false, cond, refl, sym, ap, ◌∙◌, subst, Option, Some, None, Ok, option_and_then}
use Rattle.std.proofs.lemmas.Bool.{ne_eqb, false≢true, and_parts}
use Rattle.std.proofs.lemmas.List.{take-append-drop}
use Rattle.std.proofs.lemmas.Slice.Eq.{bytes_eq-Decides}
use Rattle.std.specs.Char.{is_ascii_digit}
use Rattle.json.specs.Ascii.{true_text, false_text, null_text}
use Rattle.json.specs.Token as token
use Rattle.json.specs.Token.{Token}
use Rattle.json.specs.Align.{is_good}
use Rattle.json.specs.Word.{ends_word, after_minus, after_whole, after_fraction, after_exponent, after_number, number_before, literal, word}
use Rattle.json.specs.Lex as lex
use Rattle.tv_json.specs.Faults.{next}
use Rattle.tv_json.specs.declared.json_expected.JsonWord.TheVariants as words
use Rattle.tv_json.specs.declared.json_place.ListKind.{ListKind}
use Rattle.tv_json.specs.declared.json_place.NumberPart.TheVariants as part
use Rattle.tv_json.specs.declared.json_place.Place.{Place}
use Rattle.tv_json.specs.declared.json_place.Place.TheVariants as place
use Rattle.tv_json.proofs.Accepted.{Accepts, at, is_or_not, by_digit}
use Rattle.tv_json.proofs.AcceptedWords.{GoesOn, one_byte, word_ends, number_ends, whole_part}

pub and_then_some : {A B : Type 0} (f : A → Option B) (o : Option A) (r : B) → option_and_then f o ≡ Some r → (a : A) × (o ≡ Some a) × (f a ≡ Some r)
and_then_some f None r e = absurd (cc)
and_then_some f (Some a) r e = (a, refl, e)

-- the first value of an array, or any other
abbrev pub value_place : Bool → Place
value_place true = place.ValueOrEnd
value_place false = place.Value

module _ (lists : List ListKind) (first : Bool) where
  -- a word is passed there, up to this rest
  abbrev pub Word : List ℕ → List ℕ → Type 0
  Word rest t = GoesOn (Accepts (at place.AfterValue lists) rest) (lex.lex lex.between rest) (at (value_place first) lists) t

  minus_begins : next (at (value_place first) lists) 45 ≡ Ok (at (place.InNumber part.Minus) lists)
  minus_begins = elim first as (λ b. next (at (value_place b) lists) 45 ≡ Ok (at (place.InNumber part.Minus) lists)) [ true ↦ refl | false ↦ refl ]

  zero_begins : next (at (value_place first) lists) 48 ≡ Ok (at (place.InNumber part.Zero) lists)
  zero_begins = elim first as (λ b. next (at (value_place b) lists) 48 ≡ Ok (at (place.InNumber part.Zero) lists)) [ true ↦ refl | false ↦ refl ]

  digit_begins : (x : ℕ) → is_ascii_digit x ≡ true → (x ≡ 48 → ⊥) → next (at (value_place first) lists) x ≡ Ok (at (place.InNumber part.Whole) lists)
  digit_begins =
      elim first as (λ b. (x : ℕ) → is_ascii_digit x ≡ true → (x ≡ 48 → ⊥) → next (at (value_place b) lists) x ≡ Ok (at (place.InNumber part.Whole) lists)) [
        | true ↦ by_digit (λ x. (x ≡ 48 → ⊥) → next (at place.ValueOrEnd lists) x ≡ Ok (at (place.InNumber part.Whole) lists)) (λ n. absurd (n refl))
            (λ n. refl) (λ n. refl) (λ n. refl) (λ n. refl) (λ n. refl) (λ n. refl) (λ n. refl) (λ n. refl) (λ n. refl)
        | false ↦ by_digit (λ x. (x ≡ 48 → ⊥) → next (at place.Value lists) x ≡ Ok (at (place.InNumber part.Whole) lists)) (λ n. absurd (n refl))
            (λ n. refl) (λ n. refl) (λ n. refl) (λ n. refl) (λ n. refl) (λ n. refl) (λ n. refl) (λ n. refl) (λ n. refl)
      ]

  digit_follows : (x : ℕ) → is_ascii_digit x ≡ true → (x ≡ 48 → ⊥) → next (at (place.InNumber part.Minus) lists) x ≡ Ok (at (place.InNumber part.Whole) lists)
  digit_follows =
      by_digit (λ x. (x ≡ 48 → ⊥) → next (at (place.InNumber part.Minus) lists) x ≡ Ok (at (place.InNumber part.Whole) lists)) (λ n. absurd (n refl))
      (λ n. refl) (λ n. refl) (λ n. refl) (λ n. refl) (λ n. refl) (λ n. refl) (λ n. refl) (λ n. refl) (λ n. refl)

  module _ (rest : List ℕ) (ended : ends_word rest ≡ true) where
    after_sign_of :
        (t mid left : List ℕ) → after_whole (after_minus t) ≡ Some mid → after_fraction mid ≡ Some left → after_exponent left ≡ Some rest → Word rest t
    after_sign_of [] mid left e f g =
        whole_part lists _ _ rest (λ p w. number_ends lists p w rest ended) _ zero_begins digit_begins [] mid left e f g
    after_sign_of (x ∷ xs) mid left e f g =
        let P : ℕ → Type 0 = λ y. after_whole (after_minus (y ∷ xs)) ≡ Some mid → Word rest (y ∷ xs) in
        let go : P x = is_or_not P x 45
        (λ e. one_byte 45 xs minus_begins refl
        (whole_part lists _ _ rest (λ p w. number_ends lists p w rest ended) _ refl digit_follows xs mid left e f g))
        (λ n e. let same : after_minus (x ∷ xs) ≡ x ∷ xs = ap (λ b. cond b xs (x ∷ xs)) (ne_eqb x 45 n) in
        whole_part lists _ _ rest (λ p w. number_ends lists p w rest ended) _ zero_begins digit_begins (x ∷ xs) mid left
        (sym (ap after_whole same) ∙ e) f g) in
        go e

    pub number_passes : (t : List ℕ) → after_number t ≡ Some rest → Word rest t
    unfolding after_number
    number_passes t e =
        let a = and_then_some after_exponent _ rest e in
        let b = and_then_some after_fraction (after_whole (after_minus t)) a.0 a.1 in
        after_sign_of t b.0 a.0 b.1 b.2 a.2

pub data WordToken : Token → Type 0 where
  is_number : (s : List ℕ) → WordToken (token.number s)
  is_boolean : (b : Bool) → WordToken (token.boolean b)
  is_null : WordToken token.null

pub record Passed (lists : List ListKind) (first : Bool) (t : List ℕ) (k : Token) : Type 0 where
  pub is_word : WordToken k
  pub rest : List ℕ
  pub passed : Word lists first rest t

choose : (b : Bool) (x y : Token) (P : Token → Type 0) → (is_good x ≡ true → P x) → (is_good y ≡ true → P y) → is_good (cond b x y) ≡ true → P (cond b x y)
choose true x y P f g = f
choose false x y P f g = g

if_passed : (b : Bool) (k : Token) (P : Token → Type 0) → (b ≡ true → P k) → is_good (cond b k token.bad) ≡ true → P (cond b k token.bad)
if_passed true k P f h = f refl
if_passed false k P f h = absurd (false≢true h)

module _ (lists : List ListKind) (first : Bool) where
  literal_passes :
      (name : List ℕ) (k : Token) → WordToken k →
      ((rest : List ℕ) → GoesOn (Accepts (at place.AfterValue lists) rest) (lex.lex lex.between rest) (at place.AfterValue lists) rest → Word lists first rest (name ++ rest)) →
      (t : List ℕ) → is_good (literal name k t) ≡ true → Passed lists first t (literal name k t)
  literal_passes name k is letters t =
      if_passed _ k (λ r. Passed lists first t r)
      (λ e. let both = and_parts _ _ e in
      let rest = drop (length name) t in
      let front : name ≡ take (length name) t = (bytes_eq-Decides name (take (length name) t)).0 both.0 in
      let whole : name ++ rest ≡ t = ap (λ l. l ++ rest) front ∙ take-append-drop (length name) t in
      record { is_word = is; rest = rest; passed = subst (Word lists first rest) whole (letters rest (λ a. a, word_ends rest both.1)) })

  number_word : (t : List ℕ) (after : Option (List ℕ)) → after_number t ≡ after → is_good (number_before t after) ≡ true → Passed lists first t (number_before t after)
  number_word t None e = λ h. absurd (false≢true h)
  number_word t (Some rest) e =
      if_passed (ends_word rest) _ (λ r. Passed lists first t r)
      (λ ended. record { is_word = is_number _; rest = rest; passed = number_passes lists first rest ended t e })

  pub t_begins : next (at (value_place first) lists) 116 ≡ Ok (at (place.InWord words.True 1) lists)
  t_begins = elim first as (λ b. next (at (value_place b) lists) 116 ≡ Ok (at (place.InWord words.True 1) lists)) [ true ↦ refl | false ↦ refl ]

  pub f_begins : next (at (value_place first) lists) 102 ≡ Ok (at (place.InWord words.False 1) lists)
  f_begins = elim first as (λ b. next (at (value_place b) lists) 102 ≡ Ok (at (place.InWord words.False 1) lists)) [ true ↦ refl | false ↦ refl ]

  pub n_begins : next (at (value_place first) lists) 110 ≡ Ok (at (place.InWord words.Null 1) lists)
  n_begins = elim first as (λ b. next (at (value_place b) lists) 110 ≡ Ok (at (place.InWord words.Null 1) lists)) [ true ↦ refl | false ↦ refl ]

  pub word_passes : (t : List ℕ) → is_good (word t) ≡ true → Passed lists first t (word t)
  unfolding word
  word_passes t =
      choose _ _ _ (Passed lists first t)
      (literal_passes true_text (token.boolean true) (is_boolean true)
      (λ rest h. one_byte 116 _ t_begins refl (one_byte 114 _ refl refl (one_byte 117 _ refl refl (one_byte 101 _ refl refl h)))) t)
      (choose _ _ _ (Passed lists first t)
      (literal_passes false_text (token.boolean false) (is_boolean false)
      (λ rest h. one_byte 102 _ f_begins refl (one_byte 97 _ refl refl (one_byte 108 _ refl refl (one_byte 115 _ refl refl (one_byte 101 _ refl refl h))))) t)
      (choose _ _ _ (Passed lists first t)
      (literal_passes null_text token.null is_null
      (λ rest h. one_byte 110 _ n_begins refl (one_byte 117 _ refl refl (one_byte 108 _ refl refl (one_byte 108 _ refl refl h)))) t)
      (number_word t (after_number t) refl)))
