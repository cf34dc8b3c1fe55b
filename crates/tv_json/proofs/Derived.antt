-- A text that the grammar derives is passed whole.
use Rattle.std.proofs.Common.{◌≡◌, ℕ, suc, ◌+◌, ◌*◌, ◌<◌, ◌≤◌, List, [], ◌∷◌, ◌++◌, length, Bool, true, false, not, ◌==◌, ◌||◌, if◌then◌else◌, nat_lt, refl, sym, ap, ◌∙◌, subst, arith, inl, inr, Some, None, Ok, option_map}
use Rattle.std.proofs.lemmas.Bool.{eqb-true, ne_eqb, true≢false, and_parts, not-true, ltb-true, ltb-false, eqb-false, le-ltb, or_cases}
use Rattle.std.specs.Char.{is_ascii_digit, digit_value}
use Rattle.json.specs.Text.{is_high_surrogate, is_low_surrogate}
use Rattle.json.specs.Word.{is_operator, is_space}
use Rattle.serde_json.specs.Read.{max_depth}
use Rattle.tv_json.specs.Faults.{start, next, taken, Leads, no_bytes, byte, IsSyntax}
use Rattle.tv_json.specs.Grammar.{Optional, absent, present, Repeated, no_more, another, IsOne, one, IsSpace, IsStructural, structural, AreDigits, AreSomeDigits, some_digits, minus, IsInt, IsFrac, frac, IsExp, exp, IsNumber, IsUnit, spells, IsChar, unescaped, escaped, IsString, IsValue, the_false, the_null, the_true, an_object, an_array, a_number, a_string, IsObject, IsMembers, IsMember, IsArray, IsElements, one_value, more_values, one_member, more_members, IsJsonText, json_text, zero as zero_digit, from_one, number as the_number, unit as unit_char, pair as pair_char, string as the_string, member as the_member, object as the_object, array as the_array, empty_object, empty_array}
use Rattle.tv_json.specs.Syntax.{string_ends, is_short_escape, is_e, is_sign, is_whole_number}
use Rattle.tv_json.specs.declared.json_expected.LowSurrogatePart.TheVariants as low
use Rattle.tv_json.specs.declared.json_place.EscapePart.{EscapePart}
use Rattle.tv_json.specs.declared.json_place.EscapePart.TheVariants as escape
use Rattle.tv_json.specs.declared.json_place.ListKind.{ListKind}
use Rattle.tv_json.specs.declared.json_place.ListKind.TheVariants.{Array, Object}
use Rattle.tv_json.specs.declared.json_place.NumberPart.{NumberPart}
use Rattle.tv_json.specs.declared.json_place.NumberPart.TheVariants as part
use Rattle.tv_json.specs.declared.json_place.Place.{Place}
use Rattle.tv_json.specs.declared.json_place.Place.TheVariants as place
use Rattle.tv_json.specs.declared.json_place.Step.TheVariants as does
use Rattle.tv_json.specs.declared.json_place.StringRole.{StringRole}
use Rattle.tv_json.specs.declared.json_place.StringRole.TheVariants as role
use Rattle.tv_json.specs.declared.json_scan.Scan.{Scan}
use Rattle.tv_json.proofs.Accepted.{at, is_or_not, by_digit, by_space}
use Rattle.tv_json.proofs.AcceptedWords.{taken_alike, steps_alike, ends_alike}
use Rattle.tv_json.proofs.AcceptedTokens.{value_place, t_begins, f_begins, n_begins}
use Rattle.tv_json.proofs.AcceptedStrings.{hex_unit, first_digit, second_digit, third_digit, fourth_digit, high_third, high_fourth, low_digit, not_high, not_low, below_high, above_high, is_high, is_low, not_13, low_is_high_digit}
use Rattle.tv_json.proofs.AcceptedValues.{is_between, stays, quote_begins, quote_begins_key, brace_begins, bracket_begins, key_place}

pub Leads-append : {s t u : Scan} {xs ys : List ℕ} → Leads s xs t → Leads t ys u → Leads s (xs ++ ys) u
Leads-append no_bytes h = h
Leads-append (byte x e rest) h = byte x e (Leads-append rest h)

pub two_bytes : (P : ℕ → Type 0) (a b : ℕ) → P a → P b → (x : ℕ) → ((x == a) || (x == b)) ≡ true → P x
two_bytes P a b p q x h = elim (or_cases (x == a) (x == b) h) [ inl e ↦ subst P (sym (eqb-true x a e)) p | inr e ↦ subst P (sym (eqb-true x b e)) q ]

module _ (lists : List ListKind) where
  pub spaces_pass : (q : Place) → is_between q ≡ true → {text : List ℕ} → IsSpace text → Leads (at q lists) text (at q lists)
  spaces_pass q b no_more = no_bytes
  spaces_pass q b (another (one x e) rest) = byte x (stays q b lists x e) (spaces_pass q b rest)

  -- ---- numbers

  abbrev num : NumberPart → Scan
  num p = at (place.InNumber p) lists

  abbrev DigitsTo : Scan → NumberPart → Type 0
  DigitsTo s p = (x : ℕ) → is_ascii_digit x ≡ true → next s x ≡ Ok (num p)

  digits_pass : (p : NumberPart) → DigitsTo (num p) p → {text : List ℕ} → AreDigits text → Leads (num p) text (num p)
  digits_pass p again no_more = no_bytes
  digits_pass p again (another (one x d) rest) = byte x (again x d) (digits_pass p again rest)

  some_digits_pass : (s : Scan) (p : NumberPart) → DigitsTo s p → DigitsTo (num p) p → {text : List ℕ} → AreSomeDigits text → Leads s text (num p)
  some_digits_pass s p first again (some_digits (one x d) rest) = byte x (first x d) (digits_pass p again rest)

  -- an exponent may follow
  abbrev Letters : NumberPart → Type 0
  Letters p = (x : ℕ) → is_e x ≡ true → next (num p) x ≡ Ok (num part.LetterE)

  letters : (p : NumberPart) → next (num p) 101 ≡ Ok (num part.LetterE) → next (num p) 69 ≡ Ok (num part.LetterE) → Letters p
  letters p a b = two_bytes (λ x. next (num p) x ≡ Ok (num part.LetterE)) 101 69 a b

  from_sign : {text : List ℕ} → AreSomeDigits text → Leads (num part.Sign) text (num part.Exponent)
  from_sign = some_digits_pass (num part.Sign) part.Exponent (by_digit _ refl refl refl refl refl refl refl refl refl refl) (by_digit _ refl refl refl refl refl refl refl refl refl refl)

  sign_passes : {sign digits : List ℕ} → Optional (IsOne is_sign) sign → AreSomeDigits digits → Leads (num part.LetterE) (sign ++ digits) (num part.Exponent)
  sign_passes absent ds = some_digits_pass (num part.LetterE) part.Exponent (by_digit _ refl refl refl refl refl refl refl refl refl refl) (by_digit _ refl refl refl refl refl refl refl refl refl refl) ds
  sign_passes (present (one x s)) ds = byte x (two_bytes (λ y. next (num part.LetterE) y ≡ Ok (num part.Sign)) 43 45 refl refl x s) (from_sign ds)

  record Numbered (s : Scan) (text : List ℕ) : Type 0 where
    p : NumberPart
    whole : is_whole_number p ≡ true
    passed : Leads s text (num p)

  before_numbered : {s t : Scan} {xs ys : List ℕ} → Leads s xs t → Numbered t ys → Numbered s (xs ++ ys)
  before_numbered l n = record { p = n.p; whole = n.whole; passed = Leads-append l n.passed }

  exponent_passes : (p : NumberPart) → is_whole_number p ≡ true → Letters p → {text : List ℕ} → Optional IsExp text → Numbered (num p) text
  exponent_passes p w l absent = record { p = p; whole = w; passed = no_bytes }
  exponent_passes p w l (present (exp (one x e) s ds)) = record { p = part.Exponent; whole = refl; passed = byte x (l x e) (sign_passes s ds) }

  parts_pass : (p : NumberPart) → is_whole_number p ≡ true → next (num p) 46 ≡ Ok (num part.Point) → Letters p → {f e : List ℕ} → Optional IsFrac f → Optional IsExp e → Numbered (num p) (f ++ e)
  parts_pass p w dot l absent e = exponent_passes p w l e
  parts_pass p w dot l (present (frac ds)) e =
      before_numbered (byte 46 dot (some_digits_pass (num part.Point) part.Fraction (by_digit _ refl refl refl refl refl refl refl refl refl refl)
      (by_digit _ refl refl refl refl refl refl refl refl refl refl) ds))
      (exponent_passes part.Fraction refl (letters part.Fraction refl refl) e)

  int_passes : (s : Scan) → next s 48 ≡ Ok (num part.Zero) → ((x : ℕ) → is_ascii_digit x ≡ true → (x ≡ 48 → ⊥) → next s x ≡ Ok (num part.Whole)) → {i f e : List ℕ} → IsInt i
      → Optional IsFrac f → Optional IsExp e → Numbered s (i ++ (f ++ e))
  int_passes s naught digit zero_digit f e = before_numbered (byte 48 naught no_bytes) (parts_pass part.Zero refl refl (letters part.Zero refl refl) f e)
  int_passes s naught digit (from_one (one x d) ds) f e =
      let both = and_parts (is_ascii_digit x) (not (x == 48)) d in
      before_numbered (byte x (digit x both.0 (eqb-false x 48 (not-true (x == 48) both.1)))
      (digits_pass part.Whole (by_digit _ refl refl refl refl refl refl refl refl refl refl) ds))
      (parts_pass part.Whole refl refl (letters part.Whole refl refl) f e)

  digit_begins : (first : Bool) (x : ℕ) → is_ascii_digit x ≡ true → (x ≡ 48 → ⊥) → next (at (value_place first) lists) x ≡ Ok (num part.Whole)
  digit_begins true =
      by_digit (λ x. (x ≡ 48 → ⊥) → next (at place.ValueOrEnd lists) x ≡ Ok (num part.Whole)) (λ n. absurd (n refl)) (λ n. refl) (λ n. refl) (λ n. refl) (λ n. refl) (λ n. refl) (λ n. refl) (λ n. refl) (λ n. refl) (λ n. refl)
  digit_begins false =
      by_digit (λ x. (x ≡ 48 → ⊥) → next (at place.Value lists) x ≡ Ok (num part.Whole)) (λ n. absurd (n refl)) (λ n. refl) (λ n. refl) (λ n. refl) (λ n. refl) (λ n. refl) (λ n. refl) (λ n. refl) (λ n. refl) (λ n. refl)

  after_minus : (x : ℕ) → is_ascii_digit x ≡ true → (x ≡ 48 → ⊥) → next (num part.Minus) x ≡ Ok (num part.Whole)
  after_minus =
      by_digit (λ x. (x ≡ 48 → ⊥) → next (num part.Minus) x ≡ Ok (num part.Whole)) (λ n. absurd (n refl)) (λ n. refl) (λ n. refl) (λ n. refl) (λ n. refl) (λ n. refl) (λ n. refl) (λ n. refl) (λ n. refl) (λ n. refl)

  zero_begins : (first : Bool) → next (at (value_place first) lists) 48 ≡ Ok (num part.Zero)
  zero_begins true = refl
  zero_begins false = refl

  minus_begins : (first : Bool) → next (at (value_place first) lists) 45 ≡ Ok (num part.Minus)
  minus_begins true = refl
  minus_begins false = refl

  number_passes : (first : Bool) {text : List ℕ} → IsNumber text → Numbered (at (value_place first) lists) text
  number_passes first (the_number absent i f e) = int_passes (at (value_place first) lists) (zero_begins first) (digit_begins first) i f e
  number_passes first (the_number (present minus) i f e) = before_numbered (byte 45 (minus_begins first) no_bytes) (int_passes (num part.Minus) refl after_minus i f e)

  -- ---- strings

  module _ (r : StringRole) where
    abbrev inside : Scan
    inside = at (place.InString r) lists

    abbrev in_esc : EscapePart → Scan
    in_esc p = at (place.InEscape r p) lists

    plain_step : (x : ℕ) → 32 ≤ x → (x ≡ 34 → ⊥) → (x ≡ 92 → ⊥) → next inside x ≡ Ok inside
    plain_step x l nq nb =
        (λ i. taken inside (option_map does.To (if ne_eqb x 34 nq i then Some (string_ends r) else (if ne_eqb x 92 nb i then Some (place.InEscape r escape.Letter)
        else (if le-ltb x 32 l i then None else Some (place.InString r))))))

    short_step : (x : ℕ) → is_short_escape x ≡ true → next (in_esc escape.Letter) x ≡ Ok inside
    short_step x s =
        let no : x ≡ 117 → ⊥ = λ e. true≢false (sym s ∙ ap is_short_escape e) in
        (λ i. taken (in_esc escape.Letter) (option_map does.To (if ne_eqb x 117 no i then Some (place.InEscape r escape.FirstDigit) else
        (if s i then Some (place.InString r) else None))))

    last_two : (c d : ℕ) → digit_value c < 16 → digit_value d < 16 → Leads (in_esc escape.ThirdDigit) (c ∷ d ∷ []) inside
    last_two c d hc hd = byte c (third_digit r lists c hc) (byte d (fourth_digit r lists d hd) no_bytes)

    after_d_step : (b : ℕ) (t v : Bool) → nat_lt (digit_value b) 8 ≡ t → nat_lt (digit_value b) 12 ≡ v → next (in_esc escape.SecondDigitAfterD) b ≡
        taken (in_esc escape.SecondDigitAfterD) (option_map does.To
        (if t then Some (place.InEscape r escape.ThirdDigit) else (if v then Some (place.InEscape r escape.HighThirdDigit) else None)))
    after_d_step b t v p q =
        (λ i. taken (in_esc escape.SecondDigitAfterD) (option_map does.To
        (if p i then Some (place.InEscape r escape.ThirdDigit) else (if q i then Some (place.InEscape r escape.HighThirdDigit) else None))))

    abbrev unit_13 : ℕ → ℕ → ℕ → ℕ
    unit_13 b c d = 13 * 4096 + digit_value b * 256 + digit_value c * 16 + digit_value d

    -- after a first digit of d
    character_d : (b c d : ℕ) → digit_value b < 16 → digit_value c < 16 → digit_value d < 16 → is_high_surrogate (unit_13 b c d) ≡ false → is_low_surrogate (unit_13 b c d) ≡ false
        → Leads (in_esc escape.SecondDigitAfterD) (b ∷ c ∷ d ∷ []) inside
    character_d b c d hb hc hd nh nl = go (nat_lt (digit_value b) 8) (nat_lt (digit_value b) 12) refl refl
      where
        go : (t v : Bool) → nat_lt (digit_value b) 8 ≡ t → nat_lt (digit_value b) 12 ≡ v → Leads (in_esc escape.SecondDigitAfterD) (b ∷ c ∷ d ∷ []) inside
        go true v p q = byte b (after_d_step b true v p q) (last_two c d hc hd)
        go false true p q = absurd (true≢false (sym (is_high (digit_value b) (digit_value c) (digit_value d) (ltb-false (digit_value b) 8 p) (ltb-true (digit_value b) 12 q) hc hd) ∙ nh))
        go false false p q = absurd (true≢false (sym (is_low (digit_value b) (digit_value c) (digit_value d) (ltb-false (digit_value b) 12 q) hb hc hd) ∙ nl))

    high_d : (b c d : ℕ) → digit_value b < 16 → digit_value c < 16 → digit_value d < 16 → is_high_surrogate (unit_13 b c d) ≡ true
        → Leads (in_esc escape.SecondDigitAfterD) (b ∷ c ∷ d ∷ []) (in_esc (escape.Low low.Backslash))
    high_d b c d hb hc hd h = go (nat_lt (digit_value b) 8) (nat_lt (digit_value b) 12) refl refl
      where
        go : (t v : Bool) → nat_lt (digit_value b) 8 ≡ t → nat_lt (digit_value b) 12 ≡ v → Leads (in_esc escape.SecondDigitAfterD) (b ∷ c ∷ d ∷ []) (in_esc (escape.Low low.Backslash))
        go true v p q = absurd (true≢false (sym h ∙ below_high (digit_value b) (digit_value c) (digit_value d) (ltb-true (digit_value b) 8 p) hc hd))
        go false true p q = byte b (after_d_step b false true p q) (byte c (high_third r lists c hc) (byte d (high_fourth r lists d hd) no_bytes))
        go false false p q = absurd (true≢false (sym h ∙ above_high (digit_value b) (digit_value c) (digit_value d) (ltb-false (digit_value b) 12 q)))

    abbrev value_of : ℕ → ℕ → ℕ → ℕ → ℕ
    value_of a b c d = digit_value a * 4096 + digit_value b * 256 + digit_value c * 16 + digit_value d

    character_digits : (a b c d : ℕ) → digit_value a < 16 → digit_value b < 16 → digit_value c < 16 → digit_value d < 16 → is_high_surrogate (value_of a b c d) ≡ false
        → is_low_surrogate (value_of a b c d) ≡ false → Leads (in_esc escape.FirstDigit) (a ∷ b ∷ c ∷ d ∷ []) inside
    character_digits a b c d ha hb hc hd =
        let P : ℕ → Type 0 = λ y. digit_value y < 16 → is_high_surrogate (value_of y b c d) ≡ false → is_low_surrogate (value_of y b c d) ≡ false
        → Leads (in_esc escape.FirstDigit) (y ∷ b ∷ c ∷ d ∷ []) inside in
        let go : P a =
        is_or_not P a 100 (λ h nh nl. byte 100 refl (character_d b c d hb hc hd nh nl)) (λ n.
        is_or_not P a 68 (λ h nh nl. byte 68 refl (character_d b c d hb hc hd nh nl)) (λ m h nh nl.
        byte a (first_digit r lists a h n m) (byte b (second_digit r lists b hb) (last_two c d hc hd)))) in
        go ha

    high_digits : (a b c d : ℕ) → digit_value a < 16 → digit_value b < 16 → digit_value c < 16 → digit_value d < 16 → is_high_surrogate (value_of a b c d) ≡ true
        → Leads (in_esc escape.FirstDigit) (a ∷ b ∷ c ∷ d ∷ []) (in_esc (escape.Low low.Backslash))
    high_digits a b c d ha hb hc hd =
        let P : ℕ → Type 0 = λ y. digit_value y < 16 → is_high_surrogate (value_of y b c d) ≡ true → Leads (in_esc escape.FirstDigit) (y ∷ b ∷ c ∷ d ∷ []) (in_esc (escape.Low low.Backslash)) in
        let go : P a =
        is_or_not P a 100 (λ h e. byte 100 refl (high_d b c d hb hc hd e)) (λ n.
        is_or_not P a 68 (λ h e. byte 68 refl (high_d b c d hb hc hd e)) (λ m h e.
        absurd (true≢false (sym e ∙ not_high (digit_value a) (digit_value b) (digit_value c) (digit_value d) (not_13 a h n m) hb hc hd)))) in
        go ha

    low_digits : (a b c d : ℕ) → digit_value a < 16 → digit_value b < 16 → digit_value c < 16 → digit_value d < 16 → is_low_surrogate (value_of a b c d) ≡ true
        → Leads (in_esc (escape.Low low.FirstDigit)) (a ∷ b ∷ c ∷ d ∷ []) inside
    low_digits a b c d ha hb hc hd =
        let P : ℕ → Type 0 = λ y. digit_value y < 16 → is_low_surrogate (value_of y b c d) ≡ true → Leads (in_esc (escape.Low low.FirstDigit)) (y ∷ b ∷ c ∷ d ∷ []) inside in
        let after : is_low_surrogate (unit_13 b c d) ≡ true → Leads (in_esc (escape.Low low.SecondDigit)) (b ∷ c ∷ d ∷ []) inside =
        λ f. byte b (low_digit r lists b (low_is_high_digit (digit_value b) (digit_value c) (digit_value d) f hc hd) hb) (last_two c d hc hd) in
        let go : P a =
        is_or_not P a 100 (λ h e. byte 100 refl (after e)) (λ n.
        is_or_not P a 68 (λ h e. byte 68 refl (after e)) (λ m h e.
        absurd (true≢false (sym e ∙ not_low (digit_value a) (digit_value b) (digit_value c) (digit_value d) (not_13 a h n m) hb hc hd)))) in
        go ha

    unit_passes : {u : ℕ} {text : List ℕ} → IsUnit u text → is_high_surrogate u ≡ false → is_low_surrogate u ≡ false → Leads inside text inside
    unit_passes {u} (spells a b c d e) nh nl =
        let h = hex_unit a b c d u e in
        byte 92 refl (byte 117 refl (character_digits a b c d h.first h.second h.third h.fourth (sym (ap is_high_surrogate h.is) ∙ nh) (sym (ap is_low_surrogate h.is) ∙ nl)))

    high_passes : {u : ℕ} {text : List ℕ} → IsUnit u text → is_high_surrogate u ≡ true → Leads inside text (in_esc (escape.Low low.Backslash))
    high_passes {u} (spells a b c d e) s =
        let h = hex_unit a b c d u e in byte 92 refl (byte 117 refl (high_digits a b c d h.first h.second h.third h.fourth (sym (ap is_high_surrogate h.is) ∙ s)))

    low_passes : {u : ℕ} {text : List ℕ} → IsUnit u text → is_low_surrogate u ≡ true → Leads (in_esc (escape.Low low.Backslash)) text inside
    low_passes {u} (spells a b c d e) s =
        let h = hex_unit a b c d u e in byte 92 refl (byte 117 refl (low_digits a b c d h.first h.second h.third h.fourth (sym (ap is_low_surrogate h.is) ∙ s)))

    char_passes : {text : List ℕ} → IsChar text → Leads inside text inside
    char_passes (unescaped x l nq nb) = byte x (plain_step x l nq nb) no_bytes
    char_passes (escaped x s) = byte 92 refl (byte x (short_step x s) no_bytes)
    char_passes (unit_char u nh nl) = unit_passes u nh nl
    char_passes (pair_char f h s l) = Leads-append (high_passes f h) (low_passes s l)

    chars_pass : {text : List ℕ} → Repeated IsChar text → Leads inside text inside
    chars_pass no_more = no_bytes
    chars_pass (another c cs) = Leads-append (char_passes c) (chars_pass cs)

    quote_ends : (s : StringRole) → next (at (place.InString s) lists) 34 ≡ Ok (at (string_ends s) lists)
    quote_ends role.Key = refl
    quote_ends role.Value = refl

    pub string_passes : (s : Scan) → next s 34 ≡ Ok inside → {text : List ℕ} → IsString text → Leads s text (at (string_ends r) lists)
    string_passes s e (the_string cs) = byte 34 e (Leads-append (chars_pass cs) (byte 34 (quote_ends r) no_bytes))

pub structural_passes :
    (c : ℕ) (q p : Place) (outer inner : List ListKind) → is_between q ≡ true → is_between p ≡ true → next (at q outer) c ≡ Ok (at p inner) →
    (text : List ℕ) → IsStructural c text → Leads (at q outer) text (at p inner)
structural_passes c q p outer inner b d e text (structural before after) = Leads-append (spaces_pass outer q b before) (byte c e (spaces_pass inner p d after))

-- ---- values

-- a value is passed: it is complete, or it is a number that may be
pub data Reaches (lists : List ListKind) (s : Scan) : List ℕ → Type 0 where
  complete : {text : List ℕ} → Leads s text (at place.AfterValue lists) → Reaches lists s text
  whole_number : {text : List ℕ} (p : NumberPart) → is_whole_number p ≡ true → Leads s text (at (place.InNumber p) lists) → Reaches lists s text

-- a byte that ends a number comes first
pub data Delimited : List ℕ → Type 0 where
  delimited : (x : ℕ) {text : List ℕ} → (is_operator x || is_space x) ≡ true → Delimited (x ∷ text)

pub number_leaves :
    (lists : List ListKind) (p : NumberPart) → is_whole_number p ≡ true → {u : Scan} (x : ℕ) (text : List ℕ) → (is_operator x || is_space x) ≡ true →
    Leads (at place.AfterValue lists) (x ∷ text) u → Leads (at (place.InNumber p) lists) (x ∷ text) u
number_leaves lists p w x text d (byte y f rest) = byte y (ap (taken (at (place.InNumber p) lists)) (steps_alike lists p w y d) ∙ taken_alike lists p w _ ∙ f) rest

pub leave :
    (lists : List ListKind) {s u : Scan} {value more : List ℕ} → Reaches lists s value → Delimited more → Leads (at place.AfterValue lists) more u →
    (w : Scan) × Leads s value w × Leads w more u
leave lists (complete l) d m = (at place.AfterValue lists, l, m)
leave lists (whole_number p w l) (delimited x {text = t} d) m = (at (place.InNumber p) lists, l, number_leaves lists p w x t d m)

pub space_delimits : (x : ℕ) → is_space x ≡ true → (is_operator x || is_space x) ≡ true
space_delimits = by_space (λ x. (is_operator x || is_space x) ≡ true) refl refl refl refl

pub structural_delimited : (c : ℕ) → (is_operator c || is_space c) ≡ true → {text : List ℕ} → IsStructural c text → Delimited text
structural_delimited c o (structural no_more after) = delimited c o
structural_delimited c o (structural (another (one x e) before) after) = delimited x (space_delimits x e)

prefix : {lists : List ListKind} {s t u : Scan} {a b c : List ℕ} → Leads s a t → Leads t b u → Reaches lists u c → Reaches lists s (a ++ (b ++ c))
prefix l m (complete n) = complete (Leads-append l (Leads-append m n))
prefix l m (whole_number p w n) = whole_number p w (Leads-append l (Leads-append m n))

leads_by : {s t : Scan} {a b : List ℕ} {u : Scan} {c : List ℕ} → Leads s a t → (w : Scan) × Leads t b w × Leads w c u → Leads s (a ++ (b ++ c)) u
leads_by l m = Leads-append l (Leads-append m.1 m.2)

between_values : (first : Bool) → is_between (value_place first) ≡ true
between_values true = refl
between_values false = refl

pub opens_array : (first : Bool) (lists : List ListKind) → length lists < 127 → (text : List ℕ) → IsStructural 91 text → Leads (at (value_place first) lists) text (at place.ValueOrEnd (Array ∷ lists))
opens_array first lists h = structural_passes 91 (value_place first) place.ValueOrEnd lists (Array ∷ lists) (between_values first) refl (bracket_begins first lists h)

pub opens_object : (first : Bool) (lists : List ListKind) → length lists < 127 → (text : List ℕ) → IsStructural 123 text → Leads (at (value_place first) lists) text (at place.KeyOrEnd (Object ∷ lists))
opens_object first lists h = structural_passes 123 (value_place first) place.KeyOrEnd lists (Object ∷ lists) (between_values first) refl (brace_begins first lists h)

pub comma_to_value : (lists : List ListKind) (text : List ℕ) → IsStructural 44 text → Leads (at place.AfterValue (Array ∷ lists)) text (at place.Value (Array ∷ lists))
comma_to_value lists = structural_passes 44 place.AfterValue place.Value (Array ∷ lists) (Array ∷ lists) refl refl refl

pub comma_to_key : (lists : List ListKind) (text : List ℕ) → IsStructural 44 text → Leads (at place.AfterValue (Object ∷ lists)) text (at place.Key (Object ∷ lists))
comma_to_key lists = structural_passes 44 place.AfterValue place.Key (Object ∷ lists) (Object ∷ lists) refl refl refl

mutual
  pub value_passes : (levels : ℕ) (text : List ℕ) → IsValue levels text → (lists : List ListKind) (first : Bool) → length lists + levels ≤ 127 → Reaches lists (at (value_place first) lists) text
  value_passes levels text the_false lists first h = complete (byte 102 (f_begins lists first) (byte 97 refl (byte 108 refl (byte 115 refl (byte 101 refl no_bytes)))))
  value_passes levels text the_null lists first h = complete (byte 110 (n_begins lists first) (byte 117 refl (byte 108 refl (byte 108 refl no_bytes))))
  value_passes levels text the_true lists first h = complete (byte 116 (t_begins lists first) (byte 114 refl (byte 117 refl (byte 101 refl no_bytes))))
  value_passes levels text (an_object {levels = l} o) lists first h = complete (object_passes l text o lists first h)
  value_passes levels text (an_array {levels = l} a) lists first h = complete (array_passes l text a lists first h)
  value_passes levels text (a_number n) lists first h = let w = number_passes lists first n in whole_number w.p w.whole w.passed
  value_passes levels text (a_string s) lists first h = complete (string_passes lists role.Value (at (value_place first) lists) (quote_begins first lists) s)

  object_passes : (levels : ℕ) (text : List ℕ) → IsObject levels text → (lists : List ListKind) (first : Bool) → length lists + suc levels ≤ 127
      → Leads (at (value_place first) lists) text (at place.AfterValue lists)
  object_passes levels text (empty_object {begin = b} {end = e} o c) lists first h =
      Leads-append (opens_object first lists (omega arith) b o) (structural_passes 125 place.KeyOrEnd place.AfterValue (Object ∷ lists) lists refl refl refl e c)
  object_passes levels text (the_object {begin = b} {inside = i} {end = e} o m c) lists first h =
      leads_by (opens_object first lists (omega arith) b o)
      (leave (Object ∷ lists) (members_pass levels i m lists true (omega arith)) (structural_delimited 125 refl c)
      (structural_passes 125 place.AfterValue place.AfterValue (Object ∷ lists) lists refl refl refl e c))

  pub members_pass : (levels : ℕ) (text : List ℕ) → IsMembers levels text → (lists : List ListKind) (first : Bool) → suc (length lists) + levels ≤ 127
      → Reaches (Object ∷ lists) (at (key_place first) (Object ∷ lists)) text
  members_pass levels text (one_member m) lists first h = member_passes levels text m lists first h
  members_pass levels text (more_members {first = f} {separator = s} {others = o} m c ms) lists first h =
      let w = leave (Object ∷ lists) (member_passes levels f m lists first h) (structural_delimited 44 refl c) (comma_to_key lists s c) in
      prefix w.1 w.2 (members_pass levels o ms lists false h)

  pub member_passes : (levels : ℕ) (text : List ℕ) → IsMember levels text → (lists : List ListKind) (first : Bool) → suc (length lists) + levels ≤ 127
      → Reaches (Object ∷ lists) (at (key_place first) (Object ∷ lists)) text
  member_passes levels text (the_member {separator = s} {text = t} n c v) lists first h =
      prefix (string_passes (Object ∷ lists) role.Key (at (key_place first) (Object ∷ lists)) (quote_begins_key first (Object ∷ lists)) n)
      (structural_passes 58 place.Colon place.Value (Object ∷ lists) (Object ∷ lists) refl refl refl s c) (value_passes levels t v (Object ∷ lists) false h)

  array_passes : (levels : ℕ) (text : List ℕ) → IsArray levels text → (lists : List ListKind) (first : Bool) → length lists + suc levels ≤ 127
      → Leads (at (value_place first) lists) text (at place.AfterValue lists)
  array_passes levels text (empty_array {begin = b} {end = e} o c) lists first h =
      Leads-append (opens_array first lists (omega arith) b o) (structural_passes 93 place.ValueOrEnd place.AfterValue (Array ∷ lists) lists refl refl refl e c)
  array_passes levels text (the_array {begin = b} {inside = i} {end = e} o v c) lists first h =
      leads_by (opens_array first lists (omega arith) b o)
      (leave (Array ∷ lists) (values_pass levels i v lists true (omega arith)) (structural_delimited 93 refl c)
      (structural_passes 93 place.AfterValue place.AfterValue (Array ∷ lists) lists refl refl refl e c))

  pub values_pass : (levels : ℕ) (text : List ℕ) → IsElements levels text → (lists : List ListKind) (first : Bool) → suc (length lists) + levels ≤ 127
      → Reaches (Array ∷ lists) (at (value_place first) (Array ∷ lists)) text
  values_pass levels text (one_value v) lists first h = value_passes levels text v (Array ∷ lists) first h
  values_pass levels text (more_values {first = f} {separator = s} {others = o} v c vs) lists first h =
      let w = leave (Array ∷ lists) (value_passes levels f v (Array ∷ lists) first h) (structural_delimited 44 refl c) (comma_to_value lists s c) in
      prefix w.1 w.2 (values_pass levels o vs lists false h)

-- ---- whole texts

text_passes : (before text after : List ℕ) → Leads start before start → Reaches [] start text → IsSpace after → IsSyntax (before ++ (text ++ after))
text_passes before text after b (complete l) a = record {
  end = at place.AfterValue [];
  passed = Leads-append b (Leads-append l (spaces_pass [] place.AfterValue refl a));
  complete = refl;
}
text_passes before text after b (whole_number p w l) no_more = record {
  end = at (place.InNumber p) [];
  passed = Leads-append b (Leads-append l no_bytes);
  complete = ends_alike [] p w refl;
}
text_passes before text after b (whole_number p w l) (another {others = o} (one x e) s) = record {
  end = at place.AfterValue [];
  passed = Leads-append b (Leads-append l (number_leaves [] p w x o (space_delimits x e) (byte x (stays place.AfterValue refl [] x e) (spaces_pass [] place.AfterValue refl s))));
  complete = refl;
}

pub passes_whole : (text : List ℕ) → IsJsonText max_depth text → IsSyntax text
passes_whole text (json_text {before = b} {text = t} {after = a} before v after) =
    text_passes b t a (spaces_pass [] place.Value refl before) (value_passes 127 t v [] false (omega arith)) after
