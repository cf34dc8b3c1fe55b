-- Strings are passed.
use Rattle.std.proofs.Common.{◌≡◌, ◌⊎◌, inl, inr, ℕ, ◌+◌, ◌*◌, ◌<◌, ◌≤◌, List, [], ◌∷◌, Bool, true, false, ◌==◌, ◌&&◌, ◌||◌, if◌then◌else◌, cond, nat_lt, refl, sym, ap, ◌∙◌, subst, arith, Option, Some, None, Ok, option_map, option_and_then}
use Rattle.std.proofs.lemmas.Bool.{ne_eqb, eq-eqb, eqb-true, true≢false, and_parts, ltb-true, lt-ltb, le-leb}
use Rattle.std.proofs.lemmas.Bool.Decides.{nat_tests}
use Rattle.std.specs.Char.{digit_value, is_digit, encode_utf8}
use Rattle.json.specs.Text.{code_unit, short_escape, is_high_surrogate, is_low_surrogate, surrogate_pair, plain, after_backslash, after_u, after_high, prepend, content}
use Rattle.json.specs.Word.{is_operator, is_space}
use Rattle.json.specs.Lex as lex
use Rattle.json.specs.Lex.{Class, class, Lexeme, Mode, lex_byte}
use Rattle.tv_json.specs.Faults.{next, taken}
use Rattle.tv_json.specs.Syntax.{string_ends}
use Rattle.tv_json.specs.declared.json_expected.LowSurrogatePart.TheVariants as low
use Rattle.tv_json.specs.declared.json_place.EscapePart.{EscapePart}
use Rattle.tv_json.specs.declared.json_place.EscapePart.TheVariants as escape
use Rattle.tv_json.specs.declared.json_place.ListKind.{ListKind}
use Rattle.tv_json.specs.declared.json_place.Place.TheVariants as place
use Rattle.tv_json.specs.declared.json_place.Step.TheVariants as does
use Rattle.tv_json.specs.declared.json_place.StringRole.{StringRole}
use Rattle.tv_json.specs.declared.json_scan.Scan.{Scan}
use Rattle.tv_json.proofs.Accepted.{Accepts, more, at, is_or_not}
use Rattle.tv_json.proofs.AcceptedTokens.{and_then_some}

-- the ranges of hexadecimal digits
hex_range : (x : ℕ) → digit_value x < 16 → ((48 ≤ x) × (x ≤ 57)) ⊎ (((65 ≤ x) × (x ≤ 70)) ⊎ ((97 ≤ x) × (x ≤ 102)))
hex_range x h = grind (arith, nat_tests)

none_left :
    (x : ℕ) → ((48 ≤ x) × (x ≤ 57)) ⊎ (((65 ≤ x) × (x ≤ 70)) ⊎ ((97 ≤ x) × (x ≤ 102))) → (x ≡ 48 → ⊥) → (x ≡ 49 → ⊥) → (x ≡ 50 → ⊥) → (x ≡ 51 → ⊥) →
    (x ≡ 52 → ⊥) → (x ≡ 53 → ⊥) → (x ≡ 54 → ⊥) → (x ≡ 55 → ⊥) → (x ≡ 56 → ⊥) → (x ≡ 57 → ⊥) → (x ≡ 65 → ⊥) → (x ≡ 66 → ⊥) → (x ≡ 67 → ⊥) → (x ≡ 68 → ⊥) →
    (x ≡ 69 → ⊥) → (x ≡ 70 → ⊥) → (x ≡ 97 → ⊥) → (x ≡ 98 → ⊥) → (x ≡ 99 → ⊥) → (x ≡ 100 → ⊥) → (x ≡ 101 → ⊥) → (x ≡ 102 → ⊥) → ⊥
none_left x (inl r) a b c d e f g h i j k l m n o p q s t u v w = omega arith
none_left x (inr (inl r)) a b c d e f g h i j k l m n o p q s t u v w = omega arith
none_left x (inr (inr r)) a b c d e f g h i j k l m n o p q s t u v w = omega arith

by_hex :
    (P : ℕ → Type 0) → P 48 → P 49 → P 50 → P 51 → P 52 → P 53 → P 54 → P 55 → P 56 → P 57 → P 65 → P 66 → P 67 → P 68 → P 69 → P 70 → P 97 → P 98 → P 99 →
    P 100 → P 101 → P 102 → (x : ℕ) → digit_value x < 16 → P x
by_hex P p0 p1 p2 p3 p4 p5 p6 p7 p8 p9 ua ub uc ud ue uf la lb lc ld le lf x h =
    is_or_not P x 48 p0 (λ n0. is_or_not P x 49 p1 (λ n1. is_or_not P x 50 p2 (λ n2. is_or_not P x 51 p3 (λ n3. is_or_not P x 52 p4 (λ n4.
    is_or_not P x 53 p5 (λ n5. is_or_not P x 54 p6 (λ n6. is_or_not P x 55 p7 (λ n7. is_or_not P x 56 p8 (λ n8. is_or_not P x 57 p9 (λ n9.
    is_or_not P x 65 ua (λ na. is_or_not P x 66 ub (λ nb. is_or_not P x 67 uc (λ nc. is_or_not P x 68 ud (λ nd. is_or_not P x 69 ue (λ ne.
    is_or_not P x 70 uf (λ nf. is_or_not P x 97 la (λ ma. is_or_not P x 98 lb (λ mb. is_or_not P x 99 lc (λ mc. is_or_not P x 100 ld (λ md.
    is_or_not P x 101 le (λ me. is_or_not P x 102 lf (λ mf.
    absurd (none_left x (hex_range x h) n0 n1 n2 n3 n4 n5 n6 n7 n8 n9 na nb nc nd ne nf ma mb mc md me mf)))))))))))))))))))))))

pub class-hex : (x : ℕ) → digit_value x < 16 → class x ≡ lex.other
class-hex =
    by_hex (λ x. class x ≡ lex.other) refl refl refl refl refl refl refl refl refl refl refl refl refl refl refl refl refl refl refl refl refl refl

-- ---- the classes of code units

pub not_high : (a b c d : ℕ) → (a ≡ 13 → ⊥) → b < 16 → c < 16 → d < 16 → is_high_surrogate (a * 4096 + b * 256 + c * 16 + d) ≡ false
not_high a b c d n hb hc hd = grind (arith, nat_tests)

pub not_low : (a b c d : ℕ) → (a ≡ 13 → ⊥) → b < 16 → c < 16 → d < 16 → is_low_surrogate (a * 4096 + b * 256 + c * 16 + d) ≡ false
not_low a b c d n hb hc hd = grind (arith, nat_tests)

pub below_high : (b c d : ℕ) → b < 8 → c < 16 → d < 16 → is_high_surrogate (13 * 4096 + b * 256 + c * 16 + d) ≡ false
below_high b c d hb hc hd = grind (arith, nat_tests)

pub below_low : (b c d : ℕ) → b < 12 → c < 16 → d < 16 → is_low_surrogate (13 * 4096 + b * 256 + c * 16 + d) ≡ false
below_low b c d hb hc hd = grind (arith, nat_tests)

pub above_high : (b c d : ℕ) → 12 ≤ b → is_high_surrogate (13 * 4096 + b * 256 + c * 16 + d) ≡ false
above_high b c d hb = grind (arith, nat_tests)

pub is_low : (b c d : ℕ) → 12 ≤ b → b < 16 → c < 16 → d < 16 → is_low_surrogate (13 * 4096 + b * 256 + c * 16 + d) ≡ true
is_low b c d hb hb' hc hd = grind (arith, nat_tests)

pub is_high : (b c d : ℕ) → 8 ≤ b → b < 12 → c < 16 → d < 16 → is_high_surrogate (13 * 4096 + b * 256 + c * 16 + d) ≡ true
is_high b c d hb hb' hc hd = grind (arith, nat_tests)

pub not_13 : (x : ℕ) → digit_value x < 16 → (x ≡ 100 → ⊥) → (x ≡ 68 → ⊥) → digit_value x ≡ 13 → ⊥
not_13 x h n m same =
    true≢false (sym (eq-eqb (digit_value x) 13 same) ∙ by_hex (λ y. (y ≡ 100 → ⊥) → (y ≡ 68 → ⊥) → (digit_value y == 13) ≡ false)
    (λ n m. refl) (λ n m. refl) (λ n m. refl) (λ n m. refl) (λ n m. refl) (λ n m. refl) (λ n m. refl) (λ n m. refl) (λ n m. refl) (λ n m. refl) (λ n m. refl) (λ n m. refl) (λ n m. refl) (λ n m. absurd (m refl)) (λ n m. refl) (λ n m. refl) (λ n m. refl) (λ n m. refl) (λ n m. refl) (λ n m. absurd (n refl)) (λ n m. refl) (λ n m. refl)
    x h n m)

pub record HexUnit (a b c d u : ℕ) : Type 0 where
  pub first : digit_value a < 16
  pub second : digit_value b < 16
  pub third : digit_value c < 16
  pub fourth : digit_value d < 16
  pub is : u ≡ digit_value a * 4096 + digit_value b * 256 + digit_value c * 16 + digit_value d

pub hex_unit : (a b c d u : ℕ) → code_unit a b c d ≡ Some u → HexUnit a b c d u
unfolding code_unit
hex_unit a b c d u e = go (is_digit a 16 && is_digit b 16 && is_digit c 16 && is_digit d 16) refl e
  where
    go : (t : Bool) → (is_digit a 16 && is_digit b 16 && is_digit c 16 && is_digit d 16) ≡ t →
        cond t (Some (digit_value a * 4096 + digit_value b * 256 + digit_value c * 16 + digit_value d)) None ≡ Some u → HexUnit a b c d u
    go false t f = absurd (let no : ◌≡◌ {A = Option ℕ} None (Some u) = f in cc)
    go true t f =
        let p = and_parts (is_digit a 16 && is_digit b 16 && is_digit c 16) (is_digit d 16) t in
        let q = and_parts (is_digit a 16 && is_digit b 16) (is_digit c 16) p.0 in
        let r = and_parts (is_digit a 16) (is_digit b 16) q.0 in
        record {
          first = ltb-true (digit_value a) 16 r.0;
          second = ltb-true (digit_value b) 16 r.1;
          third = ltb-true (digit_value c) 16 q.1;
          fourth = ltb-true (digit_value d) 16 p.1;
          is = cc;
        }

-- a unit whose first digit is d
abbrev pub unit_d : ℕ → ℕ → ℕ → ℕ
unit_d b c d = 13 * 4096 + digit_value b * 256 + digit_value c * 16 + digit_value d

not_less : (a b : ℕ) → nat_lt a b ≡ false → b ≤ a
not_less a b e = grind (arith, nat_tests)

pub low_is_high_digit : (b c d : ℕ) → is_low_surrogate (13 * 4096 + b * 256 + c * 16 + d) ≡ true → c < 16 → d < 16 → 12 ≤ b
low_is_high_digit b c d e hc hd = grind (arith, nat_tests)

-- ---- what options hold

prepended : (b : List ℕ) (o : Option (List ℕ)) (s : List ℕ) → prepend b o ≡ Some s → (t : List ℕ) × (o ≡ Some t)
prepended b None s e = absurd (let no : ◌≡◌ {A = Option (List ℕ)} None (Some s) = e in cc)
prepended b (Some t) s e = (t, refl)

no_text : {P : Type 0} {s : List ℕ} → ◌≡◌ {A = Option (List ℕ)} None (Some s) → P
no_text e = absurd (cc)

no_escape :
    (x : ℕ) → (x ≡ 34 → ⊥) → (x ≡ 92 → ⊥) → (x ≡ 47 → ⊥) → (x ≡ 98 → ⊥) → (x ≡ 102 → ⊥) → (x ≡ 110 → ⊥) → (x ≡ 114 → ⊥) → (x ≡ 116 → ⊥) →
    short_escape x ≡ None
unfolding short_escape
no_escape x a b c d e f g h =
    (λ i. cond (ne_eqb x 34 a i || ne_eqb x 92 b i || ne_eqb x 47 c i) (Some x) (cond (ne_eqb x 98 d i) (Some 8) (cond (ne_eqb x 102 e i) (Some 12)
    (cond (ne_eqb x 110 f i) (Some 10) (cond (ne_eqb x 114 g i) (Some 13) (cond (ne_eqb x 116 h i) (Some 9) None))))))

module _ (r : StringRole) (lists : List ListKind) where
  -- the string is closed after some bytes, before this rest
  abbrev pub Closes : Mode → Scan → List ℕ → Type 0
  Closes mode s xs = (rest : List ℕ) × (lex.lex mode xs ≡ lex.lex lex.between rest) × (Accepts (at (string_ends r) lists) rest → Accepts s xs)

  abbrev pub inside : Scan
  inside = at (place.InString r) lists

  abbrev pub escaped : EscapePart → Scan
  escaped part = at (place.InEscape r part) lists

  step : (m n : Mode) {s u : Scan} (x : ℕ) (xs : List ℕ) → next s x ≡ Ok u → lex.lex m (x ∷ xs) ≡ lex.lex n xs → Closes n u xs → Closes m s (x ∷ xs)
  step m n x xs e l c = (c.0, l ∙ c.1, λ a. more x e (c.2 a))

  hex_step : {s u : Scan} (x : ℕ) (xs : List ℕ) → digit_value x < 16 → next s x ≡ Ok u → Closes lex.in_string u xs → Closes lex.in_string s (x ∷ xs)
  unfolding lex.lex
  hex_step x xs h e c = step lex.in_string lex.in_string x xs e (ap (λ k. lex_byte lex.in_string k x xs (λ m. lex.lex m xs)) (class-hex x h)) c

  pub first_digit : (x : ℕ) → digit_value x < 16 → (x ≡ 100 → ⊥) → (x ≡ 68 → ⊥) → next (escaped escape.FirstDigit) x ≡ Ok (escaped escape.SecondDigit)
  first_digit x h n m =
      by_hex (λ y. (y ≡ 100 → ⊥) → (y ≡ 68 → ⊥) → next (escaped escape.FirstDigit) y ≡ Ok (escaped escape.SecondDigit))
      (λ n m. refl) (λ n m. refl) (λ n m. refl) (λ n m. refl) (λ n m. refl) (λ n m. refl) (λ n m. refl) (λ n m. refl) (λ n m. refl) (λ n m. refl) (λ n m. refl) (λ n m. refl) (λ n m. refl) (λ n m. absurd (m refl)) (λ n m. refl) (λ n m. refl) (λ n m. refl) (λ n m. refl) (λ n m. refl) (λ n m. absurd (n refl)) (λ n m. refl) (λ n m. refl)
      x h n m

  pub second_digit : (x : ℕ) → digit_value x < 16 → next (escaped escape.SecondDigit) x ≡ Ok (escaped escape.ThirdDigit)
  second_digit = by_hex (λ y. next (escaped escape.SecondDigit) y ≡ Ok (escaped escape.ThirdDigit)) refl refl refl refl refl refl refl refl refl refl refl refl refl refl refl refl refl refl refl refl refl refl

  pub third_digit : (x : ℕ) → digit_value x < 16 → next (escaped escape.ThirdDigit) x ≡ Ok (escaped escape.FourthDigit)
  third_digit = by_hex (λ y. next (escaped escape.ThirdDigit) y ≡ Ok (escaped escape.FourthDigit)) refl refl refl refl refl refl refl refl refl refl refl refl refl refl refl refl refl refl refl refl refl refl

  pub fourth_digit : (x : ℕ) → digit_value x < 16 → next (escaped escape.FourthDigit) x ≡ Ok inside
  fourth_digit = by_hex (λ y. next (escaped escape.FourthDigit) y ≡ Ok inside) refl refl refl refl refl refl refl refl refl refl refl refl refl refl refl refl refl refl refl refl refl refl

  pub high_third : (x : ℕ) → digit_value x < 16 → next (escaped escape.HighThirdDigit) x ≡ Ok (escaped escape.HighFourthDigit)
  high_third = by_hex (λ y. next (escaped escape.HighThirdDigit) y ≡ Ok (escaped escape.HighFourthDigit)) refl refl refl refl refl refl refl refl refl refl refl refl refl refl refl refl refl refl refl refl refl refl

  pub high_fourth : (x : ℕ) → digit_value x < 16 → next (escaped escape.HighFourthDigit) x ≡ Ok (escaped (escape.Low low.Backslash))
  high_fourth = by_hex (λ y. next (escaped escape.HighFourthDigit) y ≡ Ok (escaped (escape.Low low.Backslash))) refl refl refl refl refl refl refl refl refl refl refl refl refl refl refl refl refl refl refl refl refl refl

  pub plain_passes : (o s : Bool) (x : ℕ) (xs : List ℕ) (k : Mode → List Lexeme) →
      lex_byte lex.in_string (cond o lex.operator (cond s lex.space lex.other)) x xs k ≡ k lex.in_string
  plain_passes true s x xs k = refl
  plain_passes false true x xs k = refl
  plain_passes false false x xs k = refl

  plain_byte :
      (x : ℕ) (xs s : List ℕ) → (x ≡ 34 → ⊥) → (x ≡ 92 → ⊥) → cond (nat_lt x 32) None (prepend (x ∷ []) (content plain xs)) ≡ Some s →
      ((t : List ℕ) → content plain xs ≡ Some t → Closes lex.in_string inside xs) → Closes lex.in_string inside (x ∷ xs)
  unfolding lex.lex
  plain_byte x xs s nq nb e again = go (nat_lt x 32) refl e
    where
      go : (b : Bool) → nat_lt x 32 ≡ b → cond b None (prepend (x ∷ []) (content plain xs)) ≡ Some s → Closes lex.in_string inside (x ∷ xs)
      go true l f = no_text f
      go false l f =
          let t = prepended (x ∷ []) (content plain xs) s f in
          step lex.in_string lex.in_string x xs
          (λ i. taken inside (option_map does.To (if ne_eqb x 34 nq i then Some (string_ends r) else (if ne_eqb x 92 nb i then Some (place.InEscape r escape.Letter)
          else (if l i then None else Some (place.InString r))))))
          ((λ i. lex_byte lex.in_string (cond (ne_eqb x 34 nq i) lex.quote (cond (ne_eqb x 92 nb i) lex.backslash (cond (is_operator x) lex.operator (cond (is_space x) lex.space lex.other))))
          x xs (λ m. lex.lex m xs)) ∙ plain_passes (is_operator x) (is_space x) x xs (λ m. lex.lex m xs))
          (again t.0 t.1)

  abbrev Unit_rest : List ℕ → ℕ → Option (List ℕ)
  Unit_rest xs u = cond (is_high_surrogate u) (content (after_high u) xs) (cond (is_low_surrogate u) None (prepend (encode_utf8 u) (content plain xs)))

  -- what is known of the rest of a string
  abbrev Again : List ℕ → Type 0
  Again xs = (t : List ℕ) → content plain xs ≡ Some t → Closes lex.in_string inside xs

  abbrev HighAgain : List ℕ → Type 0
  HighAgain xs = (u : ℕ) (t : List ℕ) → content (after_high u) xs ≡ Some t → Closes lex.in_string (escaped (escape.Low low.Backslash)) xs

  last_two : (c d : ℕ) (xs : List ℕ) → digit_value c < 16 → digit_value d < 16 → Closes lex.in_string inside xs → Closes lex.in_string (escaped escape.ThirdDigit) (c ∷ d ∷ xs)
  last_two c d xs hc hd k = hex_step c (d ∷ xs) hc (third_digit c hc) (hex_step d xs hd (fourth_digit d hd) k)

  character : (u : ℕ) (xs s : List ℕ) → is_high_surrogate u ≡ false → is_low_surrogate u ≡ false → Unit_rest xs u ≡ Some s → Again xs → Closes lex.in_string inside xs
  character u xs s nh nl e again =
      let f : prepend (encode_utf8 u) (content plain xs) ≡ Some s =
      sym (λ i. cond (nh i) (content (after_high u) xs) (cond (nl i) None (prepend (encode_utf8 u) (content plain xs)))) ∙ e in
      let t = prepended (encode_utf8 u) (content plain xs) s f in again t.0 t.1

  -- after a first digit of d
  letter_d :
      (b c d : ℕ) (xs s : List ℕ) → digit_value b < 16 → digit_value c < 16 → digit_value d < 16 →
      Unit_rest xs (unit_d b c d) ≡ Some s → Again xs → HighAgain xs →
      Closes lex.in_string (escaped escape.SecondDigitAfterD) (b ∷ c ∷ d ∷ xs)
  letter_d b c d xs s hb hc hd e again high = go (nat_lt (digit_value b) 8) (nat_lt (digit_value b) 12) refl refl
    where
      leads : (t v : Bool) → nat_lt (digit_value b) 8 ≡ t → nat_lt (digit_value b) 12 ≡ v → next (escaped escape.SecondDigitAfterD) b ≡
          taken (escaped escape.SecondDigitAfterD) (option_map does.To
          (if t then Some (place.InEscape r escape.ThirdDigit) else (if v then Some (place.InEscape r escape.HighThirdDigit) else None)))
      leads t v p q =
          (λ i. taken (escaped escape.SecondDigitAfterD) (option_map does.To
          (if p i then Some (place.InEscape r escape.ThirdDigit) else (if q i then Some (place.InEscape r escape.HighThirdDigit) else None))))

      go : (t v : Bool) → nat_lt (digit_value b) 8 ≡ t → nat_lt (digit_value b) 12 ≡ v → Closes lex.in_string (escaped escape.SecondDigitAfterD) (b ∷ c ∷ d ∷ xs)
      go true v p q =
          let less : digit_value b < 8 = ltb-true (digit_value b) 8 p in
          hex_step b (c ∷ d ∷ xs) hb (leads true v p q) (last_two c d xs hc hd
          (character (unit_d b c d) xs s (below_high (digit_value b) (digit_value c) (digit_value d) less hc hd)
          (below_low (digit_value b) (digit_value c) (digit_value d) (omega arith) hc hd) e again))
      go false true p q =
          let less : digit_value b < 12 = ltb-true (digit_value b) 12 q in
          let most : 8 ≤ digit_value b = not_less (digit_value b) 8 p in
          let f : content (after_high (unit_d b c d)) xs ≡ Some s =
          sym (ap (λ t. cond t (content (after_high (unit_d b c d)) xs)
          (cond (is_low_surrogate (unit_d b c d)) None (prepend (encode_utf8 (unit_d b c d)) (content plain xs))))
          (is_high (digit_value b) (digit_value c) (digit_value d) most less hc hd)) ∙ e in
          hex_step b (c ∷ d ∷ xs) hb (leads false true p q) (hex_step c (d ∷ xs) hc (high_third c hc) (hex_step d xs hd (high_fourth d hd) (high (unit_d b c d) s f)))
      go false false p q =
          let most : 12 ≤ digit_value b = not_less (digit_value b) 12 q in
          no_text (sym (λ i. cond (above_high (digit_value b) (digit_value c) (digit_value d) most i) (content (after_high (unit_d b c d)) xs)
          (cond (is_low (digit_value b) (digit_value c) (digit_value d) most hb hc hd i) None (prepend (encode_utf8 (unit_d b c d)) (content plain xs)))) ∙ e)

  -- after a backslash and `u`
  four_digits :
      (a b c d : ℕ) (xs s : List ℕ) → digit_value a < 16 → digit_value b < 16 → digit_value c < 16 → digit_value d < 16 →
      Unit_rest xs (digit_value a * 4096 + digit_value b * 256 + digit_value c * 16 + digit_value d) ≡ Some s → Again xs → HighAgain xs →
      Closes lex.in_string (escaped escape.FirstDigit) (a ∷ b ∷ c ∷ d ∷ xs)
  four_digits a b c d xs s ha hb hc hd e again high =
      let P : ℕ → Type 0 = λ y. digit_value y < 16 → Unit_rest xs (digit_value y * 4096 + digit_value b * 256 + digit_value c * 16 + digit_value d) ≡ Some s →
      Closes lex.in_string (escaped escape.FirstDigit) (y ∷ b ∷ c ∷ d ∷ xs) in
      let go : P a =
      is_or_not P a 100 (λ h f. hex_step 100 (b ∷ c ∷ d ∷ xs) h refl (letter_d b c d xs s hb hc hd f again high)) (λ n.
      is_or_not P a 68 (λ h f. hex_step 68 (b ∷ c ∷ d ∷ xs) h refl (letter_d b c d xs s hb hc hd f again high)) (λ m h f.
      let other = not_13 a h n m in
      hex_step a (b ∷ c ∷ d ∷ xs) h (first_digit a h n m) (hex_step b (c ∷ d ∷ xs) hb (second_digit b hb) (last_two c d xs hc hd
      (character (digit_value a * 4096 + digit_value b * 256 + digit_value c * 16 + digit_value d) xs s
      (not_high (digit_value a) (digit_value b) (digit_value c) (digit_value d) other hb hc hd)
      (not_low (digit_value a) (digit_value b) (digit_value c) (digit_value d) other hb hc hd) f again))))) in
      go ha e

  pub low_digit : (b : ℕ) → 12 ≤ digit_value b → digit_value b < 16 → next (escaped (escape.Low low.SecondDigit)) b ≡ Ok (escaped escape.ThirdDigit)
  low_digit b most less =
      (λ i. taken (escaped (escape.Low low.SecondDigit)) (option_map does.To
      (if le-leb 12 (digit_value b) most i && lt-ltb (digit_value b) 16 less i then Some (place.InEscape r escape.ThirdDigit) else None)))

  -- the digits of a low surrogate
  low_digits :
      (a b c d : ℕ) (xs : List ℕ) → digit_value a < 16 → digit_value b < 16 → digit_value c < 16 → digit_value d < 16 →
      is_low_surrogate (digit_value a * 4096 + digit_value b * 256 + digit_value c * 16 + digit_value d) ≡ true → Closes lex.in_string inside xs →
      Closes lex.in_string (escaped (escape.Low low.FirstDigit)) (a ∷ b ∷ c ∷ d ∷ xs)
  low_digits a b c d xs ha hb hc hd e k =
      let P : ℕ → Type 0 = λ y. digit_value y < 16 → is_low_surrogate (digit_value y * 4096 + digit_value b * 256 + digit_value c * 16 + digit_value d) ≡ true →
      Closes lex.in_string (escaped (escape.Low low.FirstDigit)) (y ∷ b ∷ c ∷ d ∷ xs) in
      let after : is_low_surrogate (unit_d b c d) ≡ true → Closes lex.in_string (escaped (escape.Low low.SecondDigit)) (b ∷ c ∷ d ∷ xs) =
      λ f. hex_step b (c ∷ d ∷ xs) hb (low_digit b (low_is_high_digit (digit_value b) (digit_value c) (digit_value d) f hc hd) hb) (last_two c d xs hc hd k) in
      let go : P a =
      is_or_not P a 100 (λ h f. hex_step 100 (b ∷ c ∷ d ∷ xs) h refl (after f)) (λ n.
      is_or_not P a 68 (λ h f. hex_step 68 (b ∷ c ∷ d ∷ xs) h refl (after f)) (λ m h f.
      absurd (true≢false (sym f ∙ not_low (digit_value a) (digit_value b) (digit_value c) (digit_value d) (not_13 a h n m) hb hc hd)))) in
      go ha e

  -- the byte after a backslash
  letter :
      (x : ℕ) (xs s : List ℕ) → content after_backslash (x ∷ xs) ≡ Some s → Again xs →
      ((t : List ℕ) → content after_u xs ≡ Some t → Closes lex.in_string (escaped escape.FirstDigit) xs) → Closes lex.in_escape (escaped escape.Letter) (x ∷ xs)
  unfolding content lex.lex short_escape
  letter x xs s e again unit =
      let P : ℕ → Type 0 = λ y. content after_backslash (y ∷ xs) ≡ Some s → Closes lex.in_escape (escaped escape.Letter) (y ∷ xs) in
      let short : (c made : ℕ) → next (escaped escape.Letter) c ≡ Ok inside → option_and_then (λ x. prepend (x ∷ []) (content plain xs)) (Some made) ≡ Some s →
      Closes lex.in_escape (escaped escape.Letter) (c ∷ xs) =
      λ c made e f. let t = prepended (made ∷ []) (content plain xs) s f in step lex.in_escape lex.in_string c xs e refl (again t.0 t.1) in
      let go : P x =
      is_or_not P x 117 (λ f. step lex.in_escape lex.in_string 117 xs refl refl (unit s f)) (λ nu.
      is_or_not P x 34 (short 34 34 refl) (λ n0. is_or_not P x 92 (short 92 92 refl) (λ n1. is_or_not P x 47 (short 47 47 refl) (λ n2.
      is_or_not P x 98 (short 98 8 refl) (λ n3. is_or_not P x 102 (short 102 12 refl) (λ n4. is_or_not P x 110 (short 110 10 refl) (λ n5.
      is_or_not P x 114 (short 114 13 refl) (λ n6. is_or_not P x 116 (short 116 9 refl) (λ n7 f.
      no_text (sym ((λ i. cond (ne_eqb x 117 nu i) (content after_u xs) (option_and_then (λ y. prepend (y ∷ []) (content plain xs))
      (no_escape x n0 n1 n2 n3 n4 n5 n6 n7 i)))) ∙ f)))))))))) in
      go e

  four :
      (a b c d : ℕ) (xs s : List ℕ) → option_and_then (Unit_rest xs) (code_unit a b c d) ≡ Some s → Again xs → HighAgain xs →
      Closes lex.in_string (escaped escape.FirstDigit) (a ∷ b ∷ c ∷ d ∷ xs)
  four a b c d xs s e again high =
      let w = and_then_some (Unit_rest xs) (code_unit a b c d) s e in
      let h = hex_unit a b c d w.0 w.1 in
      four_digits a b c d xs s h.first h.second h.third h.fourth (sym (ap (Unit_rest xs) h.is) ∙ w.2) again high

  abbrev Low_rest : List ℕ → ℕ → ℕ → Option (List ℕ)
  Low_rest xs high l = cond (is_low_surrogate l) (prepend (encode_utf8 (surrogate_pair high l)) (content plain xs)) None

  if_some : (b : Bool) (o : Option (List ℕ)) (s : List ℕ) → cond b o None ≡ Some s → (b ≡ true) × (o ≡ Some s)
  if_some true o s e = (refl, e)
  if_some false o s e = no_text e

  low_pair :
      (high x u a b c d : ℕ) (xs s : List ℕ) → cond ((x == 92) && (u == 117)) (option_and_then (Low_rest xs high) (code_unit a b c d)) None ≡ Some s → Again xs →
      Closes lex.in_string (escaped (escape.Low low.Backslash)) (x ∷ u ∷ a ∷ b ∷ c ∷ d ∷ xs)
  unfolding lex.lex
  low_pair high x u a b c d xs s e again =
      let p = if_some _ (option_and_then (Low_rest xs high) (code_unit a b c d)) s e in
      let both = and_parts (x == 92) (u == 117) p.0 in
      let w = and_then_some (Low_rest xs high) (code_unit a b c d) s p.1 in
      let h = hex_unit a b c d w.0 w.1 in
      let q = if_some (is_low_surrogate w.0) _ s w.2 in
      let t = prepended (encode_utf8 (surrogate_pair high w.0)) (content plain xs) s q.1 in
      let digits = low_digits a b c d xs h.first h.second h.third h.fourth (sym (ap is_low_surrogate h.is) ∙ q.0) (again t.0 t.1) in
      let pair : Closes lex.in_string (escaped (escape.Low low.Backslash)) (92 ∷ 117 ∷ a ∷ b ∷ c ∷ d ∷ xs) =
      step lex.in_string lex.in_escape 92 (117 ∷ a ∷ b ∷ c ∷ d ∷ xs) refl refl (step lex.in_escape lex.in_string 117 (a ∷ b ∷ c ∷ d ∷ xs) refl refl digits) in
      subst (λ y. Closes lex.in_string (escaped (escape.Low low.Backslash)) (y ∷ u ∷ a ∷ b ∷ c ∷ d ∷ xs)) (sym (eqb-true x 92 both.0))
      (subst (λ y. Closes lex.in_string (escaped (escape.Low low.Backslash)) (92 ∷ y ∷ a ∷ b ∷ c ∷ d ∷ xs)) (sym (eqb-true u 117 both.1)) pair)

  content_byte :
      (x : ℕ) (xs s : List ℕ) → content plain (x ∷ xs) ≡ Some s → Again xs →
      ((t : List ℕ) → content after_backslash xs ≡ Some t → Closes lex.in_escape (escaped escape.Letter) xs) → Closes lex.in_string inside (x ∷ xs)
  unfolding content lex.lex
  content_byte x xs s e again escapes =
      let P : ℕ → Type 0 = λ y. content plain (y ∷ xs) ≡ Some s → Closes lex.in_string inside (y ∷ xs) in
      let go : P x =
      is_or_not P x 34 (λ f. (xs, refl, λ a. more 34 refl a)) (λ nq.
      is_or_not P x 92 (λ f. step lex.in_string lex.in_escape 92 xs refl refl (escapes s f)) (λ nb f.
      let g : cond (nat_lt x 32) None (prepend (x ∷ []) (content plain xs)) ≡ Some s =
      sym (λ i. cond (ne_eqb x 34 nq i) (Some []) (cond (ne_eqb x 92 nb i) (content after_backslash xs)
      (cond (nat_lt x 32) None (prepend (x ∷ []) (content plain xs))))) ∙ f in
      plain_byte x xs s nq nb g again)) in
      go e

  mutual
    unfolding content

    pub passes : (xs s : List ℕ) → content plain xs ≡ Some s → Closes lex.in_string inside xs
    passes [] s e = no_text e
    passes (x ∷ xs) s e = content_byte x xs s e (λ t f. passes xs t f) (λ t f. escapes xs t f)

    escapes : (xs s : List ℕ) → content after_backslash xs ≡ Some s → Closes lex.in_escape (escaped escape.Letter) xs
    escapes [] s e = no_text e
    escapes (x ∷ xs) s e = letter x xs s e (λ t f. passes xs t f) (λ t f. units xs t f)

    units : (xs s : List ℕ) → content after_u xs ≡ Some s → Closes lex.in_string (escaped escape.FirstDigit) xs
    units [] s e = no_text e
    units (a ∷ []) s e = no_text e
    units (a ∷ b ∷ []) s e = no_text e
    units (a ∷ b ∷ c ∷ []) s e = no_text e
    units (a ∷ b ∷ c ∷ d ∷ xs) s e = four a b c d xs s e (λ t f. passes xs t f) (λ u t f. lows xs u t f)

    lows : (xs : List ℕ) (high : ℕ) (s : List ℕ) → content (after_high high) xs ≡ Some s → Closes lex.in_string (escaped (escape.Low low.Backslash)) xs
    lows [] high s e = no_text e
    lows (x ∷ []) high s e = no_text e
    lows (x ∷ u ∷ []) high s e = no_text e
    lows (x ∷ u ∷ a ∷ []) high s e = no_text e
    lows (x ∷ u ∷ a ∷ b ∷ []) high s e = no_text e
    lows (x ∷ u ∷ a ∷ b ∷ c ∷ []) high s e = no_text e
    lows (x ∷ u ∷ a ∷ b ∷ c ∷ d ∷ xs) high s e = low_pair high x u a b c d xs s e (λ t f. passes xs t f)
