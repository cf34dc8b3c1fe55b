-- The lexemes of the parts of a text that the grammar derives.
use Rattle.std.proofs.Common.{◌≡◌, ℕ, suc, ◌+◌, ◌<◌, ◌≤◌, List, [], ◌∷◌, ◌++◌, length, take, drop, take_while, Bool, true, false, not, ◌==◌, ◌||◌, cond, refl, sym, ap, ◌∙◌, subst, arith, Some, None, option_and_then, append_assoc, append-nil}
use Rattle.std.proofs.lemmas.Bool.{ne_eqb, true≢false, and_parts, not-true, le-ltb}
use Rattle.std.specs.Char.{is_ascii_digit, digit_value, encode_utf8}
use Rattle.std.specs.List.{prefix_len}
use Rattle.json.specs.Print.{IsNumber as IsWhole}
use Rattle.json.specs.Text.{short_escape, is_high_surrogate, is_low_surrogate, surrogate_pair, plain, after_backslash, after_high, prepend, content}
use Rattle.json.specs.Token as token
use Rattle.json.specs.Token.{Token}
use Rattle.json.specs.Word.{is_operator, is_space, ends_word, after_digits, after_minus, after_sign, after_whole, after_fraction, after_exponent, after_number}
use Rattle.json.specs.Lex as lex
use Rattle.json.specs.Lex.{class, Lexeme, Mode, lex_byte, operator_lexeme, string_token}
use Rattle.tv_json.specs.Grammar.{Optional, absent, present, Repeated, no_more, another, IsOne, one, IsSpace, IsStructural, structural, AreDigits, AreSomeDigits, some_digits, IsMinus, minus, IsInt, IsFrac, frac, IsExp, exp, IsNumber, IsUnit, spells, IsChar, unescaped, escaped, IsString, zero as zero_digit, from_one, number as the_number, unit as unit_char, pair as pair_char, string as the_string}
use Rattle.tv_json.specs.LargeNumber.{is_number_byte}
use Rattle.tv_json.specs.Syntax.{is_short_escape, is_sign}
use Rattle.tv_json.specs.declared.json_place.StringRole.TheVariants as role
use Rattle.tv_json.proofs.Accepted.{is_or_not, by_digit, by_delimiter, by_operator, class-space}
use Rattle.tv_json.proofs.AcceptedStrings.{HexUnit, hex_unit, class-hex, plain_passes}
use Rattle.tv_json.proofs.Derived.{two_bytes, Delimited, delimited}

-- ---- runs of bytes

run_len : (passes : ℕ → Bool) {ds : List ℕ} (t : List ℕ) → Repeated (IsOne passes) ds → prefix_len passes t ≡ 0 → prefix_len passes (ds ++ t) ≡ length ds
run_len passes t no_more z = z
run_len passes t (another {others = o} (one x d) rest) z =
    let next : 1 + length o ≡ suc (length o) = omega arith in
    (λ i. cond (d i) (1 + run_len passes t rest z i) 0) ∙ next

take_front : (ds t : List ℕ) → take (length ds) (ds ++ t) ≡ ds
take_front [] t = refl
take_front (x ∷ xs) t = ap (λ l. x ∷ l) (take_front xs t)

drop_front : (ds t : List ℕ) → drop (length ds) (ds ++ t) ≡ t
drop_front [] t = refl
drop_front (x ∷ xs) t = drop_front xs t

Repeated-append : {Part : List ℕ → Type 0} {a b : List ℕ} → Repeated Part a → Repeated Part b → Repeated Part (a ++ b)
Repeated-append no_more h = h
Repeated-append {Part} {b = b} (another {first = f} {others = o} p rest) h =
    subst (Repeated Part) (sym (append_assoc f o b)) (another p (Repeated-append rest h))

-- ---- numbers

some_are : {ds : List ℕ} → AreSomeDigits ds → AreDigits ds
some_are (some_digits d rest) = another d rest

some_run : {ds : List ℕ} (t : List ℕ) → AreSomeDigits ds → prefix_len is_ascii_digit t ≡ 0 → after_digits (ds ++ t) ≡ Some t
some_run t (some_digits {others = o} (one x d) rest) z =
    let len = run_len is_ascii_digit t (another (one x d) rest) z in
    ap (λ k. cond (k == 0) None (Some (drop k (x ∷ (o ++ t))))) len
    ∙ (λ i. cond (ne_eqb (suc (length o)) 0 (λ e. omega arith) i) None (Some (drop_front (x ∷ o) t i)))

some_alone : {ds : List ℕ} → AreSomeDigits ds → after_digits ds ≡ Some []
some_alone {ds} h = ap after_digits (sym (append-nil ds)) ∙ some_run [] h refl

no_digit_exp : {e : List ℕ} → Optional IsExp e → prefix_len is_ascii_digit e ≡ 0
no_digit_exp absent = refl
no_digit_exp (present (exp {sign = s} {digits = ds} (one x l) sg d)) = two_bytes (λ y. prefix_len is_ascii_digit (y ∷ (s ++ ds)) ≡ 0) 101 69 refl refl x l

no_digit_parts : {f e : List ℕ} → Optional IsFrac f → Optional IsExp e → prefix_len is_ascii_digit (f ++ e) ≡ 0
no_digit_parts absent e = no_digit_exp e
no_digit_parts (present (frac d)) e = refl

unsigned : {ds : List ℕ} → AreSomeDigits ds → after_sign ds ≡ ds
unsigned (some_digits {others = o} (one x d) rest) = by_digit (λ y. after_sign (y ∷ o) ≡ y ∷ o) refl refl refl refl refl refl refl refl refl refl x d

signed_digits : {s ds : List ℕ} → Optional (IsOne is_sign) s → AreSomeDigits ds → after_digits (after_sign (s ++ ds)) ≡ Some []
signed_digits absent d = ap after_digits (unsigned d) ∙ some_alone d
signed_digits {ds = ds} (present (one x s)) d = ap after_digits (two_bytes (λ y. after_sign (y ∷ ds) ≡ ds) 43 45 refl refl x s) ∙ some_alone d

exponent_ends : {e : List ℕ} → Optional IsExp e → after_exponent e ≡ Some []
exponent_ends absent = refl
exponent_ends (present (exp {sign = s} {digits = ds} (one x l) sg d)) =
    let h = signed_digits sg d in two_bytes (λ y. after_exponent (y ∷ (s ++ ds)) ≡ Some []) 101 69 h h x l

fraction_ends : {f e : List ℕ} → Optional IsFrac f → Optional IsExp e → after_fraction (f ++ e) ≡ Some e
fraction_ends absent absent = refl
fraction_ends absent (present (exp {sign = s} {digits = ds} (one x l) sg d)) =
    two_bytes (λ y. after_fraction (y ∷ (s ++ ds)) ≡ Some (y ∷ (s ++ ds))) 101 69 refl refl x l
fraction_ends {e = e} (present (frac d)) h = some_run e d (no_digit_exp h)

whole_ends : {i : List ℕ} (t : List ℕ) → IsInt i → prefix_len is_ascii_digit t ≡ 0 → after_whole (i ++ t) ≡ Some t
whole_ends t zero_digit z = refl
whole_ends t (from_one {others = o} (one x d) ds) z =
    let both = and_parts (is_ascii_digit x) (not (x == 48)) d in
    ap (λ b. cond b (Some (o ++ t)) (after_digits (x ∷ (o ++ t)))) (not-true (x == 48) both.1) ∙ some_run t (some_digits (one x both.0) ds) z

no_minus : {i : List ℕ} (t : List ℕ) → IsInt i → after_minus (i ++ t) ≡ i ++ t
no_minus t zero_digit = refl
no_minus t (from_one {others = o} (one x d) ds) =
    by_digit (λ y. after_minus (y ∷ (o ++ t)) ≡ y ∷ (o ++ t)) refl refl refl refl refl refl refl refl refl refl x (and_parts (is_ascii_digit x) (not (x == 48)) d).0

number_ends : {i f e : List ℕ} (t : List ℕ) → after_minus t ≡ i ++ (f ++ e) → IsInt i → Optional IsFrac f → Optional IsExp e → IsWhole t
unfolding after_number
number_ends {i} {f} {e} t m w fr ex =
    ap (λ l. option_and_then after_exponent (option_and_then after_fraction (after_whole l))) m
    ∙ ap (λ o. option_and_then after_exponent (option_and_then after_fraction o)) (whole_ends (f ++ e) w (no_digit_parts fr ex))
    ∙ ap (option_and_then after_exponent) (fraction_ends fr ex) ∙ exponent_ends ex

-- a number of the grammar is one that the JSON library passes
pub is_whole : {text : List ℕ} → IsNumber text → IsWhole text
is_whole (the_number {whole = i} {fraction = f} {exponent = e} absent w fr ex) = number_ends (i ++ (f ++ e)) (no_minus (f ++ e) w) w fr ex
is_whole (the_number {whole = i} {fraction = f} {exponent = e} (present minus) w fr ex) = number_ends (45 ∷ (i ++ (f ++ e))) refl w fr ex

abbrev AreNumberBytes : List ℕ → Type 0
AreNumberBytes = Repeated (IsOne is_number_byte)

digit_byte : (x : ℕ) → is_ascii_digit x ≡ true → is_number_byte x ≡ true
digit_byte = by_digit (λ x. is_number_byte x ≡ true) refl refl refl refl refl refl refl refl refl refl

digit_bytes : {ds : List ℕ} → AreDigits ds → AreNumberBytes ds
digit_bytes no_more = no_more
digit_bytes (another (one x d) rest) = another (one x (digit_byte x d)) (digit_bytes rest)

sign_bytes : {s : List ℕ} → Optional (IsOne is_sign) s → AreNumberBytes s
sign_bytes absent = no_more
sign_bytes (present (one x s)) = another (one x (two_bytes (λ y. is_number_byte y ≡ true) 43 45 refl refl x s)) no_more

exp_bytes : {e : List ℕ} → Optional IsExp e → AreNumberBytes e
exp_bytes absent = no_more
exp_bytes (present (exp (one x l) s d)) =
    another (one x (two_bytes (λ y. is_number_byte y ≡ true) 101 69 refl refl x l)) (Repeated-append (sign_bytes s) (digit_bytes (some_are d)))

frac_bytes : {f : List ℕ} → Optional IsFrac f → AreNumberBytes f
frac_bytes absent = no_more
frac_bytes (present (frac d)) = another (one 46 refl) (digit_bytes (some_are d))

int_bytes : {i : List ℕ} → IsInt i → AreNumberBytes i
int_bytes zero_digit = another (one 48 refl) no_more
int_bytes (from_one (one x d) ds) = another (one x (digit_byte x (and_parts (is_ascii_digit x) (not (x == 48)) d).0)) (digit_bytes ds)

minus_bytes : {s : List ℕ} → Optional IsMinus s → AreNumberBytes s
minus_bytes absent = no_more
minus_bytes (present minus) = another (one 45 refl) no_more

number_bytes : {text : List ℕ} → IsNumber text → AreNumberBytes text
number_bytes (the_number s i f e) = Repeated-append (minus_bytes s) (Repeated-append (int_bytes i) (Repeated-append (frac_bytes f) (exp_bytes e)))

no_number_byte : (rest : List ℕ) → ends_word rest ≡ true → prefix_len is_number_byte rest ≡ 0
no_number_byte [] h = refl
no_number_byte (x ∷ xs) h = by_delimiter (λ y. prefix_len is_number_byte (y ∷ xs) ≡ 0) refl refl refl refl refl refl refl refl refl refl x h

-- the bytes of a number, and no others
pub number_taken : {text : List ℕ} (rest : List ℕ) → IsNumber text → ends_word rest ≡ true → take_while is_number_byte (text ++ rest) ≡ text
number_taken {text} rest h ended =
    ap (λ k. take k (text ++ rest)) (run_len is_number_byte rest (number_bytes h) (no_number_byte rest ended)) ∙ take_front text rest

pub number_begun : {text : List ℕ} → IsNumber text → 0 < length text
number_begun (the_number absent zero_digit f e) = omega arith
number_begun (the_number absent (from_one (one x d) ds) f e) = omega arith
number_begun (the_number (present minus) i f e) = omega arith

-- ---- spaces and structural characters

pub spaces_between : {text : List ℕ} (t : List ℕ) → IsSpace text → lex.lex lex.between (text ++ t) ≡ lex.lex lex.between t
unfolding lex.lex
spaces_between t no_more = refl
spaces_between t (another {others = o} (one x e) rest) = ap (λ c. lex_byte lex.between c x (o ++ t) (λ m. lex.lex m (o ++ t))) (class-space x e) ∙ spaces_between t rest

operator_class : (c : ℕ) → is_operator c ≡ true → class c ≡ lex.operator
operator_class = by_operator (λ c. class c ≡ lex.operator) refl refl refl refl refl refl

operator_first : (c : ℕ) → is_operator c ≡ true → (t : List ℕ) → lex.lex lex.between (c ∷ t) ≡ operator_lexeme c ∷ lex.lex lex.between t
unfolding lex.lex
operator_first c o t = ap (λ k. lex_byte lex.between k c t (λ m. lex.lex m t)) (operator_class c o)

pub structural_lexeme : (c : ℕ) → is_operator c ≡ true → (text : List ℕ) → IsStructural c text → (t : List ℕ) → lex.lex lex.between (text ++ t) ≡ operator_lexeme c ∷ lex.lex lex.between t
structural_lexeme c o text (structural {before = b} {after = a} before after) t =
    ap (lex.lex lex.between) (append_assoc b (c ∷ a) t) ∙ spaces_between (c ∷ (a ++ t)) before ∙ operator_first c o (a ++ t) ∙ ap (λ l. operator_lexeme c ∷ l) (spaces_between t after)

pub ends_delimited : {text : List ℕ} (t : List ℕ) → Delimited text → ends_word (text ++ t) ≡ true
ends_delimited t (delimited x d) = d

-- ---- strings

by_short : (P : ℕ → Type 0) → P 34 → P 92 → P 47 → P 98 → P 102 → P 110 → P 114 → P 116 → (x : ℕ) → is_short_escape x ≡ true → P x
by_short P a b c d e f g h x s =
    is_or_not P x 34 a (λ n0. is_or_not P x 92 b (λ n1. is_or_not P x 47 c (λ n2. is_or_not P x 98 d (λ n3. is_or_not P x 102 e (λ n4. is_or_not P x 110 f (λ n5.
    is_or_not P x 114 g (λ n6. is_or_not P x 116 h (λ n7.
    absurd (true≢false (sym s ∙ (λ i. ne_eqb x 34 n0 i || ne_eqb x 92 n1 i || ne_eqb x 47 n2 i || ne_eqb x 98 n3 i || ne_eqb x 102 n4 i || ne_eqb x 110 n5 i || ne_eqb x 114 n6 i || ne_eqb x 116 n7 i)))))))))))

-- a part of a string is passed, and has a content
record Within (part t : List ℕ) : Type 0 where
  bytes : List ℕ
  holds : content plain (part ++ t) ≡ prepend bytes (content plain t)
  passes : lex.lex lex.in_string (part ++ t) ≡ lex.lex lex.in_string t

hex_pass : (x : ℕ) (xs : List ℕ) → digit_value x < 16 → lex.lex lex.in_string (x ∷ xs) ≡ lex.lex lex.in_string xs
unfolding lex.lex
hex_pass x xs h = ap (λ k. lex_byte lex.in_string k x xs (λ m. lex.lex m xs)) (class-hex x h)

unit_pass : {a b c d u : ℕ} (t : List ℕ) → HexUnit a b c d u → lex.lex lex.in_string (92 ∷ 117 ∷ a ∷ b ∷ c ∷ d ∷ t) ≡ lex.lex lex.in_string t
unfolding lex.lex
unit_pass {a} {b} {c} {d} t h =
    hex_pass a (b ∷ c ∷ d ∷ t) h.first ∙ hex_pass b (c ∷ d ∷ t) h.second ∙ hex_pass c (d ∷ t) h.third ∙ hex_pass d t h.fourth

plain_within : (x : ℕ) (t : List ℕ) → 32 ≤ x → (x ≡ 34 → ⊥) → (x ≡ 92 → ⊥) → Within (x ∷ []) t
unfolding content lex.lex
plain_within x t l nq nb = record {
  bytes = x ∷ [];
  holds = (λ i. cond (ne_eqb x 34 nq i) (Some []) (cond (ne_eqb x 92 nb i) (content after_backslash t) (cond (le-ltb x 32 l i) None (prepend (x ∷ []) (content plain t)))));
  passes = (λ i. lex_byte lex.in_string (cond (ne_eqb x 34 nq i) lex.quote (cond (ne_eqb x 92 nb i) lex.backslash (cond (is_operator x) lex.operator (cond (is_space x) lex.space lex.other))))
      x t (λ m. lex.lex m t)) ∙ plain_passes role.Value [] (is_operator x) (is_space x) x t (λ m. lex.lex m t);
}

short_within : (x : ℕ) (t : List ℕ) → is_short_escape x ≡ true → Within (92 ∷ x ∷ []) t
unfolding content lex.lex short_escape
short_within x t s =
    by_short (λ y. Within (92 ∷ y ∷ []) t) (record { bytes = 34 ∷ []; holds = refl; passes = refl }) (record { bytes = 92 ∷ []; holds = refl; passes = refl })
    (record { bytes = 47 ∷ []; holds = refl; passes = refl }) (record { bytes = 8 ∷ []; holds = refl; passes = refl }) (record { bytes = 12 ∷ []; holds = refl; passes = refl })
    (record { bytes = 10 ∷ []; holds = refl; passes = refl }) (record { bytes = 13 ∷ []; holds = refl; passes = refl }) (record { bytes = 9 ∷ []; holds = refl; passes = refl }) x s

unit_within : {u : ℕ} {text : List ℕ} (t : List ℕ) → IsUnit u text → is_high_surrogate u ≡ false → is_low_surrogate u ≡ false → Within text t
unfolding content
unit_within {u} t (spells a b c d e) nh nl = record {
  bytes = encode_utf8 u;
  holds = ap (option_and_then (λ k. cond (is_high_surrogate k) (content (after_high k) t) (cond (is_low_surrogate k) None (prepend (encode_utf8 k) (content plain t))))) e
      ∙ (λ i. cond (nh i) (content (after_high u) t) (cond (nl i) None (prepend (encode_utf8 u) (content plain t))));
  passes = unit_pass t (hex_unit a b c d u e);
}

pair_within : {h l : ℕ} {first second : List ℕ} (t : List ℕ) → IsUnit h first → is_high_surrogate h ≡ true → IsUnit l second → is_low_surrogate l ≡ true → Within (first ++ second) t
unfolding content
pair_within {h} {l} t (spells a b c d e) s (spells a' b' c' d' f) v = record {
  bytes = encode_utf8 (surrogate_pair h l);
  holds = ap (option_and_then (λ k. cond (is_high_surrogate k) (content (after_high k) (92 ∷ 117 ∷ a' ∷ b' ∷ c' ∷ d' ∷ t))
      (cond (is_low_surrogate k) None (prepend (encode_utf8 k) (content plain (92 ∷ 117 ∷ a' ∷ b' ∷ c' ∷ d' ∷ t)))))) e
      ∙ ap (λ y. cond y (content (after_high h) (92 ∷ 117 ∷ a' ∷ b' ∷ c' ∷ d' ∷ t)) (cond (is_low_surrogate h) None (prepend (encode_utf8 h) (content plain (92 ∷ 117 ∷ a' ∷ b' ∷ c' ∷ d' ∷ t))))) s
      ∙ ap (option_and_then (λ k. cond (is_low_surrogate k) (prepend (encode_utf8 (surrogate_pair h k)) (content plain t)) None)) f
      ∙ ap (λ y. cond y (prepend (encode_utf8 (surrogate_pair h l)) (content plain t)) None) v;
  passes = unit_pass (92 ∷ 117 ∷ a' ∷ b' ∷ c' ∷ d' ∷ t) (hex_unit a b c d h e) ∙ unit_pass t (hex_unit a' b' c' d' l f);
}

char_within : {text : List ℕ} (t : List ℕ) → IsChar text → Within text t
char_within t (unescaped x l nq nb) = plain_within x t l nq nb
char_within t (escaped x s) = short_within x t s
char_within t (unit_char u nh nl) = unit_within t u nh nl
char_within t (pair_char f h s l) = pair_within t f h s l

record Inside (chars t : List ℕ) : Type 0 where
  bytes : List ℕ
  holds : content plain (chars ++ (34 ∷ t)) ≡ Some bytes
  passes : lex.lex lex.in_string (chars ++ (34 ∷ t)) ≡ lex.lex lex.between t

inside_of : {chars : List ℕ} (t : List ℕ) → Repeated IsChar chars → Inside chars t
unfolding content lex.lex
inside_of t no_more = record { bytes = []; holds = refl; passes = refl }
inside_of t (another {first = f} {others = o} c rest) =
    let i = inside_of t rest in
    let w = char_within (o ++ (34 ∷ t)) c in
    let regroup = append_assoc f o (34 ∷ t) in
    record {
      bytes = w.bytes ++ i.bytes;
      holds = ap (content plain) regroup ∙ w.holds ∙ ap (prepend w.bytes) i.holds;
      passes = ap (lex.lex lex.in_string) regroup ∙ w.passes ∙ i.passes;
    }

pub string_lexeme : {text : List ℕ} (t : List ℕ) → IsString text → (s : List ℕ) × (lex.lex lex.between (text ++ t) ≡ lex.token (token.string s) ∷ lex.lex lex.between t)
unfolding lex.lex
string_lexeme t (the_string {inside = c} chars) =
    let i = inside_of t chars in
    let regroup = append_assoc c (34 ∷ []) t in
    (i.bytes, ap (λ l. lex.lex lex.between (34 ∷ l)) regroup ∙ (λ k. lex.token (string_token (i.holds k)) ∷ i.passes k))
