-- A text that the table passes is derived by the grammar: what is left of it from each place.
use Rattle.std.proofs.Common.{◌≡◌, ◌⊎◌, inl, inr, ℕ, zero, suc, ◌+◌, ◌*◌, ◌<◌, ◌≤◌, List, [], ◌∷◌, ◌++◌, length, drop, Bool, true, false, not, ◌==◌, ◌&&◌, if◌then◌else◌, cond, nat_lt, nat_le, refl, sym, ap, ◌∙◌, subst, arith, Option, Some, None, Result, Ok, Err, option_map, append_assoc, slice_get}
use Rattle.std.proofs.lemmas.Bool.{eqb-true, eqb-false, false≢true, and_parts, ltb-true, ltb-false, leb-true, lt-ltb, or_cases, or_parts}
use Rattle.std.proofs.lemmas.Bool.Decides.{nat_tests}
use Rattle.std.specs.Char.{is_ascii_digit, is_ascii_hexdigit, digit_value}
use Rattle.json.specs.Ascii as ascii
use Rattle.json.specs.Text.{code_unit, is_high_surrogate, is_low_surrogate}
use Rattle.json.specs.Word.{is_space}
use Rattle.serde_json.specs.Read.{max_depth}
use Rattle.tv_json.specs.Faults.{next, taken, end_fault, Leads, no_bytes, byte, IsSyntax}
use Rattle.tv_json.specs.Grammar.{Optional, absent, present, Repeated, no_more, another, IsOne, one, IsSpace, IsStructural, structural, AreDigits, AreSomeDigits, some_digits, minus, is_digit_from_one, IsInt, IsFrac, frac, IsExp, exp, IsNumber, spells, IsChar, unescaped, escaped, IsString, IsValue, the_false, the_null, the_true, an_object, an_array, a_number, a_string, IsObject, IsMembers, IsMember, IsArray, IsElements, one_value, more_values, one_member, more_members, IsJsonText, json_text, zero as zero_digit, from_one, number as the_number, unit as unit_char, pair as pair_char, string as the_string, member as the_member, object as the_object, array as the_array, empty_object, empty_array}
use Rattle.tv_json.specs.ListKinds.{innermost}
use Rattle.tv_json.specs.Syntax.{first_place, step_at, word_text, spaced, value_begins, key_begins, value_ends, string_ends, in_string, in_escape, after_digit, is_letter_d, is_short_escape, is_e, is_sign, in_word, letter_leads, is_whole_number, number_leads, in_number}
use Rattle.tv_json.specs.declared.json_expected.JsonWord.{JsonWord}
use Rattle.tv_json.specs.declared.json_expected.JsonWord.TheVariants as words
use Rattle.tv_json.specs.declared.json_expected.LowSurrogatePart.{LowSurrogatePart}
use Rattle.tv_json.specs.declared.json_expected.LowSurrogatePart.TheVariants as low
use Rattle.tv_json.specs.declared.json_fault.JsonFaultKind.{JsonFaultKind}
use Rattle.tv_json.specs.declared.json_place.EscapePart.{EscapePart}
use Rattle.tv_json.specs.declared.json_place.EscapePart.TheVariants as escape
use Rattle.tv_json.specs.declared.json_place.ListKind.{ListKind}
use Rattle.tv_json.specs.declared.json_place.ListKind.TheVariants.{Array, Object}
use Rattle.tv_json.specs.declared.json_place.NumberPart.{NumberPart}
use Rattle.tv_json.specs.declared.json_place.NumberPart.TheVariants as part
use Rattle.tv_json.specs.declared.json_place.Place.{Place}
use Rattle.tv_json.specs.declared.json_place.Place.TheVariants as place
use Rattle.tv_json.specs.declared.json_place.Step.{Step}
use Rattle.tv_json.specs.declared.json_place.Step.TheVariants as does
use Rattle.tv_json.specs.declared.json_place.StringRole.{StringRole}
use Rattle.tv_json.specs.declared.json_place.StringRole.TheVariants as role
use Rattle.tv_json.specs.declared.json_scan.Scan.{Scan}
use Rattle.tv_json.proofs.Accepted.{at}
use Rattle.tv_json.proofs.AcceptedStrings.{not_high, not_low, below_high, below_low, is_high, is_low, not_13}

-- ---- one part after another

pub data Then (P Q : List ℕ → Type 0) : List ℕ → Type 0 where
  both : {first others : List ℕ} → P first → Q others → Then P Q (first ++ others)

pub data Byte (byte : ℕ) : List ℕ → Type 0 where
  the_byte : Byte byte (byte ∷ [])

regroup : {P Q R : List ℕ → Type 0} {text : List ℕ} → Then P (Then Q R) text → Then (Then P Q) R text
regroup {P} {Q} {R} (both {first = a} p (both {first = b} {others = c} q r)) = subst (Then (Then P Q) R) (append_assoc a b c) (both (both p q) r)

others_map : {P Q R : List ℕ → Type 0} {text : List ℕ} → ((t : List ℕ) → Q t → R t) → Then P Q text → Then P R text
others_map f (both {others = b} p q) = both p (f b q)

first_map : {P Q R : List ℕ → Type 0} {text : List ℕ} → ((t : List ℕ) → P t → R t) → Then P Q text → Then R Q text
first_map f (both {first = a} p q) = both (f a p) q

regroup_last : {P Q R S : List ℕ → Type 0} {text : List ℕ} → Then P (Then Q (Then R S)) text → Then (Then P (Then Q R)) S text
regroup_last h = regroup (others_map (λ t x. regroup x) h)

-- ---- what is left after a value

-- in a list, after one of its values
data ListRest (Values : List ℕ → Type 0) (close : ℕ) : List ℕ → Type 0 where
  list_ends : {text : List ℕ} → IsStructural close text → ListRest Values close text
  list_goes_on : {text : List ℕ} → Then (IsStructural ascii.comma) (Then Values (IsStructural close)) text → ListRest Values close text

abbrev Follows : ℕ → List ListKind → List ℕ → Type 0
Follows levels [] = IsSpace
Follows levels (Array ∷ outer) = Then (ListRest (IsElements levels) ascii.close_bracket) (Follows (suc levels) outer)
Follows levels (Object ∷ outer) = Then (ListRest (IsMembers levels) ascii.close_brace) (Follows (suc levels) outer)

abbrev Valued : ℕ → List ListKind → List ℕ → Type 0
Valued levels lists = Then (IsValue levels) (Follows levels lists)

-- ---- what is left inside numbers, strings and words

abbrev PartsRest : List ℕ → Type 0
PartsRest = Then (Optional IsFrac) (Optional IsExp)

abbrev NumberRest : NumberPart → List ℕ → Type 0
NumberRest part.Minus = Then IsInt PartsRest
NumberRest part.Zero = PartsRest
NumberRest part.Whole = Then AreDigits PartsRest
NumberRest part.Point = Then AreSomeDigits (Optional IsExp)
NumberRest part.Fraction = Then AreDigits (Optional IsExp)
NumberRest part.LetterE = Then (Optional (IsOne is_sign)) AreSomeDigits
NumberRest part.Sign = AreSomeDigits
NumberRest part.Exponent = AreDigits

abbrev HexDigit : List ℕ → Type 0
HexDigit = IsOne is_ascii_hexdigit

data HighDigit : List ℕ → Type 0 where
  high_digit : (x : ℕ) → nat_lt (digit_value x) 8 ≡ false → nat_lt (digit_value x) 12 ≡ true → HighDigit (x ∷ [])

abbrev TwoDigits : List ℕ → Type 0
TwoDigits = Then HexDigit HexDigit

abbrev LowRest : LowSurrogatePart → List ℕ → Type 0
LowRest low.Backslash = Then (Byte ascii.backslash) (Then (Byte ascii.lower_u) (Then (IsOne is_letter_d) (Then (IsOne (λ x. nat_le 12 (digit_value x) && nat_lt (digit_value x) 16)) TwoDigits)))
LowRest low.LetterU = Then (Byte ascii.lower_u) (Then (IsOne is_letter_d) (Then (IsOne (λ x. nat_le 12 (digit_value x) && nat_lt (digit_value x) 16)) TwoDigits))
LowRest low.FirstDigit = Then (IsOne is_letter_d) (Then (IsOne (λ x. nat_le 12 (digit_value x) && nat_lt (digit_value x) 16)) TwoDigits)
LowRest low.SecondDigit = Then (IsOne (λ x. nat_le 12 (digit_value x) && nat_lt (digit_value x) 16)) TwoDigits

data AfterD : List ℕ → Type 0 where
  character_digit : {text : List ℕ} → Then (IsOne (λ x. nat_lt (digit_value x) 8)) TwoDigits text → AfterD text
  surrogate_digit : {text : List ℕ} → Then HighDigit (Then HexDigit (Then HexDigit (LowRest low.Backslash))) text → AfterD text

abbrev EscapeRest : EscapePart → List ℕ → Type 0
EscapeRest escape.Letter = λ text. IsChar (ascii.backslash ∷ text)
EscapeRest escape.FirstDigit = λ text. IsChar (ascii.backslash ∷ ascii.lower_u ∷ text)
EscapeRest escape.SecondDigit = Then HexDigit TwoDigits
EscapeRest escape.ThirdDigit = TwoDigits
EscapeRest escape.FourthDigit = HexDigit
EscapeRest escape.SecondDigitAfterD = AfterD
EscapeRest escape.HighThirdDigit = Then HexDigit (Then HexDigit (LowRest low.Backslash))
EscapeRest escape.HighFourthDigit = Then HexDigit (LowRest low.Backslash)
EscapeRest (escape.Low p) = LowRest p

abbrev StringRest : List ℕ → Type 0
StringRest = Then (Repeated IsChar) (Byte ascii.quote)

abbrev AfterString : ℕ → List ListKind → StringRole → List ℕ → Type 0
AfterString levels lists role.Value = Follows levels lists
AfterString levels lists role.Key = Then (IsStructural ascii.colon) (Valued levels lists)

abbrev OrEnd : ℕ → ℕ → List ListKind → (List ℕ → Type 0) → List ℕ → Type 0
OrEnd close levels [] First text = Unit {0}
OrEnd close levels (kind ∷ outer) First text = Then IsSpace First text ⊎ Then IsSpace (Then (Byte close) (Follows (suc levels) outer)) text

abbrev Keyed : ℕ → List ListKind → List ℕ → Type 0
Keyed levels lists = Then (IsMember levels) (Follows levels lists)

-- what is left from a place, in these lists, where this many levels more may begin
abbrev Rest : ℕ → List ListKind → Place → List ℕ → Type 0
Rest levels lists place.Value text = Then IsSpace (Valued levels lists) text
Rest levels lists place.ValueOrEnd text = OrEnd ascii.close_bracket levels lists (Valued levels lists) text
Rest levels lists place.Key text = Then IsSpace (Keyed levels lists) text
Rest levels lists place.KeyOrEnd text = OrEnd ascii.close_brace levels lists (Keyed levels lists) text
Rest levels lists place.Colon text = Then (IsStructural ascii.colon) (Valued levels lists) text
Rest levels lists place.AfterValue text = Follows levels lists text
Rest levels lists (place.InString r) text = Then StringRest (AfterString levels lists r) text
Rest levels lists (place.InEscape r p) text = Then (EscapeRest p) (Then StringRest (AfterString levels lists r)) text
Rest levels lists (place.InNumber p) text = Then (NumberRest p) (Follows levels lists) text
Rest levels lists (place.InWord w n) text = Then (λ t. t ≡ drop n (word_text w)) (Follows levels lists) text

-- ---- lists

list_rest : {Value Values : List ℕ → Type 0} {close : ℕ} {text : List ℕ} → ((t : List ℕ) → Value t → Values t) →
    ((t : List ℕ) → Then Value (Then (IsStructural ascii.comma) Values) t → Values t) → Then Value (ListRest Values close) text → Then Values (IsStructural close) text
list_rest single more (both {first = v} value (list_ends e)) = both (single v value) e
list_rest single more (both value (list_goes_on h)) = first_map more (regroup_last (both value h))

values_more : {levels : ℕ} (t : List ℕ) → Then (IsValue levels) (Then (IsStructural ascii.comma) (IsElements levels)) t → IsElements levels t
values_more t (both v (both c vs)) = more_values v c vs

values_rest : {levels close : ℕ} {text : List ℕ} → Then (IsValue levels) (ListRest (IsElements levels) close) text → Then (IsElements levels) (IsStructural close) text
values_rest h = list_rest (λ t v. one_value v) values_more h

members_more : {levels : ℕ} (t : List ℕ) → Then (IsMember levels) (Then (IsStructural ascii.comma) (IsMembers levels)) t → IsMembers levels t
members_more t (both v (both c vs)) = more_members v c vs

members_rest : {levels close : ℕ} {text : List ℕ} → Then (IsMember levels) (ListRest (IsMembers levels) close) text → Then (IsMembers levels) (IsStructural close) text
members_rest h = list_rest (λ t v. one_member v) members_more h

array_end : {levels : ℕ} {sp text : List ℕ} → IsSpace sp → Then (IsElements levels) (IsStructural ascii.close_bracket) text → IsArray levels (ascii.open_bracket ∷ (sp ++ text))
array_end s (both vs e) = the_array (structural no_more s) vs e

array_of : {levels : ℕ} {text : List ℕ} → Then IsSpace (Then (IsValue levels) (ListRest (IsElements levels) ascii.close_bracket)) text → IsArray levels (ascii.open_bracket ∷ text)
array_of (both s h) = array_end s (values_rest h)

empty_array_of : {levels : ℕ} {text : List ℕ} → Then IsSpace (Byte ascii.close_bracket) text → IsArray levels (ascii.open_bracket ∷ text)
empty_array_of (both s the_byte) = empty_array (structural no_more s) (structural no_more no_more)

object_end : {levels : ℕ} {sp text : List ℕ} → IsSpace sp → Then (IsMembers levels) (IsStructural ascii.close_brace) text → IsObject levels (ascii.open_brace ∷ (sp ++ text))
object_end s (both vs e) = the_object (structural no_more s) vs e

object_of : {levels : ℕ} {text : List ℕ} → Then IsSpace (Then (IsMember levels) (ListRest (IsMembers levels) ascii.close_brace)) text → IsObject levels (ascii.open_brace ∷ text)
object_of (both s h) = object_end s (members_rest h)

empty_object_of : {levels : ℕ} {text : List ℕ} → Then IsSpace (Byte ascii.close_brace) text → IsObject levels (ascii.open_brace ∷ text)
empty_object_of (both s the_byte) = empty_object (structural no_more s) (structural no_more no_more)

array_begins : (levels : ℕ) (outer : List ListKind) (text : List ℕ) → Rest levels (Array ∷ outer) place.ValueOrEnd text → Valued (suc levels) outer (ascii.open_bracket ∷ text)
array_begins levels outer text (inl h) = go (regroup_last h)
  where
    go : {t : List ℕ} → Then (Then IsSpace (Then (IsValue levels) (ListRest (IsElements levels) ascii.close_bracket))) (Follows (suc levels) outer) t
        → Valued (suc levels) outer (ascii.open_bracket ∷ t)
    go (both w f) = both (an_array (array_of w)) f
array_begins levels outer text (inr h) = go (regroup h)
  where
    go : {t : List ℕ} → Then (Then IsSpace (Byte ascii.close_bracket)) (Follows (suc levels) outer) t → Valued (suc levels) outer (ascii.open_bracket ∷ t)
    go (both w f) = both (an_array (empty_array_of w)) f

object_begins : (levels : ℕ) (outer : List ListKind) (text : List ℕ) → Rest levels (Object ∷ outer) place.KeyOrEnd text → Valued (suc levels) outer (ascii.open_brace ∷ text)
object_begins levels outer text (inl h) = go (regroup_last h)
  where
    go : {t : List ℕ} → Then (Then IsSpace (Then (IsMember levels) (ListRest (IsMembers levels) ascii.close_brace))) (Follows (suc levels) outer) t
        → Valued (suc levels) outer (ascii.open_brace ∷ t)
    go (both w f) = both (an_object (object_of w)) f
object_begins levels outer text (inr h) = go (regroup h)
  where
    go : {t : List ℕ} → Then (Then IsSpace (Byte ascii.close_brace)) (Follows (suc levels) outer) t → Valued (suc levels) outer (ascii.open_brace ∷ t)
    go (both w f) = both (an_object (empty_object_of w)) f

comma_values : (levels : ℕ) (outer : List ListKind) (text : List ℕ) → Then IsSpace (Valued levels (Array ∷ outer)) text → Follows levels (Array ∷ outer) (ascii.comma ∷ text)
comma_values levels outer text h = go (regroup_last h)
  where
    goes_on : {t : List ℕ} → Then IsSpace (Then (IsValue levels) (ListRest (IsElements levels) ascii.close_bracket)) t
        → Then (IsStructural ascii.comma) (Then (IsElements levels) (IsStructural ascii.close_bracket)) (ascii.comma ∷ t)
    goes_on (both s w) = both (structural no_more s) (values_rest w)

    go : {t : List ℕ} → Then (Then IsSpace (Then (IsValue levels) (ListRest (IsElements levels) ascii.close_bracket))) (Follows (suc levels) outer) t
        → Follows levels (Array ∷ outer) (ascii.comma ∷ t)
    go (both w f) = both (list_goes_on (goes_on w)) f

comma_members : (levels : ℕ) (outer : List ListKind) (text : List ℕ) → Then IsSpace (Keyed levels (Object ∷ outer)) text → Follows levels (Object ∷ outer) (ascii.comma ∷ text)
comma_members levels outer text h = go (regroup_last h)
  where
    goes_on : {t : List ℕ} → Then IsSpace (Then (IsMember levels) (ListRest (IsMembers levels) ascii.close_brace)) t
        → Then (IsStructural ascii.comma) (Then (IsMembers levels) (IsStructural ascii.close_brace)) (ascii.comma ∷ t)
    goes_on (both s w) = both (structural no_more s) (members_rest w)

    go : {t : List ℕ} → Then (Then IsSpace (Then (IsMember levels) (ListRest (IsMembers levels) ascii.close_brace))) (Follows (suc levels) outer) t
        → Follows levels (Object ∷ outer) (ascii.comma ∷ t)
    go (both w f) = both (list_goes_on (goes_on w)) f

-- ---- spaces

space_before : {x close : ℕ} {Values : List ℕ → Type 0} {text : List ℕ} → is_space x ≡ true → ListRest Values close text → ListRest Values close (x ∷ text)
space_before {x} e (list_ends (structural b a)) = list_ends (structural (another (one x e) b) a)
space_before {x} e (list_goes_on (both (structural b a) h)) = list_goes_on (both (structural (another (one x e) b) a) h)

first_space : {x : ℕ} {P Q : List ℕ → Type 0} {text : List ℕ} → ((t : List ℕ) → P t → P (x ∷ t)) → Then P Q text → Then P Q (x ∷ text)
first_space f (both {first = a} p q) = both (f a p) q

more_space : (x : ℕ) → is_space x ≡ true → (t : List ℕ) → IsSpace t → IsSpace (x ∷ t)
more_space x e t s = another (one x e) s

follows_space : (levels : ℕ) (lists : List ListKind) (x : ℕ) (text : List ℕ) → is_space x ≡ true → Follows levels lists text → Follows levels lists (x ∷ text)
follows_space levels [] x text e h = more_space x e text h
follows_space levels (Array ∷ outer) x text e h = first_space (λ t r. space_before e r) h
follows_space levels (Object ∷ outer) x text e h = first_space (λ t r. space_before e r) h

or_end_space : (close levels : ℕ) (lists : List ListKind) (First : List ℕ → Type 0) (x : ℕ) (text : List ℕ) → is_space x ≡ true → OrEnd close levels lists First text
    → OrEnd close levels lists First (x ∷ text)
or_end_space close levels [] First x text e h = tt
or_end_space close levels (kind ∷ outer) First x text e (inl h) = inl (first_space (more_space x e) h)
or_end_space close levels (kind ∷ outer) First x text e (inr h) = inr (first_space (more_space x e) h)

colon_space : {x : ℕ} → is_space x ≡ true → (t : List ℕ) → IsStructural ascii.colon t → IsStructural ascii.colon (x ∷ t)
colon_space {x} e t (structural b a) = structural (another (one x e) b) a

-- ---- steps

abbrev Back : ℕ → Scan → ℕ → List ℕ → Result Scan JsonFaultKind → Type 0
Back levels s x xs (Err k) = Unit {0}
Back levels s x xs (Ok t) = ((room : ℕ) → room + length t.lists ≡ 127 → Rest room t.lists t.place xs) → Rest levels s.lists s.place (x ∷ xs)

abbrev Steps : ℕ → List ListKind → Place → ℕ → List ℕ → Option Step → Type 0
Steps levels lists p x xs o = Back levels (at p lists) x xs (taken (at p lists) o)

by : {A : Type 0} (P : A → Type 0) (b : Bool) {y z : A} → (b ≡ true → P y) → (b ≡ false → P z) → P (if b then y else z)
by P true f g = f refl
by P false f g = g refl

module _ (levels : ℕ) (lists : List ListKind) (room : levels + length lists ≡ 127) (p : Place) (x : ℕ) (xs : List ℕ) where
  abbrev S : Option Step → Type 0
  S = Steps levels lists p x xs

  to : (q : Place) → (Rest levels lists q xs → Rest levels lists p (x ∷ xs)) → S (Some (does.To q))
  to q f k = f (k levels room)

  begin : (kind : ListKind) → ((m : ℕ) → levels ≡ suc m → Rest m (kind ∷ lists) (first_place kind) xs → Rest levels lists p (x ∷ xs)) → S (Some (does.Begin kind))
  begin kind f =
      by (Back levels (at p lists) x xs) (nat_lt (length lists) max_depth)
      (λ less k. go levels refl (ltb-true (length lists) 127 less) k) (λ no. tt)
    where
      go : (n : ℕ) → levels ≡ n → length lists < 127 → ((left : ℕ) → left + suc (length lists) ≡ 127 → Rest left (kind ∷ lists) (first_place kind) xs) → Rest levels lists p (x ∷ xs)
      go zero e less k = absurd (omega arith)
      go (suc m) e less k = f m e (k m (omega arith))

for_byte : (G : List ℕ → Type 0) (x c : ℕ) (xs : List ℕ) → (x == c) ≡ true → G (c ∷ xs) → G (x ∷ xs)
for_byte G x c xs e h = subst (λ y. G (y ∷ xs)) (sym (eqb-true x c e)) h

grow : {x : ℕ} {P Q R : List ℕ → Type 0} {text : List ℕ} → ((t : List ℕ) → P t → R (x ∷ t)) → Then P Q text → Then R Q (x ∷ text)
grow f (both {first = a} p q) = both (f a p) q

-- ---- where a value ends

value_end :
    (levels : ℕ) (lists : List ListKind) → levels + length lists ≡ 127 → (p : Place) (x : ℕ) (xs : List ℕ) →
    (Follows levels lists (x ∷ xs) → Rest levels lists p (x ∷ xs)) → Steps levels lists p x xs (value_ends (innermost lists) x)
value_end levels [] room p x xs into = tt
value_end levels (Array ∷ outer) room p x xs into =
    by (Steps levels (Array ∷ outer) p x xs) (x == ascii.comma)
    (λ e. to levels (Array ∷ outer) room p x xs place.Value (λ h. into (for_byte (Follows levels (Array ∷ outer)) x ascii.comma xs e (comma_values levels outer xs h))))
    (λ n. by (Steps levels (Array ∷ outer) p x xs) (x == ascii.close_bracket)
    (λ e k. into (for_byte (Follows levels (Array ∷ outer)) x ascii.close_bracket xs e (both (list_ends (structural no_more no_more)) (k (suc levels) (omega arith)))))
    (λ m. tt))
value_end levels (Object ∷ outer) room p x xs into =
    by (Steps levels (Object ∷ outer) p x xs) (x == ascii.comma)
    (λ e. to levels (Object ∷ outer) room p x xs place.Key (λ h. into (for_byte (Follows levels (Object ∷ outer)) x ascii.comma xs e (comma_members levels outer xs h))))
    (λ n. by (Steps levels (Object ∷ outer) p x xs) (x == ascii.close_brace)
    (λ e k. into (for_byte (Follows levels (Object ∷ outer)) x ascii.close_brace xs e (both (list_ends (structural no_more no_more)) (k (suc levels) (omega arith)))))
    (λ m. tt))

module _ (levels : ℕ) (lists : List ListKind) (room : levels + length lists ≡ 127) (x : ℕ) (xs : List ℕ) where
  after_value : (p : Place) → (Follows levels lists (x ∷ xs) → Rest levels lists p (x ∷ xs)) → Steps levels lists p x xs (spaced place.AfterValue x (value_ends (innermost lists) x))
  after_value p into =
      by (Steps levels lists p x xs) (is_space x) (λ e. to levels lists room p x xs place.AfterValue (λ h. into (follows_space levels lists x xs e h)))
      (λ n. value_end levels lists room p x xs into)

-- ---- numbers

digit_from_one : (x : ℕ) → is_ascii_digit x ≡ true → (x == ascii.zero) ≡ false → is_digit_from_one x ≡ true
digit_from_one x d n = (λ i. d i && not (n i))

minus_number : (t : List ℕ) → NumberRest part.Minus t → IsNumber (ascii.minus ∷ t)
minus_number t (both i (both f e)) = the_number (present minus) i f e

zero_number : (t : List ℕ) → NumberRest part.Zero t → IsNumber (ascii.zero ∷ t)
zero_number t (both f e) = the_number absent zero_digit f e

digits_number : (x : ℕ) → is_digit_from_one x ≡ true → (t : List ℕ) → NumberRest part.Whole t → IsNumber (x ∷ t)
digits_number x d t (both ds (both f e)) = the_number absent (from_one (one x d) ds) f e

whole_digits : (x : ℕ) → is_digit_from_one x ≡ true → (t : List ℕ) → NumberRest part.Whole t → NumberRest part.Minus (x ∷ t)
whole_digits x d t (both ds ps) = both (from_one (one x d) ds) ps

point_parts : (t : List ℕ) → NumberRest part.Point t → PartsRest (ascii.dot ∷ t)
point_parts t (both ds e) = both (present (frac ds)) e

letter_exp : (x : ℕ) → is_e x ≡ true → (t : List ℕ) → NumberRest part.LetterE t → Optional IsExp (x ∷ t)
letter_exp x e t (both s ds) = present (exp (one x e) s ds)

more_digits : (x : ℕ) → is_ascii_digit x ≡ true → {Q : List ℕ → Type 0} (t : List ℕ) → Then AreDigits Q t → Then AreDigits Q (x ∷ t)
more_digits x d t (both ds q) = both (another (one x d) ds) q

begun_digits : (x : ℕ) → is_ascii_digit x ≡ true → {Q : List ℕ → Type 0} (t : List ℕ) → Then AreDigits Q t → Then AreSomeDigits Q (x ∷ t)
begun_digits x d t (both ds q) = both (some_digits (one x d) ds) q

ended_number : (p : NumberPart) → is_whole_number p ≡ true → NumberRest p []
ended_number part.Minus h = absurd (false≢true h)
ended_number part.Zero h = both absent absent
ended_number part.Whole h = both no_more (both absent absent)
ended_number part.Point h = absurd (false≢true h)
ended_number part.Fraction h = both no_more absent
ended_number part.LetterE h = absurd (false≢true h)
ended_number part.Sign h = absurd (false≢true h)
ended_number part.Exponent h = no_more

module _ (levels : ℕ) (lists : List ListKind) (room : levels + length lists ≡ 127) (x : ℕ) (xs : List ℕ) where
  abbrev N : NumberPart → Option NumberPart → Type 0
  N p o = Steps levels lists (place.InNumber p) x xs (number_leads o p (innermost lists) x)

  goes : (p q : NumberPart) → ((t : List ℕ) → NumberRest q t → NumberRest p (x ∷ t)) → N p (Some q)
  goes p q f = to levels lists room (place.InNumber p) x xs (place.InNumber q) (λ h. grow f h)

  stops : (p : NumberPart) → is_whole_number p ≡ true → Steps levels lists (place.InNumber p) x xs (spaced place.AfterValue x (value_ends (innermost lists) x))
  stops p w = after_value levels lists room x xs (place.InNumber p) (λ f. both (ended_number p w) f)

  number_back : (p : NumberPart) → Steps levels lists (place.InNumber p) x xs (in_number p (innermost lists) x)
  number_back part.Minus =
      by (N part.Minus) (x == ascii.zero) (λ e. goes part.Minus part.Zero (λ t h. for_byte (NumberRest part.Minus) x ascii.zero t e (both zero_digit h))) (λ n.
      by (N part.Minus) (is_ascii_digit x) (λ d. goes part.Minus part.Whole (whole_digits x (digit_from_one x d n))) (λ m. tt))
  number_back part.Zero =
      by (N part.Zero) (x == ascii.dot) (λ e. goes part.Zero part.Point (λ t h. for_byte PartsRest x ascii.dot t e (point_parts t h))) (λ n.
      by (N part.Zero) (is_e x) (λ e. goes part.Zero part.LetterE (λ t h. both absent (letter_exp x e t h))) (λ m. stops part.Zero refl))
  number_back part.Whole =
      by (N part.Whole) (is_ascii_digit x) (λ d. goes part.Whole part.Whole (more_digits x d)) (λ n.
      by (N part.Whole) (x == ascii.dot) (λ e. goes part.Whole part.Point (λ t h. both no_more (for_byte PartsRest x ascii.dot t e (point_parts t h)))) (λ m.
      by (N part.Whole) (is_e x) (λ e. goes part.Whole part.LetterE (λ t h. both no_more (both absent (letter_exp x e t h)))) (λ l. stops part.Whole refl)))
  number_back part.Point = by (N part.Point) (is_ascii_digit x) (λ d. goes part.Point part.Fraction (begun_digits x d)) (λ n. tt)
  number_back part.Fraction =
      by (N part.Fraction) (is_ascii_digit x) (λ d. goes part.Fraction part.Fraction (more_digits x d)) (λ n.
      by (N part.Fraction) (is_e x) (λ e. goes part.Fraction part.LetterE (λ t h. both no_more (letter_exp x e t h))) (λ m. stops part.Fraction refl))
  number_back part.LetterE =
      by (N part.LetterE) (is_ascii_digit x) (λ d. goes part.LetterE part.Exponent (λ t h. both absent (some_digits (one x d) h))) (λ n.
      by (N part.LetterE) (is_sign x) (λ s. goes part.LetterE part.Sign (λ t h. both (present (one x s)) h)) (λ m. tt))
  number_back part.Sign = by (N part.Sign) (is_ascii_digit x) (λ d. goes part.Sign part.Exponent (λ t h. some_digits (one x d) h)) (λ n. tt)
  number_back part.Exponent = by (N part.Exponent) (is_ascii_digit x) (λ d. goes part.Exponent part.Exponent (λ t h. another (one x d) h)) (λ n. stops part.Exponent refl)

-- ---- words

get_drop : (ws : List ℕ) (n letter : ℕ) → slice_get ws n ≡ Some letter → drop n ws ≡ letter ∷ drop (suc n) ws
get_drop [] n letter e = absurd (cc)
get_drop (w ∷ ws) zero letter e = cc
get_drop (w ∷ ws) (suc n) letter e = get_drop ws n letter e

past_last : (ws : List ℕ) (n : ℕ) → length ws ≤ n → drop n ws ≡ []
past_last [] zero h = refl
past_last [] (suc n) h = refl
past_last (w ∷ ws) zero h = absurd (omega arith)
past_last (w ∷ ws) (suc n) h = past_last ws n (omega arith)

module _ (levels : ℕ) (lists : List ListKind) (room : levels + length lists ≡ 127) (x : ℕ) (xs : List ℕ) where
  abbrev W : JsonWord → ℕ → Option Place → Type 0
  W w n o = Steps levels lists (place.InWord w n) x xs (option_map does.To o)

  letter_back : (w : JsonWord) (n : ℕ) (o : Option ℕ) → slice_get (word_text w) n ≡ o → W w n (letter_leads w n x o)
  letter_back w n None e = tt
  letter_back w n (Some letter) e =
      let one : n + 1 ≡ suc n = omega arith in
      by (W w n) (x == letter)
      (λ same. by (W w n) (n + 1 == length (word_text w))
      (λ last. to levels lists room (place.InWord w n) x xs place.AfterValue (λ h.
      both {first = x ∷ []}
      (ap (λ y. y ∷ []) (eqb-true x letter same) ∙ ap (λ l. letter ∷ l) (sym (past_last (word_text w) (suc n) (omega (arith, eqb-true (n + 1) (length (word_text w)) last))))
      ∙ sym (get_drop (word_text w) n letter e)) h))
      (λ more. to levels lists room (place.InWord w n) x xs (place.InWord w (n + 1)) (λ h.
      grow {P = λ t. t ≡ drop (n + 1) (word_text w)} {R = λ t. t ≡ drop n (word_text w)}
      (λ t f. ap (λ y. y ∷ t) (eqb-true x letter same) ∙ ap (λ l. letter ∷ l) (f ∙ ap (λ k. drop k (word_text w)) one) ∙ sym (get_drop (word_text w) n letter e)) h)))
      (λ other. tt)

  word_back : (w : JsonWord) (n : ℕ) → W w n (in_word w n x)
  word_back w n = letter_back w n (slice_get (word_text w) n) refl

-- ---- strings

hex : (x : ℕ) → is_ascii_hexdigit x ≡ true → digit_value x < 16
hex x h = grind (arith, nat_tests)

d_is_13 : (x : ℕ) → is_letter_d x ≡ true → digit_value x ≡ 13
d_is_13 x h = elim (or_cases (x == 100) (x == 68) h) [ inl e ↦ ap digit_value (eqb-true x 100 e) | inr e ↦ ap digit_value (eqb-true x 68 e) ]

not_d_is_not_13 : (x : ℕ) → is_ascii_hexdigit x ≡ true → is_letter_d x ≡ false → digit_value x ≡ 13 → ⊥
not_d_is_not_13 x h n = let tests = or_parts (x == 100) (x == 68) n in not_13 x (hex x h) (eqb-false x 100 tests.0) (eqb-false x 68 tests.1)

abbrev unit_of : ℕ → ℕ → ℕ → ℕ → ℕ
unit_of a b c d = a * 4096 + b * 256 + c * 16 + d

spelled : (a b c d : ℕ) → digit_value a < 16 → digit_value b < 16 → digit_value c < 16 → digit_value d < 16 →
    code_unit a b c d ≡ Some (unit_of (digit_value a) (digit_value b) (digit_value c) (digit_value d))
unfolding code_unit
spelled a b c d ha hb hc hd =
    (λ i. cond (lt-ltb (digit_value a) 16 ha i && lt-ltb (digit_value b) 16 hb i && lt-ltb (digit_value c) 16 hc i && lt-ltb (digit_value d) 16 hd i)
    (Some (unit_of (digit_value a) (digit_value b) (digit_value c) (digit_value d))) None)

plain_unit : (a : ℕ) → is_ascii_hexdigit a ≡ true → is_letter_d a ≡ false → (t : List ℕ) → Then HexDigit TwoDigits t → IsChar (ascii.backslash ∷ ascii.lower_u ∷ a ∷ t)
plain_unit a ha na t (both (one b hb) (both (one c hc) (one d hd))) =
    let n = not_d_is_not_13 a ha na in
    unit_char (spells a b c d (spelled a b c d (hex a ha) (hex b hb) (hex c hc) (hex d hd)))
    (not_high (digit_value a) (digit_value b) (digit_value c) (digit_value d) n (hex b hb) (hex c hc) (hex d hd))
    (not_low (digit_value a) (digit_value b) (digit_value c) (digit_value d) n (hex b hb) (hex c hc) (hex d hd))

unit_after_d : (a : ℕ) → is_letter_d a ≡ true → (t : List ℕ) → AfterD t → IsChar (ascii.backslash ∷ ascii.lower_u ∷ a ∷ t)
unit_after_d a e t (character_digit (both (one b lb) (both (one c hc) (one d hd)))) =
    let is_13 = d_is_13 a e in
    let below : digit_value b < 8 = ltb-true (digit_value b) 8 lb in
    unit_char (spells a b c d (spelled a b c d (omega arith) (omega arith) (hex c hc) (hex d hd)))
    (ap (λ k. is_high_surrogate (unit_of k (digit_value b) (digit_value c) (digit_value d))) is_13 ∙ below_high (digit_value b) (digit_value c) (digit_value d) below (hex c hc) (hex d hd))
    (ap (λ k. is_low_surrogate (unit_of k (digit_value b) (digit_value c) (digit_value d))) is_13 ∙ below_low (digit_value b) (digit_value c) (digit_value d) (omega arith) (hex c hc) (hex d hd))
unit_after_d a e t (surrogate_digit (both (high_digit b m l) (both (one c hc) (both (one d hd) (both the_byte (both the_byte (both (one a' e') (both (one b' h') (both (one c' hc') (one d' hd')))))))))) =
    let is_13 = d_is_13 a e in
    let below : digit_value b < 12 = ltb-true (digit_value b) 12 l in
    let least : 8 ≤ digit_value b = ltb-false (digit_value b) 8 m in
    let low_13 = d_is_13 a' e' in
    let range = and_parts (nat_le 12 (digit_value b')) (nat_lt (digit_value b') 16) h' in
    let low_least : 12 ≤ digit_value b' = leb-true 12 (digit_value b') range.0 in
    let low_below : digit_value b' < 16 = ltb-true (digit_value b') 16 range.1 in
    pair_char (spells a b c d (spelled a b c d (omega arith) (omega arith) (hex c hc) (hex d hd)))
    (ap (λ k. is_high_surrogate (unit_of k (digit_value b) (digit_value c) (digit_value d))) is_13 ∙ is_high (digit_value b) (digit_value c) (digit_value d) least below (hex c hc) (hex d hd))
    (spells a' b' c' d' (spelled a' b' c' d' (omega arith) low_below (hex c' hc') (hex d' hd')))
    (ap (λ k. is_low_surrogate (unit_of k (digit_value b') (digit_value c') (digit_value d'))) low_13 ∙ is_low (digit_value b') (digit_value c') (digit_value d') low_least low_below (hex c' hc') (hex d' hd'))

char_before : {Q : List ℕ → Type 0} {c t : List ℕ} → IsChar c → Then StringRest Q t → Then StringRest Q (c ++ t)
char_before {Q} {c} h (both {others = r} (both {first = cs} {others = q} chars quote) next) =
    subst (Then StringRest Q) (ap (λ z. z ++ r) (append_assoc c cs q) ∙ append_assoc c (cs ++ q) r) (both (both (another h chars) quote) next)

escape_before : {Q : List ℕ → Type 0} {t : List ℕ} → Then (EscapeRest escape.Letter) (Then StringRest Q) t → Then StringRest Q (ascii.backslash ∷ t)
escape_before (both c s) = char_before c s

module _ (levels : ℕ) (lists : List ListKind) (room : levels + length lists ≡ 127) (r : StringRole) (x : ℕ) (xs : List ℕ) where
  abbrev Q : List ℕ → Type 0
  Q = AfterString levels lists r

  abbrev T : Option Place → Type 0
  T o = Steps levels lists (place.InString r) x xs (option_map does.To o)

  string_end : (s : StringRole) (t : List ℕ) → Rest levels lists (string_ends s) t → AfterString levels lists s t
  string_end role.Key t h = h
  string_end role.Value t h = h

  string_back : T (in_string r x)
  string_back =
      by T (x == ascii.quote)
      (λ e. to levels lists room (place.InString r) x xs (string_ends r) (λ h. for_byte (Then StringRest Q) x ascii.quote xs e (both (both no_more the_byte) (string_end r xs h)))) (λ nq.
      by T (x == ascii.backslash)
      (λ e. to levels lists room (place.InString r) x xs (place.InEscape r escape.Letter) (λ h. for_byte (Then StringRest Q) x ascii.backslash xs e (escape_before h))) (λ nb.
      by T (nat_lt x ascii.space) (λ l. tt)
      (λ l. to levels lists room (place.InString r) x xs (place.InString r) (λ h.
      char_before {c = x ∷ []} (unescaped x (ltb-false x 32 l) (eqb-false x 34 nq) (eqb-false x 92 nb)) h))))

  abbrev E : EscapePart → Option Place → Type 0
  E p o = Steps levels lists (place.InEscape r p) x xs (option_map does.To o)

  into : (p q : EscapePart) → ((t : List ℕ) → EscapeRest q t → EscapeRest p (x ∷ t)) → E p (Some (place.InEscape r q))
  into p q f = to levels lists room (place.InEscape r p) x xs (place.InEscape r q) (λ h. grow {P = EscapeRest q} {R = EscapeRest p} f h)

  out : (p : EscapePart) → EscapeRest p (x ∷ []) → E p (Some (place.InString r))
  out p c = to levels lists room (place.InEscape r p) x xs (place.InString r) (λ h. both {first = x ∷ []} c h)

  digit_back : (p : EscapePart) (q : EscapePart) → (is_ascii_hexdigit x ≡ true → (t : List ℕ) → EscapeRest q t → EscapeRest p (x ∷ t)) → E p (after_digit x (place.InEscape r q))
  digit_back p q f = by (E p) (is_ascii_hexdigit x) (λ h. into p q (f h)) (λ n. tt)

  escape_back : (p : EscapePart) → E p (in_escape r p x)
  escape_back escape.Letter =
      by (E escape.Letter) (x == ascii.lower_u) (λ e. into escape.Letter escape.FirstDigit (λ t c. for_byte (λ l. IsChar (ascii.backslash ∷ l)) x ascii.lower_u t e c)) (λ n.
      by (E escape.Letter) (is_short_escape x) (λ s. out escape.Letter (escaped x s)) (λ m. tt))
  escape_back escape.FirstDigit =
      by (E escape.FirstDigit) (is_letter_d x) (λ d. into escape.FirstDigit escape.SecondDigitAfterD (unit_after_d x d)) (λ n.
      digit_back escape.FirstDigit escape.SecondDigit (λ h. plain_unit x h n))
  escape_back escape.SecondDigit = digit_back escape.SecondDigit escape.ThirdDigit (λ h t c. both (one x h) c)
  escape_back escape.ThirdDigit = digit_back escape.ThirdDigit escape.FourthDigit (λ h t c. both (one x h) c)
  escape_back escape.FourthDigit = by (E escape.FourthDigit) (is_ascii_hexdigit x) (λ h. out escape.FourthDigit (one x h)) (λ n. tt)
  escape_back escape.SecondDigitAfterD =
      by (E escape.SecondDigitAfterD) (nat_lt (digit_value x) 8) (λ l. into escape.SecondDigitAfterD escape.ThirdDigit (λ t c. character_digit (both (one x l) c))) (λ m.
      by (E escape.SecondDigitAfterD) (nat_lt (digit_value x) 12) (λ l. into escape.SecondDigitAfterD escape.HighThirdDigit (λ t c. surrogate_digit (both (high_digit x m l) c))) (λ n. tt))
  escape_back escape.HighThirdDigit = digit_back escape.HighThirdDigit escape.HighFourthDigit (λ h t c. both (one x h) c)
  escape_back escape.HighFourthDigit = digit_back escape.HighFourthDigit (escape.Low low.Backslash) (λ h t c. both (one x h) c)
  escape_back (escape.Low low.Backslash) =
      by (E (escape.Low low.Backslash)) (x == ascii.backslash)
      (λ e. into (escape.Low low.Backslash) (escape.Low low.LetterU) (λ t c. for_byte (LowRest low.Backslash) x ascii.backslash t e (both the_byte c))) (λ n. tt)
  escape_back (escape.Low low.LetterU) =
      by (E (escape.Low low.LetterU)) (x == ascii.lower_u)
      (λ e. into (escape.Low low.LetterU) (escape.Low low.FirstDigit) (λ t c. for_byte (LowRest low.LetterU) x ascii.lower_u t e (both the_byte c))) (λ n. tt)
  escape_back (escape.Low low.FirstDigit) =
      by (E (escape.Low low.FirstDigit)) (is_letter_d x) (λ d. into (escape.Low low.FirstDigit) (escape.Low low.SecondDigit) (λ t c. both (one x d) c)) (λ n. tt)
  escape_back (escape.Low low.SecondDigit) =
      by (E (escape.Low low.SecondDigit)) (nat_le 12 (digit_value x) && nat_lt (digit_value x) 16) (λ d. into (escape.Low low.SecondDigit) escape.ThirdDigit (λ t c. both (one x d) c)) (λ n. tt)

-- ---- where a value or a key comes

quote_string : {P : List ℕ → Type 0} {t : List ℕ} → Then StringRest P t → Then IsString P (ascii.quote ∷ t)
quote_string (both (both cs the_byte) q) = both (the_string cs) q

member_of : {levels : ℕ} (t : List ℕ) → Then IsString (Then (IsStructural ascii.colon) (IsValue levels)) t → IsMember levels t
member_of t (both n (both c v)) = the_member n c v

word_value : {levels : ℕ} {P : List ℕ → Type 0} {t : List ℕ} (first : ℕ) (letters : List ℕ) → IsValue levels (first ∷ letters) → Then (λ l. l ≡ letters) P t → Then (IsValue levels) P (first ∷ t)
word_value {levels} first letters v (both e f) = both (subst (λ l. IsValue levels (first ∷ l)) (sym e) v) f

module _ (levels : ℕ) (lists : List ListKind) (room : levels + length lists ≡ 127) (x : ℕ) (xs : List ℕ) (p : Place) where
  abbrev V : Option Step → Type 0
  V = Steps levels lists p x xs

  abbrev G : List ℕ → Type 0
  G = Valued levels lists

  key_back : (Keyed levels lists (x ∷ xs) → Rest levels lists p (x ∷ xs)) → V (key_begins x)
  key_back into =
      by V (x == ascii.quote)
      (λ e. to levels lists room p x xs (place.InString role.Key) (λ h. into (for_byte (Keyed levels lists) x ascii.quote xs e (first_map member_of (regroup_last (quote_string h))))))
      (λ n. tt)

  value_back : (Valued levels lists (x ∷ xs) → Rest levels lists p (x ∷ xs)) → V (value_begins x)
  value_back into =
      by V (x == ascii.quote) (λ e. to levels lists room p x xs (place.InString role.Value) (λ h. into (for_byte G x ascii.quote xs e (first_map (λ t s. a_string s) (quote_string h))))) (λ n1.
      by V (x == ascii.open_bracket) (λ e. begin levels lists room p x xs Array (λ m same h.
      into (for_byte G x ascii.open_bracket xs e (subst (λ k. Valued k lists (ascii.open_bracket ∷ xs)) (sym same) (array_begins m lists xs h))))) (λ n2.
      by V (x == ascii.open_brace) (λ e. begin levels lists room p x xs Object (λ m same h.
      into (for_byte G x ascii.open_brace xs e (subst (λ k. Valued k lists (ascii.open_brace ∷ xs)) (sym same) (object_begins m lists xs h))))) (λ n3.
      by V (x == ascii.minus) (λ e. to levels lists room p x xs (place.InNumber part.Minus) (λ h. into (for_byte G x ascii.minus xs e (grow (λ t n. a_number (minus_number t n)) h)))) (λ n4.
      by V (x == ascii.zero) (λ e. to levels lists room p x xs (place.InNumber part.Zero) (λ h. into (for_byte G x ascii.zero xs e (grow (λ t n. a_number (zero_number t n)) h)))) (λ n5.
      by V (is_ascii_digit x) (λ d. to levels lists room p x xs (place.InNumber part.Whole) (λ h. into (grow (λ t n. a_number (digits_number x (digit_from_one x d n5) t n)) h))) (λ n6.
      by V (x == ascii.lower_t) (λ e. to levels lists room p x xs (place.InWord words.True 1) (λ h. into (for_byte G x ascii.lower_t xs e (word_value ascii.lower_t (drop 1 ascii.true_text) the_true h)))) (λ n7.
      by V (x == ascii.lower_f) (λ e. to levels lists room p x xs (place.InWord words.False 1) (λ h. into (for_byte G x ascii.lower_f xs e (word_value ascii.lower_f (drop 1 ascii.false_text) the_false h)))) (λ n8.
      by V (x == ascii.lower_n) (λ e. to levels lists room p x xs (place.InWord words.Null 1) (λ h. into (for_byte G x ascii.lower_n xs e (word_value ascii.lower_n (drop 1 ascii.null_text) the_null h)))) (λ n9. tt)))))))))

-- ---- at each place

to_unit : (levels : ℕ) (s t : Scan) (x : ℕ) (xs : List ℕ) (r : Result Scan JsonFaultKind) → Rest levels s.lists s.place (x ∷ xs) → Back levels s x xs r
to_unit levels s t x xs (Err k) h = tt
to_unit levels s t x xs (Ok u) h = λ _. h

back : (levels : ℕ) (lists : List ListKind) → levels + length lists ≡ 127 → (p : Place) (x : ℕ) (xs : List ℕ) → Steps levels lists p x xs (step_at p (innermost lists) x)
back levels lists room place.Value x xs =
    by (Steps levels lists place.Value x xs) (is_space x) (λ e. to levels lists room place.Value x xs place.Value (λ h. first_space (more_space x e) h))
    (λ n. value_back levels lists room x xs place.Value (λ v. both no_more v))
back levels [] room place.ValueOrEnd x xs = to_unit levels (at place.ValueOrEnd []) (at place.ValueOrEnd []) x xs _ tt
back levels (kind ∷ outer) room place.ValueOrEnd x xs =
    by (Steps levels (kind ∷ outer) place.ValueOrEnd x xs) (x == ascii.close_bracket)
    (λ e k. inr (for_byte (Then IsSpace (Then (Byte ascii.close_bracket) (Follows (suc levels) outer))) x ascii.close_bracket xs e (both no_more (both the_byte (k (suc levels) (omega arith))))))
    (λ n. by (Steps levels (kind ∷ outer) place.ValueOrEnd x xs) (is_space x)
    (λ e. to levels (kind ∷ outer) room place.ValueOrEnd x xs place.ValueOrEnd (λ h. or_end_space ascii.close_bracket levels (kind ∷ outer) (Valued levels (kind ∷ outer)) x xs e h))
    (λ m. value_back levels (kind ∷ outer) room x xs place.ValueOrEnd (λ v. inl (both no_more v))))
back levels lists room place.Key x xs =
    by (Steps levels lists place.Key x xs) (is_space x) (λ e. to levels lists room place.Key x xs place.Key (λ h. first_space (more_space x e) h))
    (λ n. key_back levels lists room x xs place.Key (λ v. both no_more v))
back levels [] room place.KeyOrEnd x xs = to_unit levels (at place.KeyOrEnd []) (at place.KeyOrEnd []) x xs _ tt
back levels (kind ∷ outer) room place.KeyOrEnd x xs =
    by (Steps levels (kind ∷ outer) place.KeyOrEnd x xs) (x == ascii.close_brace)
    (λ e k. inr (for_byte (Then IsSpace (Then (Byte ascii.close_brace) (Follows (suc levels) outer))) x ascii.close_brace xs e (both no_more (both the_byte (k (suc levels) (omega arith))))))
    (λ n. by (Steps levels (kind ∷ outer) place.KeyOrEnd x xs) (is_space x)
    (λ e. to levels (kind ∷ outer) room place.KeyOrEnd x xs place.KeyOrEnd (λ h. or_end_space ascii.close_brace levels (kind ∷ outer) (Keyed levels (kind ∷ outer)) x xs e h))
    (λ m. key_back levels (kind ∷ outer) room x xs place.KeyOrEnd (λ v. inl (both no_more v))))
back levels lists room place.Colon x xs =
    by (Steps levels lists place.Colon x xs) (x == ascii.colon)
    (λ e. to levels lists room place.Colon x xs place.Value (λ h. for_byte (Then (IsStructural ascii.colon) (Valued levels lists)) x ascii.colon xs e (grow (λ t s. structural no_more s) h)))
    (λ n. by (Steps levels lists place.Colon x xs) (is_space x) (λ e. to levels lists room place.Colon x xs place.Colon (λ h. first_space (colon_space e) h)) (λ m. tt))
back levels lists room place.AfterValue x xs = after_value levels lists room x xs place.AfterValue (λ f. f)
back levels lists room (place.InString r) x xs = string_back levels lists room r x xs
back levels lists room (place.InEscape r p) x xs = escape_back levels lists room r x xs p
back levels lists room (place.InNumber p) x xs = number_back levels lists room x xs p
back levels lists room (place.InWord w n) x xs = word_back levels lists room x xs w n

-- ---- whole texts

no_end : {A : Type 0} {k : JsonFaultKind} → ◌≡◌ {A = Option JsonFaultKind} (Some k) None → A
no_end e = absurd (cc)

number_end : (levels : ℕ) (lists : List ListKind) (p : NumberPart) → end_fault (at (place.InNumber p) lists) ≡ None → Rest levels lists (place.InNumber p) []
number_end levels (kind ∷ outer) part.Minus e = no_end e
number_end levels (kind ∷ outer) part.Zero e = no_end e
number_end levels (kind ∷ outer) part.Whole e = no_end e
number_end levels (kind ∷ outer) part.Point e = no_end e
number_end levels (kind ∷ outer) part.Fraction e = no_end e
number_end levels (kind ∷ outer) part.LetterE e = no_end e
number_end levels (kind ∷ outer) part.Sign e = no_end e
number_end levels (kind ∷ outer) part.Exponent e = no_end e
number_end levels [] part.Minus e = no_end e
number_end levels [] part.Zero e = both (ended_number part.Zero refl) no_more
number_end levels [] part.Whole e = both (ended_number part.Whole refl) no_more
number_end levels [] part.Point e = no_end e
number_end levels [] part.Fraction e = both (ended_number part.Fraction refl) no_more
number_end levels [] part.LetterE e = no_end e
number_end levels [] part.Sign e = no_end e
number_end levels [] part.Exponent e = both (ended_number part.Exponent refl) no_more

at_end : (levels : ℕ) (lists : List ListKind) (p : Place) → end_fault (at p lists) ≡ None → Rest levels lists p []
at_end levels lists place.Value e = no_end e
at_end levels lists place.ValueOrEnd e = no_end e
at_end levels lists place.Key e = no_end e
at_end levels lists place.KeyOrEnd e = no_end e
at_end levels lists place.Colon e = no_end e
at_end levels [] place.AfterValue e = no_more
at_end levels (kind ∷ outer) place.AfterValue e = no_end e
at_end levels lists (place.InString r) e = no_end e
at_end levels lists (place.InEscape r p) e = no_end e
at_end levels lists (place.InNumber p) e = number_end levels lists p e
at_end levels lists (place.InWord w n) e = no_end e

rest_of : {s end : Scan} {text : List ℕ} → Leads s text end → end_fault end ≡ None → (levels : ℕ) → levels + length s.lists ≡ 127 → Rest levels s.lists s.place text
rest_of {s} no_bytes e levels room = at_end levels s.lists s.place e
rest_of {s} (byte x {xs = xs} f rest) e levels room =
    subst (Back levels s x xs) f (back levels s.lists room s.place x xs) (λ left h. rest_of rest e left h)

text_of : (levels : ℕ) (text : List ℕ) → Then IsSpace (Then (IsValue levels) IsSpace) text → IsJsonText levels text
text_of levels text (both s (both v t)) = json_text s v t

pub derived : (text : List ℕ) → IsSyntax text → IsJsonText max_depth text
derived text h = text_of 127 text (rest_of h.passed h.complete 127 refl)
