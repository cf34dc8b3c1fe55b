-- The grammar of JSON by RFC 8259, production by production. A text is its bytes, and is UTF-8, so a
-- character from U+0080 on is two to four unescaped bytes. Two things are narrower than in the RFC: a
-- surrogate comes only in a pair, and lists nest no deeper than a number of levels.
use Rattle.std.specs.Prelude.{◌≡◌, ◌≢◌, ◌≤◌, ℕ, suc, List, [], ◌∷◌, ◌++◌, Bool, true, false, not, ◌&&◌}
use Rattle.std.specs.Prelude.{◌==◌, Some}
use Rattle.std.specs.Char.{is_ascii_digit}
use Rattle.json.specs.Ascii as ascii
use Rattle.json.specs.Text.{code_unit, is_high_surrogate, is_low_surrogate}
use Rattle.json.specs.Word.{is_space}
use Rattle.tv_json.specs.Syntax.{is_e, is_sign, is_short_escape}

-- [ part ]
pub data Optional (Part : List ℕ → Type 0) : List ℕ → Type 0 where
  absent : Optional Part []
  present : {text : List ℕ} → Part text → Optional Part text

-- *part
pub data Repeated (Part : List ℕ → Type 0) : List ℕ → Type 0 where
  no_more : Repeated Part []
  another : {first others : List ℕ} → Part first → Repeated Part others → Repeated Part (first ++ others)

-- one byte of a set, as DIGIT
pub data IsOne (passes : ℕ → Bool) : List ℕ → Type 0 where
  one : (byte : ℕ) → passes byte ≡ true → IsOne passes (byte ∷ [])

-- ws = *( space / tab / line feed / carriage return )
abbrev pub IsSpace : List ℕ → Type 0
IsSpace = Repeated (IsOne is_space)

-- begin-array = ws [ ws, and so for the other five structural characters { ] } : and ,
pub data IsStructural (byte : ℕ) : List ℕ → Type 0 where
  structural : {before after : List ℕ} → IsSpace before → IsSpace after
      → IsStructural byte (before ++ (byte ∷ after))

-- ---- numbers

-- *DIGIT
abbrev pub AreDigits : List ℕ → Type 0
AreDigits = Repeated (IsOne is_ascii_digit)

-- 1*DIGIT
pub data AreSomeDigits : List ℕ → Type 0 where
  some_digits : {first others : List ℕ} → IsOne is_ascii_digit first → AreDigits others
      → AreSomeDigits (first ++ others)

-- minus = -
pub data IsMinus : List ℕ → Type 0 where
  minus : IsMinus (ascii.minus ∷ [])

-- digit1-9
abbrev pub is_digit_from_one : ℕ → Bool
is_digit_from_one byte = is_ascii_digit byte && not (byte == ascii.zero)

-- int = zero / ( digit1-9 *DIGIT )
pub data IsInt : List ℕ → Type 0 where
  zero : IsInt (ascii.zero ∷ [])
  from_one : {first others : List ℕ} → IsOne is_digit_from_one first → AreDigits others
      → IsInt (first ++ others)

-- frac = decimal-point 1*DIGIT
pub data IsFrac : List ℕ → Type 0 where
  frac : {digits : List ℕ} → AreSomeDigits digits → IsFrac (ascii.dot ∷ digits)

-- exp = e [ minus / plus ] 1*DIGIT
pub data IsExp : List ℕ → Type 0 where
  exp : {letter sign digits : List ℕ} → IsOne is_e letter → Optional (IsOne is_sign) sign
      → AreSomeDigits digits → IsExp (letter ++ (sign ++ digits))

-- number = [ minus ] int [ frac ] [ exp ]
pub data IsNumber : List ℕ → Type 0 where
  number : {sign whole fraction exponent : List ℕ} → Optional IsMinus sign → IsInt whole
      → Optional IsFrac fraction → Optional IsExp exponent
      → IsNumber (sign ++ (whole ++ (fraction ++ exponent)))

-- ---- strings

-- escape u 4HEXDIG, which spells a code unit
pub data IsUnit (unit : ℕ) : List ℕ → Type 0 where
  spells : (first second third fourth : ℕ) → code_unit first second third fourth ≡ Some unit
      → IsUnit unit (ascii.backslash ∷ ascii.lower_u ∷ first ∷ second ∷ third ∷ fourth ∷ [])

-- char = unescaped / escape ( quotation-mark / \ / "/" / b / f / n / r / t / u 4HEXDIG )
pub data IsChar : List ℕ → Type 0 where
  unescaped : (byte : ℕ) → ascii.space ≤ byte → byte ≢ ascii.quote → byte ≢ ascii.backslash
      → IsChar (byte ∷ [])
  escaped : (letter : ℕ) → is_short_escape letter ≡ true → IsChar (ascii.backslash ∷ letter ∷ [])
  unit : {unit : ℕ} {text : List ℕ} → IsUnit unit text → is_high_surrogate unit ≡ false
      → is_low_surrogate unit ≡ false → IsChar text
  pair : {high low : ℕ} {first second : List ℕ} → IsUnit high first → is_high_surrogate high ≡ true
      → IsUnit low second → is_low_surrogate low ≡ true → IsChar (first ++ second)

-- string = quotation-mark *char quotation-mark
pub data IsString : List ℕ → Type 0 where
  string : {inside : List ℕ} → Repeated IsChar inside
      → IsString (ascii.quote ∷ (inside ++ (ascii.quote ∷ [])))

-- ---- values, of which at most this many lists lie in one another

mutual
  -- value = false / null / true / object / array / number / string
  pub data IsValue : ℕ → List ℕ → Type 0 where
    the_false : {levels : ℕ} → IsValue levels ascii.false_text
    the_null : {levels : ℕ} → IsValue levels ascii.null_text
    the_true : {levels : ℕ} → IsValue levels ascii.true_text
    an_object : {levels : ℕ} {text : List ℕ} → IsObject levels text → IsValue (suc levels) text
    an_array : {levels : ℕ} {text : List ℕ} → IsArray levels text → IsValue (suc levels) text
    a_number : {levels : ℕ} {text : List ℕ} → IsNumber text → IsValue levels text
    a_string : {levels : ℕ} {text : List ℕ} → IsString text → IsValue levels text

  -- object = begin-object [ member *( value-separator member ) ] end-object
  pub data IsObject : ℕ → List ℕ → Type 0 where
    empty_object : {levels : ℕ} {begin end : List ℕ} → IsStructural ascii.open_brace begin
        → IsStructural ascii.close_brace end → IsObject levels (begin ++ end)
    object : {levels : ℕ} {begin inside end : List ℕ} → IsStructural ascii.open_brace begin
        → IsMembers levels inside → IsStructural ascii.close_brace end
        → IsObject levels (begin ++ (inside ++ end))

  -- member *( value-separator member )
  pub data IsMembers : ℕ → List ℕ → Type 0 where
    one_member : {levels : ℕ} {text : List ℕ} → IsMember levels text → IsMembers levels text
    more_members : {levels : ℕ} {first separator others : List ℕ} → IsMember levels first
        → IsStructural ascii.comma separator → IsMembers levels others
        → IsMembers levels (first ++ (separator ++ others))

  -- member = string name-separator value
  pub data IsMember : ℕ → List ℕ → Type 0 where
    member : {levels : ℕ} {name separator text : List ℕ} → IsString name
        → IsStructural ascii.colon separator → IsValue levels text
        → IsMember levels (name ++ (separator ++ text))

  -- array = begin-array [ value *( value-separator value ) ] end-array
  pub data IsArray : ℕ → List ℕ → Type 0 where
    empty_array : {levels : ℕ} {begin end : List ℕ} → IsStructural ascii.open_bracket begin
        → IsStructural ascii.close_bracket end → IsArray levels (begin ++ end)
    array : {levels : ℕ} {begin inside end : List ℕ} → IsStructural ascii.open_bracket begin
        → IsElements levels inside → IsStructural ascii.close_bracket end
        → IsArray levels (begin ++ (inside ++ end))

  -- value *( value-separator value )
  pub data IsElements : ℕ → List ℕ → Type 0 where
    one_value : {levels : ℕ} {text : List ℕ} → IsValue levels text → IsElements levels text
    more_values : {levels : ℕ} {first separator others : List ℕ} → IsValue levels first
        → IsStructural ascii.comma separator → IsElements levels others
        → IsElements levels (first ++ (separator ++ others))

-- JSON-text = ws value ws
pub data IsJsonText (levels : ℕ) : List ℕ → Type 0 where
  json_text : {before text after : List ℕ} → IsSpace before → IsValue levels text → IsSpace after
      → IsJsonText levels (before ++ (text ++ after))
