-- The syntax of JSON by RFC 8259 as a table: the places in a text, which bytes can come at each, and where
-- they lead. A surrogate comes only in a pair, and a text is UTF-8, so the bytes of a string's other
-- characters can all come.
use Rattle.std.specs.Prelude.{ℕ, ◌+◌, List, length, slice_get, Bool, true, false, ◌&&◌, ◌||◌, ◌==◌, nat_lt}
use Rattle.std.specs.Prelude.{nat_le, if◌then◌else◌, is_none, Option, Some, None, option_map}
use Rattle.std.specs.Char.{is_ascii_digit, is_ascii_hexdigit, digit_value}
use Rattle.json.specs.Ascii as ascii
use Rattle.json.specs.Word.{is_space}
use Rattle.tv_json.specs.declared.json_expected.JsonExpected.{JsonExpected}
use Rattle.tv_json.specs.declared.json_expected.JsonExpected.TheVariants as comes
use Rattle.tv_json.specs.declared.json_expected.JsonWord.{JsonWord}
use Rattle.tv_json.specs.declared.json_expected.JsonWord.TheVariants as words
use Rattle.tv_json.specs.declared.json_expected.LowSurrogatePart.{LowSurrogatePart}
use Rattle.tv_json.specs.declared.json_expected.LowSurrogatePart.TheVariants as low
use Rattle.tv_json.specs.declared.json_place.EscapePart.{EscapePart}
use Rattle.tv_json.specs.declared.json_place.EscapePart.TheVariants as escape
use Rattle.tv_json.specs.declared.json_place.ListKind.{ListKind}
use Rattle.tv_json.specs.declared.json_place.ListKind.TheVariants as lists
use Rattle.tv_json.specs.declared.json_place.NumberPart.{NumberPart}
use Rattle.tv_json.specs.declared.json_place.NumberPart.TheVariants as number
use Rattle.tv_json.specs.declared.json_place.Place.{Place}
use Rattle.tv_json.specs.declared.json_place.Place.TheVariants as place
use Rattle.tv_json.specs.declared.json_place.Step.{Step}
use Rattle.tv_json.specs.declared.json_place.Step.TheVariants as does
use Rattle.tv_json.specs.declared.json_place.StringRole.{StringRole}
use Rattle.tv_json.specs.declared.json_place.StringRole.TheVariants as role

abbrev pub word_text : JsonWord → List ℕ
word_text words.True = ascii.true_text
word_text words.False = ascii.false_text
word_text words.Null = ascii.null_text

-- ---- between tokens

-- a space, or what any other byte does
abbrev pub spaced : Place → ℕ → Option Step → Option Step
spaced p x other = if is_space x then Some (does.To p) else other

abbrev pub value_begins : ℕ → Option Step
value_begins x =
    if x == ascii.quote then Some (does.To (place.InString role.Value)) else
    (if x == ascii.open_bracket then Some (does.Begin lists.Array) else
    (if x == ascii.open_brace then Some (does.Begin lists.Object) else
    (if x == ascii.minus then Some (does.To (place.InNumber number.Minus)) else
    (if x == ascii.zero then Some (does.To (place.InNumber number.Zero)) else
    (if is_ascii_digit x then Some (does.To (place.InNumber number.Whole)) else
    (if x == ascii.lower_t then Some (does.To (place.InWord words.True 1)) else
    (if x == ascii.lower_f then Some (does.To (place.InWord words.False 1)) else
    (if x == ascii.lower_n then Some (does.To (place.InWord words.Null 1)) else None))))))))

abbrev pub key_begins : ℕ → Option Step
key_begins x = if x == ascii.quote then Some (does.To (place.InString role.Key)) else None

abbrev pub first_place : ListKind → Place
first_place lists.Array = place.ValueOrEnd
first_place lists.Object = place.KeyOrEnd

-- in the innermost list that is open, if there is one
abbrev pub value_ends : Option ListKind → ℕ → Option Step
value_ends None x = None
value_ends (Some lists.Array) x =
    if x == ascii.comma then Some (does.To place.Value)
    else (if x == ascii.close_bracket then Some does.End else None)
value_ends (Some lists.Object) x =
    if x == ascii.comma then Some (does.To place.Key)
    else (if x == ascii.close_brace then Some does.End else None)

-- ---- in strings

abbrev pub string_ends : StringRole → Place
string_ends role.Key = place.Colon
string_ends role.Value = place.AfterValue

abbrev pub in_string : StringRole → ℕ → Option Place
in_string r x =
    if x == ascii.quote then Some (string_ends r) else
    (if x == ascii.backslash then Some (place.InEscape r escape.Letter) else
    (if nat_lt x ascii.space then None else Some (place.InString r)))

abbrev pub after_digit : ℕ → Place → Option Place
after_digit x to = if is_ascii_hexdigit x then Some to else None

abbrev pub is_letter_d : ℕ → Bool
is_letter_d x = (x == 100) || (x == 68)

abbrev pub is_short_escape : ℕ → Bool
is_short_escape x =
    (x == ascii.quote) || (x == ascii.backslash) || (x == ascii.slash) || (x == ascii.lower_b)
    || (x == ascii.lower_f) || (x == ascii.lower_n)
    || (x == ascii.lower_r) || (x == ascii.lower_t)

abbrev pub after_backslash : StringRole → ℕ → Option Place
after_backslash r x =
    if x == ascii.lower_u then Some (place.InEscape r escape.FirstDigit) else
    (if is_short_escape x then Some (place.InString r) else None)

abbrev pub after_first_digit : StringRole → ℕ → Option Place
after_first_digit r x =
    if is_letter_d x then Some (place.InEscape r escape.SecondDigitAfterD)
    else after_digit x (place.InEscape r escape.SecondDigit)

-- `\ud000` to `\ud7ff` are characters, and `\ud800` to `\udbff` are high surrogates
abbrev pub after_digit_d : StringRole → ℕ → Option Place
after_digit_d r x =
    if nat_lt (digit_value x) 8 then Some (place.InEscape r escape.ThirdDigit) else
    (if nat_lt (digit_value x) 12 then Some (place.InEscape r escape.HighThirdDigit) else None)

-- `\udc00` to `\udfff`
abbrev pub after_low : StringRole → LowSurrogatePart → ℕ → Option Place
after_low r low.Backslash x = if x == ascii.backslash then Some (place.InEscape r (escape.Low low.LetterU))
    else None
after_low r low.LetterU x = if x == ascii.lower_u then Some (place.InEscape r (escape.Low low.FirstDigit))
    else None
after_low r low.FirstDigit x = if is_letter_d x then Some (place.InEscape r (escape.Low low.SecondDigit))
    else None
after_low r low.SecondDigit x = if nat_le 12 (digit_value x) && nat_lt (digit_value x) 16
    then Some (place.InEscape r escape.ThirdDigit) else None

abbrev pub in_escape : StringRole → EscapePart → ℕ → Option Place
in_escape r escape.Letter x = after_backslash r x
in_escape r escape.FirstDigit x = after_first_digit r x
in_escape r escape.SecondDigit x = after_digit x (place.InEscape r escape.ThirdDigit)
in_escape r escape.ThirdDigit x = after_digit x (place.InEscape r escape.FourthDigit)
in_escape r escape.FourthDigit x = after_digit x (place.InString r)
in_escape r escape.SecondDigitAfterD x = after_digit_d r x
in_escape r escape.HighThirdDigit x = after_digit x (place.InEscape r escape.HighFourthDigit)
in_escape r escape.HighFourthDigit x = after_digit x (place.InEscape r (escape.Low low.Backslash))
in_escape r (escape.Low part) x = after_low r part x

-- ---- in words and numbers

abbrev pub letter_leads : JsonWord → ℕ → ℕ → Option ℕ → Option Place
letter_leads w n x None = None
letter_leads w n x (Some letter) =
    if x == letter then (if n + 1 == length (word_text w) then Some place.AfterValue
    else Some (place.InWord w (n + 1))) else None

-- after n letters of a word
abbrev pub in_word : JsonWord → ℕ → ℕ → Option Place
in_word w n x = letter_leads w n x (slice_get (word_text w) n)

abbrev pub is_e : ℕ → Bool
is_e x = (x == ascii.lower_e) || (x == ascii.upper_e)

abbrev pub is_sign : ℕ → Bool
is_sign x = (x == ascii.plus) || (x == ascii.minus)

abbrev pub number_goes_on : NumberPart → ℕ → Option NumberPart
number_goes_on number.Minus x = if x == ascii.zero then Some number.Zero
    else (if is_ascii_digit x then Some number.Whole else None)
number_goes_on number.Zero x = if x == ascii.dot then Some number.Point
    else (if is_e x then Some number.LetterE else None)
number_goes_on number.Whole x =
    if is_ascii_digit x then Some number.Whole else
    (if x == ascii.dot then Some number.Point else (if is_e x then Some number.LetterE else None))
number_goes_on number.Point x = if is_ascii_digit x then Some number.Fraction else None
number_goes_on number.Fraction x = if is_ascii_digit x then Some number.Fraction
    else (if is_e x then Some number.LetterE else None)
number_goes_on number.LetterE x = if is_ascii_digit x then Some number.Exponent
    else (if is_sign x then Some number.Sign else None)
number_goes_on number.Sign x = if is_ascii_digit x then Some number.Exponent else None
number_goes_on number.Exponent x = if is_ascii_digit x then Some number.Exponent else None

-- a number may end with this part
abbrev pub is_whole_number : NumberPart → Bool
is_whole_number number.Minus = false
is_whole_number number.Zero = true
is_whole_number number.Whole = true
is_whole_number number.Point = false
is_whole_number number.Fraction = true
is_whole_number number.LetterE = false
is_whole_number number.Sign = false
is_whole_number number.Exponent = true

abbrev pub number_leads : Option NumberPart → NumberPart → Option ListKind → ℕ → Option Step
number_leads (Some next) part list x = Some (does.To (place.InNumber next))
number_leads None part list x = if is_whole_number part then spaced place.AfterValue x (value_ends list x)
    else None

abbrev pub in_number : NumberPart → Option ListKind → ℕ → Option Step
in_number part list x = number_leads (number_goes_on part x) part list x

-- ---- at a place

-- what a byte does in this list, if it can come there
abbrev pub step_at : Place → Option ListKind → ℕ → Option Step
step_at place.Value list x = spaced place.Value x (value_begins x)
step_at place.ValueOrEnd list x = if x == ascii.close_bracket then Some does.End
    else spaced place.ValueOrEnd x (value_begins x)
step_at place.Key list x = spaced place.Key x (key_begins x)
step_at place.KeyOrEnd list x = if x == ascii.close_brace then Some does.End
    else spaced place.KeyOrEnd x (key_begins x)
step_at place.Colon list x = if x == ascii.colon then Some (does.To place.Value)
    else spaced place.Colon x None
step_at place.AfterValue list x = spaced place.AfterValue x (value_ends list x)
step_at (place.InString r) list x = option_map does.To (in_string r x)
step_at (place.InEscape r part) list x = option_map does.To (in_escape r part x)
step_at (place.InNumber part) list x = in_number part list x
step_at (place.InWord w n) list x = option_map does.To (in_word w n x)

-- the text may end there
abbrev pub may_end : Place → Option ListKind → Bool
may_end place.Value list = false
may_end place.ValueOrEnd list = false
may_end place.Key list = false
may_end place.KeyOrEnd list = false
may_end place.Colon list = false
may_end place.AfterValue list = is_none list
may_end (place.InString r) list = false
may_end (place.InEscape r part) list = false
may_end (place.InNumber part) list = is_whole_number part && is_none list
may_end (place.InWord w n) list = false

-- ---- what was expected

abbrev pub expected_after : Option ListKind → JsonExpected
expected_after None = comes.TextEnd
expected_after (Some lists.Array) = comes.CommaOrArrayEnd
expected_after (Some lists.Object) = comes.CommaOrObjectEnd

abbrev pub escape_expected : EscapePart → JsonExpected
escape_expected escape.Letter = comes.Escape
escape_expected escape.FirstDigit = comes.HexadecimalDigit
escape_expected escape.SecondDigit = comes.HexadecimalDigit
escape_expected escape.ThirdDigit = comes.HexadecimalDigit
escape_expected escape.FourthDigit = comes.HexadecimalDigit
escape_expected escape.SecondDigitAfterD = comes.HexadecimalDigitBelowC
escape_expected escape.HighThirdDigit = comes.HexadecimalDigit
escape_expected escape.HighFourthDigit = comes.HexadecimalDigit
escape_expected (escape.Low part) = comes.LowSurrogate part

-- after a whole number, what follows it
abbrev pub number_expected : NumberPart → Option ListKind → JsonExpected
number_expected number.Minus list = comes.Digit
number_expected number.Zero list = expected_after list
number_expected number.Whole list = expected_after list
number_expected number.Point list = comes.Digit
number_expected number.Fraction list = expected_after list
number_expected number.LetterE list = comes.DigitOrSign
number_expected number.Sign list = comes.Digit
number_expected number.Exponent list = expected_after list

abbrev pub expected : Place → Option ListKind → JsonExpected
expected place.Value list = comes.Value
expected place.ValueOrEnd list = comes.ValueOrArrayEnd
expected place.Key list = comes.Key
expected place.KeyOrEnd list = comes.KeyOrObjectEnd
expected place.Colon list = comes.Colon
expected place.AfterValue list = expected_after list
expected (place.InString r) list = comes.StringCharacter
expected (place.InEscape r part) list = escape_expected part
expected (place.InNumber part) list = number_expected part list
expected (place.InWord w n) list = comes.Word w
