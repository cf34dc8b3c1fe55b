-- Where a text of JSON has a number that is too large for a float.
use Rattle.std.specs.Prelude.{◌≡◌, ◌<◌, ℕ, List, length, take, drop, take_while, Bool, true, false, ◌||◌}
use Rattle.std.specs.Prelude.{◌==◌, None}
use Rattle.std.specs.Char.{is_ascii_digit}
use Rattle.json.specs.Ascii as ascii
use Rattle.serde_json.specs.Read.{number_of}
use Rattle.tv_json.specs.Faults.{start, Leads}
use Rattle.tv_json.specs.declared.json_place.Place.{Place}
use Rattle.tv_json.specs.declared.json_place.Place.TheVariants as place
use Rattle.tv_json.specs.declared.json_scan.Scan.{Scan}

-- a digit, a sign, a point or e
abbrev pub is_number_byte : ℕ → Bool
is_number_byte x = is_ascii_digit x || (x == ascii.minus) || (x == ascii.plus) || (x == ascii.dot)
    || (x == ascii.lower_e) || (x == ascii.upper_e)

abbrev pub value_comes : Place → Bool
value_comes place.Value = true
value_comes place.ValueOrEnd = true
value_comes place.Key = false
value_comes place.KeyOrEnd = false
value_comes place.Colon = false
value_comes place.AfterValue = false
value_comes (place.InString r) = false
value_comes (place.InEscape r part) = false
value_comes (place.InNumber part) = false
value_comes (place.InWord w n) = false

-- a value comes there, and is a number that is too large
pub record IsLargeNumber (text : List ℕ) (offset : ℕ) : Type 0 where
  pub at : Scan
  pub passed : Leads start (take offset text) at
  pub comes : value_comes at.place ≡ true
  pub large : number_of (take_while is_number_byte (drop offset text)) ≡ None

-- no number of the text is too large
abbrev pub NoLargeNumber : List ℕ → Type 0
NoLargeNumber text = (k : ℕ) → k < length text → ¬ (IsLargeNumber text k)

pub record IsFirstLargeNumber (text : List ℕ) (offset : ℕ) : Type 0 where
  pub is_large : IsLargeNumber text offset
  pub first : (k : ℕ) → k < offset → ¬ (IsLargeNumber text k)
