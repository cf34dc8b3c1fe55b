-- The shape of a text, as what a printer would write for its numbers.
use Rattle.std.specs.Prelude.{◌≡◌, ℕ, ◌<◌, ◌⊎◌, List, [], ◌∷◌, ◌++◌, Bool, true, false}
use Rattle.std.specs.Str.Parse.{IsNumeral}
use Rattle.jiff_fmt.specs.Text.{pad2, pad4}
use Rattle.jiff_fmt.specs.Reader.{fraction_value}
use Rattle.tv_date.specs.declared.rfc3339.DateFields.{DateFields}

-- nothing, or a dot with one digit or more, of which nine count
abbrev pub IsFraction : List ℕ → ℕ → Type 0
IsFraction text n = ((text ≡ []) × (n ≡ 0)) ⊎ ((ds : List ℕ) × (text ≡ 46 ∷ ds) × IsNumeral 10 ds
    × (n ≡ fraction_value 9 ds))

-- `Z`, or a sign with hours and minutes
abbrev pub IsZone : List ℕ → Bool → ℕ → ℕ → Type 0
IsZone text west hour minute =
    (((text ≡ 90 ∷ []) ⊎ (text ≡ 122 ∷ [])) × (west ≡ false) × (hour ≡ 0) × (minute ≡ 0))
    ⊎ ((sign : ℕ) × (((sign ≡ 43) × (west ≡ false)) ⊎ ((sign ≡ 45) × (west ≡ true))) × (hour < 100)
    × (minute < 100) × (text ≡ sign ∷ (pad2 hour ++ 58 ∷ pad2 minute)))

-- the date, and what follows it
abbrev pub IsDateText : List ℕ → ℕ × ℕ × ℕ → List ℕ → Type 0
IsDateText text d rest = (d.0 < 10000) × (d.1 < 100) × (d.2 < 100)
    × (text ≡ pad4 d.0 ++ 45 ∷ (pad2 d.1 ++ 45 ∷ (pad2 d.2 ++ rest)))

abbrev pub IsTimeText : List ℕ → ℕ × ℕ × ℕ → List ℕ → Type 0
IsTimeText text t rest = (t.0 < 100) × (t.1 < 100) × (t.2 < 100)
    × (text ≡ pad2 t.0 ++ 58 ∷ (pad2 t.1 ++ 58 ∷ (pad2 t.2 ++ rest)))

-- a date, a `T` or a `t`, a time, a fraction and an offset
abbrev pub HasShape : List ℕ → DateFields → Type 0
HasShape text s =
    (letter : ℕ) × (time : List ℕ) × (fraction : List ℕ) × (zone : List ℕ) × ((letter ≡ 84) ⊎ (letter ≡ 116))
    × IsDateText text (s.year, s.month, s.day) (letter ∷ time)
    × IsTimeText time (s.hour, s.minute, s.second) (fraction ++ zone)
    × IsFraction fraction s.fraction × IsZone zone s.west s.offset_hour s.offset_minute
