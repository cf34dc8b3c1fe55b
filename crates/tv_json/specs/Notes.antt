-- What a reading notes of floats.
use Rattle.std.specs.Prelude.{◌≡◌, Bool, false}

-- without a note at the end there was none before, and what was read has no float
abbrev pub Notes : Bool → Bool → Bool → Type 0
Notes old new floats = new ≡ false → (old ≡ false) × (floats ≡ false)
