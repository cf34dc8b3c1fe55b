-- A table of the low numbers of fields, for private clauses.
use Rattle.std.specs.Prelude.{◌≡◌, ℕ, ◌<◌, Bool, List, length, slice_get, Some}
use Rattle.tv_reading.specs.ChosenFields.{is_among}
use Rattle.tv_value.specs.declared.field.Field.{Field}

-- for each number that has a place in the table, whether it is that of one of the fields
abbrev pub IsTable : List Field → List Bool → Type 0
IsTable fields table = (number : ℕ) → number < length table
    → slice_get table number ≡ Some (is_among fields number)
