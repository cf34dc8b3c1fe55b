-- Which reasons of a document that has no terms are found only once memory was taken.
--
-- The word of the public contract, `IsFoundLate`: the reason stands below the keys of JSON objects, or isn't
-- that of the first value whose field is wanted and indexed, or is none.
use Rattle.std.specs.Prelude.{◌≢◌, ℕ, List, [], ◌∷◌, Bool, true, false, not, if◌then◌else◌, Option, Some}
use Rattle.std.specs.Prelude.{None, Ok, Err, slice_get}
use Rattle.std.specs.Borrow.{Bor}
use Rattle.tv_field.specs.Entry.{Entry, is_indexed_type}
use Rattle.tv_format.specs.Tree.{Document}
use Rattle.tv_indexing.specs.DocumentTerms.{Terms, is_wanted, pair_terms}
use Rattle.tv_indexing.specs.declared.document.TermValuesError.{TermValuesError}
use Rattle.tv_indexing.specs.declared.document.TermValuesError.TheVariants.{NulInPath, NoJsonTerm}
use Rattle.tv_value.specs.declared.field.Field.{Field}

-- a field that is there, and isn't indexed
abbrev pub is_unindexed : Option Entry → Bool
is_unindexed None = false
is_unindexed (Some entry) = not (is_indexed_type entry.field_type)

-- no value of the field of this number is looked at
abbrev pub is_passed : List Entry → Option (Bor (List Field)) → ℕ → Bool
is_passed schema wanted number = if is_wanted wanted number then is_unindexed (slice_get schema number)
    else true

-- the terms of the first value that is looked at
abbrev pub first_terms : List Entry → Option (Bor (List Field)) → Document → Terms
first_terms schema wanted [] = Ok []
first_terms schema wanted (pair ∷ pairs) = if is_passed schema wanted pair.0 then
    first_terms schema wanted pairs else pair_terms schema pair

abbrev pub IsFoundLate : List Entry → Option (Bor (List Field)) → Document → TermValuesError → Type 0
IsFoundLate schema wanted document (NulInPath field) = Unit {0}
IsFoundLate schema wanted document (NoJsonTerm field) = Unit {0}
IsFoundLate schema wanted document why = first_terms schema wanted document ≢ Err why

-- ---- for private clauses

abbrev pub IsBelowKeys : TermValuesError → Type 0
IsBelowKeys (NulInPath field) = Unit {0}
IsBelowKeys (NoJsonTerm field) = Unit {0}
IsBelowKeys why = ⊥
