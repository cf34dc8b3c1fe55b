-- The fields that a query names.
--
-- The word of the public contract, `names_field`: whether one of the steps is of a clause whose path names
-- the field of this number.
use Rattle.std.specs.Prelude.{◌==◌, ℕ, Bool, false, List}
use Rattle.std.specs.List.{IsDistinct, list_any}
use Rattle.tv_query.specs.declared.query.Step.{Step}
use Rattle.tv_query.specs.declared.query.Step.TheVariants as steps
use Rattle.tv_value.specs.declared.field.Field.{Field}

abbrev pub step_names : ℕ → Step → Bool
step_names number (steps.Clause selection) = selection.field.id == number
step_names number step = false

abbrev pub names_field : List Step → ℕ → Bool
names_field query number = list_any (step_names number) query

-- no field stands twice
abbrev pub AreDistinct : List Field → Type 0
AreDistinct fields = IsDistinct (λ one other. one.id == other.id) fields
