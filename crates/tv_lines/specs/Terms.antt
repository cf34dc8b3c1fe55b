-- The fields of documents that can't be searched.
use Rattle.std.specs.Prelude.{List, ℕ, [], Option, Some, None, slice_get}
use Rattle.tv_field.specs.Entry.{Entry}
use Rattle.tv_indexing.specs.declared.document.TermValuesError.{TermValuesError}
use Rattle.tv_indexing.specs.declared.document.TermValuesError.TheVariants.{UnknownField, WrongType}
use Rattle.tv_indexing.specs.declared.document.TermValuesError.TheVariants.{NulInPath, NoJsonTerm, Memory}
use Rattle.tv_value.specs.declared.field.Field.{Field}

abbrev pub name_in : Option Entry → List ℕ
name_in None = []
name_in (Some entry) = entry.name

-- the name of a field, or nothing where there is no such field
abbrev pub name_at : List Entry → Field → List ℕ
name_at schema field = name_in (slice_get schema field.id)

-- the name of the field of which a value has no term
abbrev pub faulty_name : List Entry → TermValuesError → List ℕ
faulty_name schema (UnknownField field) = name_at schema field
faulty_name schema (WrongType field) = name_at schema field
faulty_name schema (NulInPath field) = name_at schema field
faulty_name schema (NoJsonTerm field) = name_at schema field
faulty_name schema Memory = []
