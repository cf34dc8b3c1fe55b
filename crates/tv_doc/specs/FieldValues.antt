-- What pairs that are borrowed from a document are seen as.
use Rattle.std.specs.Prelude.{ℕ, List, map, nat_eq}
use Rattle.std.specs.List.{filter}
use Rattle.tv_value.specs.declared.field.Field.{Field}
use Rattle.tv_format.specs.Tree.{Tree, Document}
use Rattle.tv_doc.specs.declared.field_values.FieldValueIterRef.{FieldValueIterRef}
use Rattle.tv_doc.specs.declared.field_values.GetAllIter.{GetAllIter}

-- a field's number and a value's tree
abbrev pub pair_seen : {V : Type 0} → (V → Tree) → Field × V → ℕ × Tree
pair_seen tree pair = (pair.0.id, tree pair.1)

-- the pairs that are left
abbrev pub pairs_left : FieldValueIterRef → Document
pairs_left pairs = pairs.held.0

-- the values of a field, in order
abbrev pub values_of : {A : Type 0} → ℕ → List (ℕ × A) → List A
values_of field d = map (λ pair. pair.1) (filter (λ pair. nat_eq pair.0 field) d)

-- those that are left
abbrev pub values_left : GetAllIter → List Tree
values_left values = values_of values.field.id (pairs_left values.pairs)
