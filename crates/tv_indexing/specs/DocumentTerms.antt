-- The terms of a document's values, in the document's order.
use Rattle.std.specs.Prelude.{◌≡◌, ◌==◌, ℕ, if◌then◌else◌, List, [], ◌∷◌, ◌++◌, Bool, true, Option, Some}
use Rattle.std.specs.Prelude.{None, Result, Ok, Err, slice_get}
use Rattle.std.specs.Borrow.{Bor}
use Rattle.std.specs.List.{filter, list_any}
use Rattle.tv_base.specs.JsonPath.{joined}
use Rattle.tv_field.specs.Entry.{Entry, is_indexed_type, value_type}
use Rattle.tv_field.specs.declared.field_type.FieldType.{FieldType}
use Rattle.tv_field.specs.declared.field_type.FieldType.TheVariants as types
use Rattle.tv_format.specs.Tree.{Tree, leaf, array, object, Elements, no_elements, element, Entries}
use Rattle.tv_format.specs.Tree.{no_entries, entry, Leaf, null, Document}
use Rattle.tv_indexing.specs.LeafTerms.{json_value, tree_value}
use Rattle.tv_indexing.specs.declared.document.TermValuesError.{TermValuesError}
use Rattle.tv_indexing.specs.declared.document.TermValuesError.TheVariants.{UnknownField, WrongType}
use Rattle.tv_indexing.specs.declared.document.TermValuesError.TheVariants.{NulInPath, NoJsonTerm}
use Rattle.tv_options.specs.Types.{code}
use Rattle.tv_options.specs.declared.types.TypeTag.{TypeTag}
use Rattle.tv_term.specs.Key.{TermValue, Json, term, value_code}
use Rattle.tv_value.specs.declared.field.Field.{Field}

-- terms in their order, or why there are none
abbrev pub Terms : Type 0
Terms = Result (List (List ℕ)) TermValuesError

-- those of one thing, and then those of the next, or the first refusal
abbrev pub followed_by : Terms → Terms → Terms
followed_by (Err why) others = Err why
followed_by (Ok made) (Err why) = Err why
followed_by (Ok made) (Ok others) = Ok (made ++ others)

-- ---- a field of JSON objects

-- the one term of a value at this path
abbrev pub json_term_of : Field → List ℕ → TermValue → Terms
json_term_of field path value = Ok (term field.id (Json path value) ∷ [])

-- that of the value that a leaf stands for, or it stands for none
abbrev pub value_or_refused : Field → List ℕ → Option TermValue → Terms
value_or_refused field path None = Err (NoJsonTerm field)
value_or_refused field path (Some value) = json_term_of field path value

-- null has no term
abbrev pub json_leaf_terms : Field → List ℕ → Leaf → Terms
json_leaf_terms field path null = Ok []
json_leaf_terms field path value = value_or_refused field path (json_value value)

-- whether a key has U+0000
abbrev pub has_zero : List ℕ → Bool
has_zero key = list_any (λ byte. byte == 0) key

-- those of a value below these keys, the outermost first
abbrev mutual
  pub json_terms : Field → Bool → List (List ℕ) → Tree → Terms
  json_terms field expand_dots keys (leaf value) = json_leaf_terms field (joined expand_dots keys) value
  json_terms field expand_dots keys (array trees) = json_elements_terms field expand_dots keys trees
  json_terms field expand_dots keys (object entries) = json_entries_terms field expand_dots keys entries

  pub json_elements_terms : Field → Bool → List (List ℕ) → Elements → Terms
  json_elements_terms field expand_dots keys no_elements = Ok []
  json_elements_terms field expand_dots keys (element tree trees) =
      followed_by (json_terms field expand_dots keys tree) (json_elements_terms field expand_dots keys trees)

  pub json_entries_terms : Field → Bool → List (List ℕ) → Entries → Terms
  json_entries_terms field expand_dots keys no_entries = Ok []
  json_entries_terms field expand_dots keys (entry key tree entries) =
      followed_by (if has_zero key then Err (NulInPath field)
      else json_terms field expand_dots (keys ++ key ∷ [])
      tree) (json_entries_terms field expand_dots keys entries)

-- ---- other fields

-- a field takes the values whose terms have the code of its type
abbrev pub plain_terms : Field → TypeTag → Option TermValue → Terms
plain_terms field type None = Err (WrongType field)
plain_terms field type (Some value) = if value_code value == code type then Ok (term field.id value ∷ []) else
    Err (WrongType field)

-- ---- documents

abbrev pub typed_terms : Field → FieldType → Tree → Terms
typed_terms field (types.JsonObject options) tree = json_terms field options.part.expand_dots_enabled [] tree
typed_terms field type tree = plain_terms field (value_type type) (tree_value tree)

-- a field that isn't indexed has none, whatever its values are
abbrev pub field_terms : Field → Option Entry → Tree → Terms
field_terms field None tree = Err (UnknownField field)
field_terms field (Some found) tree = if is_indexed_type found.field_type then typed_terms field
    found.field_type tree else Ok []

-- the field of this number
abbrev pub field_of : ℕ → Field
field_of number = record { id = number }

abbrev pub pair_terms : List Entry → ℕ × Tree → Terms
pair_terms schema pair = field_terms (field_of pair.0) (slice_get schema pair.0) pair.1

-- those of its pairs one after the other, or the first refusal
abbrev pub document_terms : List Entry → Document → Terms
document_terms schema [] = Ok []
document_terms schema (pair ∷ pairs) = followed_by (pair_terms schema pair) (document_terms schema pairs)

-- whether the field of this number is among these
abbrev pub is_among : List Field → ℕ → Bool
is_among fields number = list_any (λ one. one.id == number) fields

-- those of the pairs whose field is among these
abbrev pub fields_terms : List Entry → List Field → Document → Terms
fields_terms schema fields document = document_terms schema (filter (λ pair. is_among fields pair.0) document)

-- the terms of these fields, or of all
abbrev pub wanted_terms : List Entry → Option (Bor (List Field)) → Document → Terms
wanted_terms schema None document = document_terms schema document
wanted_terms schema (Some fields) document = fields_terms schema fields.now document

-- these were appended, and they aren't refused
abbrev pub AreAppended : List (List ℕ) → List (List ℕ) → Terms → Type 0
AreAppended old new (Ok made) = new ≡ old ++ made
AreAppended old new (Err why) = ⊥

-- these were appended, or this is why they are refused
abbrev pub AppendsOrRefuses : List (List ℕ) → List (List ℕ) → Terms → Result (Unit {0}) TermValuesError
    → Type 0
AppendsOrRefuses old new terms (Ok done) = AreAppended old new terms
AppendsOrRefuses old new terms (Err why) = terms ≡ Err why

-- ---- for private clauses

-- whether the field of this number is among these, where none may be named, and then each is
abbrev pub is_wanted : Option (Bor (List Field)) → ℕ → Bool
is_wanted None number = true
is_wanted (Some fields) number = is_among fields.now number

abbrev pub wanted_pair_terms : List Entry → Option (Bor (List Field)) → ℕ × Tree → Terms
wanted_pair_terms schema wanted pair = if is_wanted wanted pair.0 then pair_terms schema pair else Ok []

-- the term of a value, if there is one
abbrev pub value_terms : Field → List ℕ → Option TermValue → Terms
value_terms field path None = Ok []
value_terms field path (Some value) = json_term_of field path value
