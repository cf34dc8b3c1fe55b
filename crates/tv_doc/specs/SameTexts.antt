-- Documents that have the same texts of JSON.
use Rattle.std.specs.Prelude.{ℕ, List, map, ◌↔◌, String, string_bytes}
use Rattle.std.specs.BTreeSet.{BTreeSet}
use Rattle.std.specs.List.{Contains}
use Rattle.std.specs.declared.alloc.Global.{Global}
use Rattle.serde_json.specs.Written.{compact_text}
use Rattle.tv_value.specs.JsonOf.{json_of}
use Rattle.tv_format.specs.Tree.{Tree, Document}
use Rattle.tv_value.specs.declared.field.Field.{Field}
use Rattle.tv_doc.specs.FieldValues.{values_of}

-- a value's JSON as a text without spaces
abbrev pub json_text : Tree → List ℕ
json_text tree = compact_text (json_of tree)

-- for each field, the texts of its values in the one document are those in the other, in whatever order and
-- however often
abbrev pub SameTexts : Document → Document → Type 0
SameTexts document e = (field : ℕ) (text : List ℕ) → Contains (map json_text (values_of field document)) text
    ↔ Contains (map json_text (values_of field e)) text

-- ---- for private clauses

-- each value's text, beside the number of its field
abbrev pub field_texts : Document → List (ℕ × List ℕ)
field_texts document = map (λ pair. (pair.0, json_text pair.1)) document

abbrev pub text_seen : Field × String Global → ℕ × List ℕ
text_seen pair = (pair.0.id, string_bytes pair.1)

abbrev pub texts_seen : BTreeSet (Field × String Global) → List (ℕ × List ℕ)
texts_seen texts = map text_seen texts.keys

-- all of the second list are in the first
abbrev pub HasAll : List (ℕ × List ℕ) → List (ℕ × List ℕ) → Type 0
HasAll texts others = (pair : ℕ × List ℕ) → Contains others pair → Contains texts pair

-- the same are in both, in whatever order and however often
abbrev pub IsSameSet : List (ℕ × List ℕ) → List (ℕ × List ℕ) → Type 0
IsSameSet texts others = (pair : ℕ × List ℕ) → Contains texts pair ↔ Contains others pair
