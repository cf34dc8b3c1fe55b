-- The value of a line that its field's type refuses.
use Rattle.std.specs.Prelude.{◌≡◌, List, ◌∷◌, ◌++◌, ℕ, Option, Some, None, Err}
use Rattle.serde_json.specs.Data.{Data, Members, object}
use Rattle.serde_json.specs.Read.{read}
use Rattle.serde_json.specs.View.{view}
use Rattle.serde_json.specs.declared.value.Value.{Value}
use Rattle.tv_doc.specs.JsonObject.{FieldJson, Pairs, object_values}
use Rattle.tv_field.specs.Entry.{Entry}
use Rattle.tv_field.specs.JsonTable.{TableRefusal, float_number, Table}
use Rattle.tv_format.specs.Tree.{Document}

-- each of these values is one of its field's type
abbrev pub AreAccepted : List FieldJson → Type 0
AreAccepted values = (pairs : Document) × Pairs values pairs

-- The first of these values that its field's type refuses, as a value of JSON.
pub record FirstRefused (values : List FieldJson) (json : Data) : Type 0 where
  pub before : List FieldJson
  pub at : FieldJson
  pub behind : List FieldJson
  pub joined : values ≡ before ++ at ∷ behind
  pub accepted : AreAccepted before
  pub refusal : TableRefusal
  pub refused : Table at.field_type at.value (Err refusal)
  pub value : json ≡ at.value

-- The first value of the line's object that its field's type refuses: it is of the field with this name, and
-- a number in it isn't whole.
pub record IsFloatOf (schema : List Entry) (line name : List ℕ) (json : Data) : Type 0 where
  pub members : Members
  pub reads : read line ≡ Some (object members)
  pub first : FirstRefused (object_values schema members) json
  pub named : name ≡ first.at.name
  pub float : first.refusal ≡ float_number

-- ---- for private clauses

-- the first of these values that its field's type refuses, if one is
abbrev pub FindsRefused : List FieldJson → Option Value → Type 0
FindsRefused values None = AreAccepted values
FindsRefused values (Some json) = FirstRefused values (view json)
