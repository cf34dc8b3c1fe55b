-- The tree of a JSON value.
use Rattle.std.specs.Prelude.{◌≡◌, ℕ, ◌^◌, nat_lt, pos, List, map, Option, Some, None, Result, Ok, Err}
use Rattle.std.specs.Prelude.{IsSome, String, string_bytes, if◌then◌else◌}
use Rattle.std.specs.declared.alloc.Global.{Global}
use Rattle.serde_json.specs.Data as json
use Rattle.serde_json.specs.Data.{Num, Data, Items, Members}
use Rattle.serde_json.specs.View.{view}
use Rattle.serde_json.specs.Written.{has_float}
use Rattle.serde_json.specs.declared.value.Value.{Value}
use Rattle.tv_value.specs.Owned.{owned_tree}
use Rattle.tv_format.specs.Tree.{Leaf, null, text, unsigned, signed, boolean, Tree, leaf, array, object}
use Rattle.tv_format.specs.Tree.{Elements, no_elements, element, Entries, no_entries, entry}
use Rattle.tv_value.specs.declared.owned_value.JsonError.{JsonError}
use Rattle.tv_value.specs.declared.owned_value.JsonError.TheVariants.{FloatNumber, Memory}
use Rattle.tv_value.specs.declared.owned_value.OwnedValue.{OwnedValue}

-- A whole number is a signed one where it fits 64 bits, else an unsigned one. A float counts as no value
-- here.
abbrev pub number_leaf : Num → Leaf
number_leaf (json.unsigned n) = if nat_lt n (2 ^ 63) then signed (pos n) else unsigned n
number_leaf (json.negative z) = signed z
number_leaf (json.float x) = null

-- The tree of a JSON value without floats: each kind as itself. A JSON value's members are in byte order of
-- their keys, and so are
-- the entries.
abbrev mutual
  pub whole_tree : Data → Tree
  whole_tree json.null = leaf null
  whole_tree (json.boolean b) = leaf (boolean b)
  whole_tree (json.number n) = leaf (number_leaf n)
  whole_tree (json.string s) = leaf (text s)
  whole_tree (json.array ds) = array (whole_elements ds)
  whole_tree (json.object ms) = object (whole_entries ms)

  pub whole_elements : Items → Elements
  whole_elements json.no_items = no_elements
  whole_elements (json.item d ds) = element (whole_tree d) (whole_elements ds)

  pub whole_entries : Members → Entries
  whole_entries json.no_members = no_entries
  whole_entries (json.member k d ms) = entry k (whole_tree d) (whole_entries ms)

-- the tree of a JSON value, which has none where a number in it isn't whole or doesn't fit 64 bits
abbrev pub json_tree : Data → Option Tree
json_tree datum = if has_float datum then None else Some (whole_tree datum)

-- the tree that a JSON value is lent as
abbrev pub lent_json_tree : Value → Tree
lent_json_tree v = whole_tree (view v)

-- the keys of an object, and the trees that their values are lent as
abbrev pub lent_json_entries : List (String Global × Value) → List (List ℕ × Tree)
lent_json_entries = map (λ m. (string_bytes m.0, lent_json_tree m.1))

-- what is returned for a JSON value
abbrev pub AnswersJson : Data → Result OwnedValue JsonError → Type 0
AnswersJson datum (Ok made) = json_tree datum ≡ Some (owned_tree made)
AnswersJson datum (Err FloatNumber) = json_tree datum ≡ None
AnswersJson datum (Err Memory) = IsSome (json_tree datum)
