-- What a token of JSON begins.
use Rattle.std.specs.Prelude.{◌≡◌, ℕ, List, ◌∷◌, Bool, false, Some}
use Rattle.json.specs.Json.{value}
use Rattle.json.specs.Token.{Token}
use Rattle.serde_json.specs.Read.{of_json, converted}
use Rattle.serde_json.specs.Written.{has_float}
use Rattle.tv_json.specs.BorrowedData.{data_of}
use Rattle.tv_json.specs.declared.read.Begun.{Begun}
use Rattle.tv_json.specs.declared.read.Begun.TheVariants.{Leaf, Array, Object}

-- the first of these tokens is a value, however deep values may nest, or the bracket of an array or of an
-- object; the others are left
abbrev pub BeginsJson : Begun → List Token → List Token → Type 0
BeginsJson (Leaf json) old new = (depth : ℕ) → converted of_json (value depth old) ≡ Some (data_of json, new)
BeginsJson Array old new = old ≡ Token.begin_array ∷ new
BeginsJson Object old new = old ≡ Token.begin_object ∷ new

-- whether it is a float
abbrev pub begun_floats : Begun → Bool
begun_floats (Leaf json) = has_float (data_of json)
begun_floats Array = false
begun_floats Object = false
