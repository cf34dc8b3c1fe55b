-- The values that the terms of leaves stand for.
use Rattle.std.specs.Prelude.{◌≢◌, ℕ, Bool, true, false, List, [], Option, Some, None}
use Rattle.tv_date.specs.DateTime.{truncated}
use Rattle.tv_date.specs.declared.date_time.DateTimePrecision.TheVariants.{Seconds}
use Rattle.tv_format.specs.Tree.{Tree, leaf, array, object, Leaf, null, text, unsigned, signed, boolean, date}
use Rattle.tv_format.specs.Tree.{facet, bytes, ip_address, tokenized}
use Rattle.tv_term.specs.Key.{TermValue, Text, Unsigned, Signed, Truth, Date, Facet, Bytes, Address, IsTerm}
use Rattle.tv_term.specs.Key.{json_number}

-- The value that the term of a leaf stands for, as it is indexed: a date is cut to the second, a text is
-- whole. Null has none.
abbrev pub leaf_value : Leaf → Option TermValue
leaf_value null = None
leaf_value (text t) = Some (Text t)
leaf_value (unsigned n) = Some (Unsigned n)
leaf_value (signed z) = Some (Signed z)
leaf_value (boolean b) = Some (Truth b)
leaf_value (date z) = Some (Date (truncated Seconds z))
leaf_value (facet f) = Some (Facet f)
leaf_value (bytes bs) = Some (Bytes bs)
leaf_value (ip_address n) = Some (Address n)
leaf_value (tokenized t ts) = Some (Text t)

-- The value that it stands for in a JSON value, after the path: a number that fits a signed one is one, and
-- some leaves have none there.
abbrev pub json_value : Leaf → Option TermValue
json_value (unsigned n) = Some (json_number n)
json_value (facet f) = None
json_value (bytes bs) = None
json_value (ip_address n) = None
json_value (tokenized t ts) = None
json_value other = leaf_value other

-- arrays and objects have none
abbrev pub tree_value : Tree → Option TermValue
tree_value (leaf other) = leaf_value other
tree_value (array ts) = None
tree_value (object es) = None

-- there is a term, and a writer has it, exactly where the value has one
abbrev pub HasTerm : ℕ → Option TermValue → List ℕ → Bool → Type 0
HasTerm field (Some value) held true = (held ≢ []) × IsTerm held field value
HasTerm field (Some value) held false = ⊥
HasTerm field None held true = ⊥
HasTerm field None held false = Unit {0}
