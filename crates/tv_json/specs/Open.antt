-- What the lists that are open have left to write, for private clauses.
use Rattle.std.specs.Prelude.{◌≡◌, ℕ, ◌<◌, Bool, true, false, List, [], ◌∷◌, ◌++◌, map, length, Option, Some}
use Rattle.std.specs.Prelude.{None}
use Rattle.json.specs.Token as token
use Rattle.json.specs.Token.{Token}
use Rattle.tv_format.specs.Tree.{Tree}
use Rattle.tv_value.specs.JsonOf.{json_of}
use Rattle.tv_json.specs.Rising.{data_tokens, pair_entries}
use Rattle.tv_json.specs.declared.open_lists.OpenList.{OpenList}
use Rattle.tv_json.specs.declared.open_lists.Rest.{Rest}
use Rattle.tv_json.specs.declared.open_lists.Rest.TheVariants as rest
use Rattle.tv_value.specs.Children.{Child, children_left, with_key}

abbrev pub key_tokens : Option (List ℕ) → List Token
key_tokens None = []
key_tokens (Some k) = token.key k ∷ []

-- children with their keys, and the closing bracket of their list
abbrev pub children_tokens : Token → List Child → List Token
children_tokens end [] = end ∷ []
children_tokens end (child ∷ children) = key_tokens child.0
    ++ (data_tokens (json_of child.1) ++ children_tokens end children)

abbrev pub closing : Bool → Token
closing true = token.end_object
closing false = token.end_array

abbrev pub rest_left : {N K A O : Type 0} → (N → Tree) → (A → List Tree) → (O → List (List ℕ × Tree))
    → Rest N K A O → List Child
rest_left tree items members (rest.InOrder children) = children_left items members children
rest_left tree items members (rest.ByKey pairs) = map with_key (pair_entries tree pairs.value)

abbrev pub list_left : {N K A O : Type 0} → (N → Tree) → (A → List Tree) → (O → List (List ℕ × Tree))
    → OpenList N K A O → List Token
list_left tree items members list = children_tokens (closing list.is_object)
    (rest_left tree items members list.rest)

-- the rests of all open lists, of which the outermost comes first
abbrev pub open_left : {R : Type 0} → (R → List Token) → List R → List Token
open_left left [] = []
open_left left (list ∷ lists) = open_left left lists ++ left list

-- Of what was left to write, a first part was written, which isn't empty.
pub record LeavesToWrite (old new was left : List Token) : Type 0 where
  pub tokens : new ++ left ≡ old ++ was
  pub more : length old < length new

-- There is no child, or the first was taken, and its key was written.
abbrev pub TakesNext : {N : Type 0} → (N → Tree) → List Token → List Token → List Child → List Child
    → Option N → Type 0
TakesNext tree old new was left None = (was ≡ []) × (new ≡ old)
TakesNext tree old new was left (Some child) = (key : Option (List ℕ)) × (was ≡ (key, tree child) ∷ left)
    × (new ≡ old ++ key_tokens key)
