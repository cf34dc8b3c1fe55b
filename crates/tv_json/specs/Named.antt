-- Values under names.
use Rattle.std.specs.Prelude.{ℕ, List, [], ◌∷◌, map}
use Rattle.std.specs.Borrow.{Bor}
use Rattle.serde_json.specs.Data as json
use Rattle.serde_json.specs.Data.{Data, Members}
use Rattle.tv_format.specs.Tree.{Tree, elements}
use Rattle.tv_value.specs.declared.field.Field.{Field}
use Rattle.tv_value.specs.JsonOf.{elements_json}

-- the array of some values
abbrev pub list_json : List Tree → Data
list_json ts = json.array (elements_json (elements ts))

-- the members of names with their values, as they stand
abbrev pub named_json : List (List ℕ × List Tree) → Members
named_json [] = json.no_members
named_json (n ∷ ns) = json.member n.0 (list_json n.1) (named_json ns)

-- a name that is lent, and the trees of the values that are lent with it, beside whatever fields
abbrev pub named_trees : {V : Type 0} → (V → Tree) → Bor (List ℕ) × Bor (List (Field × V)) → List ℕ
    × List Tree
named_trees tree n = (n.0.now, map (λ pair. tree pair.1) n.1.now)
