-- The kinds of the lists that are open, the innermost first.
use Rattle.std.specs.Prelude.{ℕ, zero, suc, ◌/◌, ◌%◌, ◌==◌, List, [], ◌∷◌, Option, Some, None, if◌then◌else◌}
use Rattle.tv_json.specs.declared.json_place.ListKind.{ListKind}
use Rattle.tv_json.specs.declared.json_place.ListKind.TheVariants.{Array, Object}

abbrev pub innermost : List ListKind → Option ListKind
innermost [] = None
innermost (kind ∷ outer) = Some kind

-- this many lists, of which the lowest bit says what the innermost is
unfoldable pub kinds : ℕ → ℕ → List ListKind
kinds zero objects = []
kinds (suc depth) objects = (if objects % 2 == 1 then Object else Array) ∷ kinds depth (objects / 2)
