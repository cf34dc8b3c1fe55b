-- The items of an array, with those that were written first before it.
use Rattle.std.proofs.Common.{◌≡◌, List, [], ◌∷◌, ◌++◌, refl, ap}
use Rattle.serde_json.specs.Data.{Items, no_items, item}
use Rattle.serde_json.specs.View.{view, items_view}
use Rattle.serde_json.specs.declared.value.Value.{Value}

abbrev pub items_before : List Value → Items → Items
items_before [] rest = rest
items_before (v ∷ vs) rest = item (view v) (items_before vs rest)

pub items_before-no_items : (vs : List Value) → items_before vs no_items ≡ items_view vs
items_before-no_items [] = refl
items_before-no_items (v ∷ vs) = ap (item (view v)) (items_before-no_items vs)

pub items_before-push : (vs : List Value) (v : Value) (rest : Items) → items_before (vs ++ v ∷ []) rest ≡ items_before vs (item (view v) rest)
items_before-push [] v rest = refl
items_before-push (w ∷ vs) v rest = ap (item (view w)) (items_before-push vs v rest)
