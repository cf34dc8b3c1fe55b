-- JSON values of which parts are made: items that come after others, and members that are put in.
use Rattle.std.proofs.Common.{◌≡◌, ◌∙◌, ℕ, List, [], ◌∷◌, ◌++◌, refl, ap, sym}
use Rattle.serde_json.specs.Data.{Data, Items, Members, no_items, item, put}
use Rattle.serde_json.specs.View.{view as data_of, items_view}
use Rattle.serde_json.specs.declared.value.Value.{Value}
use Rattle.tv_format.specs.Tree.{Tree, entries}
use Rattle.tv_value.specs.JsonOf.{json_of, entries_json}

abbrev pub items_before : List Value → Items → Items
items_before [] rest = rest
items_before (v ∷ vs) rest = item (data_of v) (items_before vs rest)

pub items_before-no_items : (vs : List Value) → items_before vs no_items ≡ items_view vs
items_before-no_items [] = refl
items_before-no_items (v ∷ vs) = ap (item (data_of v)) (items_before-no_items vs)

pub items_push : (vs : List Value) (v : Value) (rest : Items) → items_before (vs ++ v ∷ []) rest ≡ items_before vs (item (data_of v) rest)
items_push [] v rest = refl
items_push (w ∷ vs) v rest = ap (item (data_of w)) (items_push vs v rest)

pub member_put : (key k : List ℕ) (d : Data) (t : Tree) (found made whole : Members) (all rest : List (List ℕ × Tree)) → made ≡ put key d found → key ≡ k → d ≡ json_of t → all ≡ (k, t) ∷ rest
    → entries_json (entries all) found ≡ whole → entries_json (entries rest) made ≡ whole
member_put key k d t found made whole all rest puts named is first so_far =
    let es = entries rest in
    ap (entries_json es) puts ∙ ap (λ z. entries_json es (put z d found)) named ∙ ap (λ z. entries_json es (put k z found)) is ∙ ap (λ z. entries_json (entries z) found) (sym first) ∙ so_far
