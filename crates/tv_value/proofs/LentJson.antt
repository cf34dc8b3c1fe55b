-- What a JSON value is lent as, child by child.
use Rattle.std.proofs.Common.{◌≡◌, List, [], ◌∷◌, map, String, Global, string_bytes, Vec, BTreeMap, refl, sym, ap, ◌∙◌}
use Rattle.serde_json.proofs.Views.{view-Array, view-Object}
use Rattle.serde_json.specs.declared.value.Value.TheVariants as json
use Rattle.serde_json.specs.View.{view, items_view, members_view}
use Rattle.serde_json.specs.declared.value.Value.{Value}
use Rattle.tv_value.specs.JsonTree.{whole_tree, whole_elements, whole_entries, lent_json_tree, lent_json_entries}
use Rattle.tv_format.specs.Tree.{array, object, elements, element, entries, entry}

pub lent_elements : (items : List Value) → elements (map lent_json_tree items) ≡ whole_elements (items_view items)
lent_elements [] = refl
lent_elements (v ∷ vs) = ap (element (whole_tree (view v))) (lent_elements vs)

pub lent_entries : (members : List (String Global × Value)) → entries (lent_json_entries members) ≡ whole_entries (members_view members)
lent_entries [] = refl
lent_entries (m ∷ ms) = ap (entry (string_bytes m.0) (whole_tree (view m.1))) (lent_entries ms)

pub lent_array : (items : Vec Value Global) → array (elements (map lent_json_tree items.items)) ≡ lent_json_tree (json.Array items)
lent_array items = ap array (lent_elements items.items) ∙ ap whole_tree (sym (view-Array items))

pub lent_object : (members : BTreeMap (String Global) Value) → object (entries (lent_json_entries members.entries)) ≡ lent_json_tree (json.Object members)
lent_object members = ap object (lent_entries members.entries) ∙ ap whole_tree (sym (view-Object members))
