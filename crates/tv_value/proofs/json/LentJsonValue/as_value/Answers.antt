use Rattle.std.proofs.Common.{ap, sym, ◌∙◌, map}
use Rattle.tv_value.specs.JsonTree.{lent_json_tree, lent_json_entries}
use Rattle.tv_format.specs.Tree.{array, object, elements, entries}
use Rattle.tv_value.proofs.LentJson.{lent_array, lent_object}
use Rattle.tv_value.proofs.json.LentJsonValue.as_value.Goals as goal

pub returns-in-Array : goal.returns-in-Array
returns-in-Array c =
    ap (λ vs. array (elements (map lent_json_tree vs))) c.as_slice.ensures.value ∙ lent_array c.in-Array.items ∙ ap lent_json_tree (sym c.in-Array.is)

pub returns-in-Object : goal.returns-in-Object
returns-in-Object c =
    ap (λ ms. object (entries (lent_json_entries ms))) c.iter.ensures.rest ∙ lent_object c.in-Object.members ∙ ap lent_json_tree (sym c.in-Object.is)
