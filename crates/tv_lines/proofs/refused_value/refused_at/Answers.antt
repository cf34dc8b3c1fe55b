use Rattle.std.proofs.Common.{◌≡◌, IfOk, None, Some, ap, ◌∙◌, arith, rules, subst}
use Rattle.std.proofs.lemmas.Grind.{common_steps}
use Rattle.serde_json.specs.Find.{as_array}
use Rattle.serde_json.proofs.Views.{view-Array}
use Rattle.serde_json.specs.View.{view as data_of}
use Rattle.serde_json.specs.declared.value.Value.{the_lemmas}
use Rattle.tv_lines.proofs.RefusedValues.{value_alone}
use Rattle.tv_lines.specs.RefusedValues.{FindsRefused}
use Rattle.tv_doc.proofs.PlainValues.{values_of_items}
use Rattle.tv_schema.specs.Schema.{field_named}
use Rattle.tv_lines.proofs.refused_value.refused_at.Goals as goal

pub returns-in-Array : goal.returns-in-Array
returns-in-Array c =
    let schema = c.args.schema.now in
    let name = c.args.name.now in
    let named : field_named schema name ≡ Some c.in-Ok.field.id = search rules in
    let says = ap data_of c.in-Array.is ∙ view-Array c.in-Array.items in
    let same = values_of_items schema name c.in-Ok.field.id c.get_field_entry.result.now c.field_type-field_type.result.now _ (data_of c.args.json) _ named c.get_field_entry.ensures c.field_type-field_type.ensures says in
    subst (λ vs. IfOk c.refused_item.result (FindsRefused vs)) same (c.refused_item.ensures name c.in-Ok.field.id)

pub returns-in_default-json : goal.returns-in_default-json
returns-in_default-json c =
    let schema = c.args.schema.now in
    let name = c.args.name.now in
    let named : field_named schema name ≡ Some c.in-Ok.field.id = search rules in
    let no_items : as_array (data_of c.args.json) ≡ None = first_of (search (rules, the_lemmas), grind (arith, common_steps, the_lemmas)) in
    let alone = value_alone schema name c.in-Ok.field.id c.get_field_entry.result.now c.field_type-field_type.result.now _ (data_of c.args.json) named c.get_field_entry.ensures c.field_type-field_type.ensures no_items in
    subst (λ vs. IfOk c.refused_one.result (FindsRefused vs)) alone (c.refused_one.ensures name c.in-Ok.field.id)
