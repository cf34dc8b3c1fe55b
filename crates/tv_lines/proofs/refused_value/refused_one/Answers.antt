use Rattle.serde_json.specs.View.{view as data_of}
use Rattle.tv_lines.proofs.RefusedValues.{accepted_alone, refused_for}
use Rattle.tv_doc.specs.JsonObject.{FieldJson}
use Rattle.tv_field.specs.JsonAnswer.{lent_tree}
use Rattle.tv_lines.proofs.refused_value.refused_one.Goals as goal

pub returns-in-Ok-Leaf : goal.returns-in-Ok-Leaf
returns-in-Ok-Leaf c = λ name field.
    let v : FieldJson = record { name = name; field = field; field_type = c.args.field_type.now; value = data_of c.args.json } in
    accepted_alone v (lent_tree c.in-Ok-Leaf.field-0) c.in-Ok-Leaf.ensures.row

pub returns-in-Ok-Object : goal.returns-in-Ok-Object
returns-in-Ok-Object c = λ name field.
    let v : FieldJson = record { name = name; field = field; field_type = c.args.field_type.now; value = data_of c.args.json } in
    accepted_alone v (lent_tree c.in-Ok-Object.field-0) c.in-Ok-Object.ensures.row

pub returns : goal.returns
returns c = λ name field.
    let v : FieldJson = record { name = name; field = field; field_type = c.args.field_type.now; value = data_of c.args.json } in
    refused_for v c.in-Err.refusal c.in_default.not-Memory c.in-Err.ensures.row
