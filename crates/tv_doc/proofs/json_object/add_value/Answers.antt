use Rattle.std.proofs.Common.{Err, ap, subst, sym}
use Rattle.serde_json.specs.View.{view as data_of}
use Rattle.tv_field.specs.JsonAnswer.{lent_tree}
use Rattle.tv_doc.specs.JsonObject.{IsRefused, value_for}
use Rattle.tv_doc.proofs.JsonDocuments.{stops_at_one, one_added, refused_value, refused_addition}
use Rattle.tv_doc.proofs.json_object.add_value.Goals as goal

pub returns-in-Ok : goal.returns-in-Ok
returns-in-Ok c =
    let v = value_for c.args.to.now (data_of c.args.json) in
    let there = c.args.document.now in
    let refused = refused_addition v there (lent_tree c.in-Ok.lent) c.in-Err-add_lent.refused c.in-Ok.ensures.row c.in-Err-add_lent.ensures.0 in
    stops_at_one v there _ (subst (IsRefused v there) (sym c.from.ensures) refused)

pub returns : goal.returns
returns c =
    let v = value_for c.args.to.now (data_of c.args.json) in
    let there = c.args.document.now in
    stops_at_one v there _ (refused_value v there c.in-Err.refusal c.value_error.result c.value_error.ensures c.in-Err.ensures.row (λ e. c.in-Err.ensures.memory (ap Err e)))

pub returns-in-Ok-add_lent : goal.returns-in-Ok-add_lent
returns-in-Ok-add_lent c =
    let v = value_for c.args.to.now (data_of c.args.json) in
    one_added v c.args.document.now c.add_lent.new.document (lent_tree c.in-Ok.lent) c.in-Ok.ensures.row c.in-Ok-add_lent.ensures
