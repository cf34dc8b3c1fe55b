use Rattle.std.proofs.Common.{◌∷◌, [], ap, List}
use Rattle.std.proofs.lemmas.Result.{err_from_is_err_and}
use Rattle.std.specs.Vec.Iter.{into_iter_items}
use Rattle.serde_json.specs.View.{view as data_of, items_view}
use Rattle.serde_json.specs.declared.value.Value.{Value}
use Rattle.tv_doc.specs.JsonObject.{FieldJson, items_for, value_for}
use Rattle.tv_doc.proofs.JsonDocuments.{more_so_far, stops_later}
use Rattle.tv_doc.proofs.json_object.add_items.Goals as goal

pub loop-item-preserved : goal.loop-item-preserved
loop-item-preserved c =
    let a = c.args in
    let values : List Value → List FieldJson = λ xs. items_for a.to.now (items_view xs) in
    let v = value_for a.to.now (data_of c.in-Some.item) in
    more_so_far _ (values (into_iter_items c.loop-item.item-iterator)) (v ∷ []) (values (into_iter_items c.next.new.self)) a.document.now c.loop-item.document
    c.add_value.new.document c.loop-item.invariant (ap values c.in-Some.ensures.steps.0) c.in_ok-add_value.ensures

pub returns-in_err-add_value : goal.returns-in_err-add_value
returns-in_err-add_value c =
    let p = err_from_is_err_and c.from_residual.result c.from_residual.ensures.1 in
    let a = c.args in
    let values : List Value → List FieldJson = λ xs. items_for a.to.now (items_view xs) in
    let v = value_for a.to.now (data_of c.in-Some.item) in
    rw (p.1, p.2) (stops_later _ (values (into_iter_items c.loop-item.item-iterator)) (v ∷ []) (values (into_iter_items c.next.new.self)) a.document.now c.loop-item.document
    c.in_err-add_value.field-0.0 c.loop-item.invariant (ap values c.in-Some.ensures.steps.0) c.in_err-add_value.ensures)
