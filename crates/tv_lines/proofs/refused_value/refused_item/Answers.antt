use Rattle.std.proofs.Common.{◌∷◌, [], List, ap, arith, subst}
use Rattle.std.proofs.lemmas.List.{nil_from_length}
use Rattle.std.specs.Vec.Iter.{into_iter_items}
use Rattle.serde_json.specs.View.{view as data_of, items_view}
use Rattle.serde_json.specs.declared.value.Value.{Value}
use Rattle.tv_lines.proofs.RefusedValues.{all_passed, found_there, passed}
use Rattle.tv_lines.specs.RefusedValues.{FindsRefused}
use Rattle.tv_doc.specs.JsonObject.{FieldJson, item_values}
use Rattle.tv_lines.proofs.refused_value.refused_item.Goals as goal

pub returns-in-Some-2 : goal.returns-in-Some-2
returns-in-Some-2 c = λ name field.
    let type = c.args.field_type.now in
    let values : List Value → List FieldJson = λ xs. item_values name field type (items_view xs) in
    let v : FieldJson = record { name = name; field = field; field_type = type; value = data_of c.in-Some.item } in
    found_there _ (values (into_iter_items c.loop-item.item-iterator)) (v ∷ []) (values (into_iter_items c.next.new.self)) c.in-Some-2.json
    (c.loop-item.invariant name field) (ap values c.in-Some.ensures.steps.0) (subst (FindsRefused (v ∷ [])) c.in-Some-2.is (c.in_ok-json.ensures name field))

pub loop-item-preserved : goal.loop-item-preserved
loop-item-preserved c = λ name field.
    let type = c.args.field_type.now in
    let values : List Value → List FieldJson = λ xs. item_values name field type (items_view xs) in
    let v : FieldJson = record { name = name; field = field; field_type = type; value = data_of c.in-Some.item } in
    passed _ (values (into_iter_items c.loop-item.item-iterator)) (v ∷ []) (values (into_iter_items c.next.new.self))
    (c.loop-item.invariant name field) (ap values c.in-Some.ensures.steps.0) (subst (FindsRefused (v ∷ [])) c.in_default.is (c.in_ok-json.ensures name field))

pub returns : goal.returns
returns c = λ name field.
    let values : List Value → List FieldJson = λ xs. item_values name field c.args.field_type.now (items_view xs) in
    all_passed _ (values (into_iter_items c.loop-item.item-iterator)) (c.loop-item.invariant name field) (ap values (nil_from_length (into_iter_items c.loop-item.item-iterator) (omega (arith, c.in-None.ensures.steps.0))))
