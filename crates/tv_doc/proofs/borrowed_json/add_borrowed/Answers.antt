use Rattle.std.proofs.Common.{◌≡◌, ◌+◌, List, [], ◌∷◌, false, Some, sym, ap, ◌∙◌, subst, drop, arith, rules}
use Rattle.std.proofs.lemmas.List.{drop_more, drop_all}
use Rattle.serde_json.specs.Written.{has_float, items_have_float}
use Rattle.tv_json.proofs.Floats.{none_in_item}
use Rattle.tv_json.proofs.Levels.{data_of-Array}
use Rattle.tv_json.specs.BorrowedData.{data_of, items_data}
use Rattle.tv_json.specs.declared.value.BorrowedJson.{BorrowedJson}
use Rattle.tv_schema.specs.Schema.{field_named}
use Rattle.tv_doc.specs.JsonObject.{FieldJson, items_for, value_for}
use Rattle.tv_doc.specs.declared.json_object.NamedField.{NamedField}
use Rattle.tv_doc.proofs.PlainValues.{values_of_items}
use Rattle.tv_doc.proofs.JsonDocuments.{SoFar, none_so_far, more_so_far, all_so_far, told_later}
use Rattle.tv_doc.proofs.borrowed_json.add_borrowed.Goals as goal

pub add_one-requires-in-loop-item : goal.add_one-requires-in-loop-item
add_one-requires-in-loop-item c = λ none_met.
    let items = c.deref-item-items.result.now in
    let says = ap data_of c.in-Array.is ∙ data_of-Array c.in-Array.items in
    let whole : items_have_float (items_data c.in-Array.items.items) ≡ false = sym (ap has_float says) ∙ c.requires.floats none_met in
    let among : items_have_float (items_data items) ≡ false = ap (λ vs. items_have_float (items_data vs)) c.deref-item-items.ensures.value ∙ whole in
    none_in_item items c.loop-item.item-index c.item-item.result (omega (arith, c.loop-item-test.true)) (sym c.item-item.is) among

pub loop-item-init : goal.loop-item-init
loop-item-init c =
    let a = c.args in
    let to : NamedField = record { field = c.in-Some.field; name = a.name; field_type = c.field_type-field_type.result } in
    let values : List BorrowedJson → List FieldJson = λ xs. items_for to (items_data xs) in
    let items = c.deref-item-items.result.now in
    let schema = a.reading.now.schema.now in
    let named : field_named schema a.name.now ≡ Some c.in-Some.field.id = search rules in
    let says = ap data_of c.in-Array.is ∙ data_of-Array c.in-Array.items in
    let whole = ap values c.deref-item-items.ensures.value
    ∙ values_of_items schema a.name.now c.in-Some.field.id c.get_field_entry.result.now c.field_type-field_type.result.now _ (data_of a.json.now) _ named c.get_field_entry.ensures c.field_type-field_type.ensures says in
    subst (λ vs. SoFar vs (values items) a.document.now a.document.now) whole (none_so_far (values items) a.document.now)

pub loop-item-preserved : goal.loop-item-preserved
loop-item-preserved c =
    let l = c.loop-item in
    let to : NamedField = record { field = c.in-Some.field; name = c.args.name; field_type = c.field_type-field_type.result } in
    let items = c.deref-item-items.result.now in
    let item = c.item-item.result in
    let values : List BorrowedJson → List FieldJson = λ xs. items_for to (items_data xs) in
    let step = drop_more items l.item-index item (omega (arith, c.loop-item-test.true)) ∙ ap (λ z. z ∷ drop (l.item-index + 1) items) (sym c.item-item.is) in
    more_so_far _ (values (drop l.item-index items)) (value_for to (data_of item) ∷ []) (values (drop (l.item-index + 1) items)) c.args.document.now l.document
    c.add_one-in-loop-item.new.document l.invariant (ap values step) c.in_ok-add_one.ensures

pub returns-in_err-add_one : goal.returns-in_err-add_one
returns-in_err-add_one c =
    let l = c.loop-item in
    let to : NamedField = record { field = c.in-Some.field; name = c.args.name; field_type = c.field_type-field_type.result } in
    let items = c.deref-item-items.result.now in
    let item = c.item-item.result in
    let values : List BorrowedJson → List FieldJson = λ xs. items_for to (items_data xs) in
    let step = drop_more items l.item-index item (omega (arith, c.loop-item-test.true)) ∙ ap (λ z. z ∷ drop (l.item-index + 1) items) (sym c.item-item.is) in
    rw c.from_residual.ensures (told_later _ (values (drop l.item-index items)) (value_for to (data_of item) ∷ []) (values (drop (l.item-index + 1) items)) c.args.document.now l.document
    c.add_one-in-loop-item.new.document c.add_one-in-loop-item.new.adding.refused l.invariant (ap values step) c.in_err-add_one.ensures)

pub returns : goal.returns
returns c =
    let l = c.loop-item in
    let items = c.deref-item-items.result.now in
    let to : NamedField = record { field = c.in-Some.field; name = c.args.name; field_type = c.field_type-field_type.result } in
    let done : drop l.item-index items ≡ [] = drop_all l.item-index items (omega (arith, c.loop-item-test.false)) in
    all_so_far _ (items_for to (items_data (drop l.item-index items))) c.args.document.now l.document l.invariant (ap (λ xs. items_for to (items_data xs)) done)
