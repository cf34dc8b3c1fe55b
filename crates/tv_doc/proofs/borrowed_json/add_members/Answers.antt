use Rattle.std.proofs.Common.{ℕ, ◌+◌, List, [], ◌∷◌, ◌≡◌, sym, ap, ◌∙◌, drop, Bor, arith}
use Rattle.std.proofs.lemmas.List.{drop_more, drop_all}
use Rattle.tv_json.proofs.Floats.{none_in_member}
use Rattle.tv_json.specs.BorrowedData.{data_of, members_data}
use Rattle.tv_json.specs.declared.value.BorrowedJson.{BorrowedJson}
use Rattle.tv_schema.specs.Schema.{field_named}
use Rattle.tv_doc.specs.JsonObject.{FieldJson, object_values, values_at}
use Rattle.tv_doc.proofs.JsonDocuments.{more_so_far, all_so_far, told_later}
use Rattle.tv_doc.proofs.borrowed_json.add_members.Goals as goal

pub add_borrowed-requires-clause-floats : goal.add_borrowed-requires-clause-floats
add_borrowed-requires-clause-floats c = λ none_met.
    none_in_member c.args.members.now c.loop-place.place c.index-members-place.result (omega (arith, c.loop-place-test.true)) (sym c.index-members-place.is) (c.requires none_met)

pub loop-place-preserved : goal.loop-place-preserved
loop-place-preserved c =
    let l = c.loop-place in
    let members = c.args.members.now in
    let m = c.index-members-place.result in
    let schema = c.args.reading.now.schema.now in
    let values : List (Bor (List ℕ) × BorrowedJson) → List FieldJson = λ ms. object_values schema (members_data ms) in
    let own = values_at schema m.0.now (field_named schema m.0.now) (data_of m.1) in
    let step = drop_more members l.place m (omega (arith, c.loop-place-test.true)) ∙ ap (λ z. z ∷ drop (l.place + 1) members) (sym c.index-members-place.is) in
    more_so_far _ (values (drop l.place members)) own (values (drop (l.place + 1) members)) c.args.document.now l.document
    c.add_borrowed.new.document l.invariant (ap values step) c.in_ok-add_borrowed.ensures

pub returns-in_err-add_borrowed : goal.returns-in_err-add_borrowed
returns-in_err-add_borrowed c =
    let l = c.loop-place in
    let members = c.args.members.now in
    let m = c.index-members-place.result in
    let schema = c.args.reading.now.schema.now in
    let values : List (Bor (List ℕ) × BorrowedJson) → List FieldJson = λ ms. object_values schema (members_data ms) in
    let own = values_at schema m.0.now (field_named schema m.0.now) (data_of m.1) in
    let step = drop_more members l.place m (omega (arith, c.loop-place-test.true)) ∙ ap (λ z. z ∷ drop (l.place + 1) members) (sym c.index-members-place.is) in
    rw c.from_residual.ensures (told_later (values members) (values (drop l.place members)) own (values (drop (l.place + 1) members)) c.args.document.now l.document c.add_borrowed.new.document
    c.add_borrowed.new.adding.refused l.invariant (ap values step) c.in_err-add_borrowed.ensures)

pub returns : goal.returns
returns c =
    let l = c.loop-place in
    let members = c.args.members.now in
    let values : List (Bor (List ℕ) × BorrowedJson) → List FieldJson = λ ms. object_values c.args.reading.now.schema.now (members_data ms) in
    let done : drop l.place members ≡ [] = drop_all l.place members (omega (arith, c.loop-place-test.false)) in
    all_so_far (values members) (values (drop l.place members)) c.args.document.now l.document l.invariant (ap values done)
