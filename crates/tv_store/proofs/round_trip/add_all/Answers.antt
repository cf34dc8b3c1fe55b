use Rattle.std.proofs.Common.{◌+◌, ◌∷◌, ◌∙◌, ap, sym, drop, arith}
use Rattle.std.proofs.lemmas.List.{drop_more}
use Rattle.tv_store.proofs.RoundTrips.{one_called}
use Rattle.tv_store.proofs.round_trip.add_all.Goals as goal

pub loop-field-preserved : goal.loop-field-preserved
loop-field-preserved c =
    let l = c.loop-field in
    let values = c.args.values.now in
    let item = c.loop-field-item.result in
    let step = drop_more values l.field-index item (omega (arith, c.loop-field-test.true)) ∙ ap (λ z. z ∷ drop (l.field-index + 1) values) (sym c.loop-field-item.is) in
    one_called values (drop l.field-index values) (drop (l.field-index + 1) values) item c.args.document.now l.document c.add_field_value.new.self c.add_field_value.result l.invariant step c.add_field_value.ensures.adds
