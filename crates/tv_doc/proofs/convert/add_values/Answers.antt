use Rattle.std.proofs.Common.{◌+◌, ◌∷◌, ◌∙◌, [], List, map, drop, ap, sym, arith}
use Rattle.std.proofs.lemmas.Result.{err_from_is_err_and}
use Rattle.std.proofs.lemmas.List.{drop_more}
use Rattle.tv_value.specs.Owned.{owned_tree}
use Rattle.tv_format.specs.Tree.{Document}
use Rattle.tv_value.specs.declared.owned_value.OwnedValue.{OwnedValue}
use Rattle.tv_doc.proofs.Additions.{each_one}
use Rattle.tv_doc.proofs.PairsSoFar.{more_pairs, stops_at_pair, stops_behind}
use Rattle.tv_doc.proofs.convert.add_values.Goals as goal

pub returns-in_err-add_field_value : goal.returns-in_err-add_field_value
returns-in_err-add_field_value c =
    let p = err_from_is_err_and c.from_residual.result c.from_residual.ensures.1 in
    let l = c.loop-value in
    let values = c.args.values.now in
    let item = c.value-item.result in
    let pairs : List OwnedValue → Document = λ vs. map (λ t. (c.args.field.id, t)) (map owned_tree vs) in
    let step = drop_more values l.value-index item (omega (arith, c.loop-value-test.true)) ∙ ap (λ z. z ∷ drop (l.value-index + 1) values) (sym c.value-item.is) in
    rw (p.1, p.2) (stops_behind (pairs values) (pairs (drop l.value-index values)) ((c.args.field.id, owned_tree item) ∷ []) (pairs (drop (l.value-index + 1) values)) c.args.document.now l.document c.in_err-add_field_value.field-0.0
    l.invariant (ap pairs step) (stops_at_pair l.document c.args.field.id (owned_tree item) c.in_err-add_field_value.field-0.0 c.in_err-add_field_value.ensures.adds.0))

pub loop-value-preserved : goal.loop-value-preserved
loop-value-preserved c =
    let l = c.loop-value in
    let values = c.args.values.now in
    let item = c.value-item.result in
    let pairs : List OwnedValue → Document = λ vs. map (λ t. (c.args.field.id, t)) (map owned_tree vs) in
    let step = drop_more values l.value-index item (omega (arith, c.loop-value-test.true)) ∙ ap (λ z. z ∷ drop (l.value-index + 1) values) (sym c.value-item.is) in
    more_pairs (pairs values) (pairs (drop l.value-index values)) ((c.args.field.id, owned_tree item) ∷ []) (pairs (drop (l.value-index + 1) values)) c.args.document.now l.document c.add_field_value.new.self
    l.invariant (ap pairs step) (each_one c.args.field.id (owned_tree item) l.document c.add_field_value.new.self c.in_ok-add_field_value.ensures.adds)
