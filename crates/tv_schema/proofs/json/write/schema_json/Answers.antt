use Rattle.std.proofs.Common.{◌≡◌, ◌+◌, ◌<◌, List, [], ◌∷◌, length, drop, sym, ap, ◌∙◌, arith}
use Rattle.std.proofs.lemmas.List.{drop_more, drop_all}
use Rattle.serde_json.specs.Data.{array, item}
use Rattle.serde_json.specs.declared.value.Value.{Value}
use Rattle.serde_json.proofs.Views.{view-Array}
use Rattle.tv_schema.specs.SchemaJson.{entries_json}
use Rattle.tv_schema.proofs.SchemaJsonItems.{items_before, items_before-no_items, items_before-push}
use Rattle.tv_schema.proofs.json.write.schema_json.Goals as goal

pub loop-entry-preserved : goal.loop-entry-preserved
loop-entry-preserved c =
    let l = c.loop-entry in
    let entries = c.args.entries.now in
    let within : l.entry-index < length entries = omega arith in
    let left = drop (l.entry-index + 1) entries in
    let next : drop l.entry-index entries ≡ c.entry-item.result ∷ left = drop_more entries l.entry-index c.entry-item.result within ∙ ap (λ y. y ∷ left) (sym c.entry-item.is) in
    l.invariant ∙ ap (λ ys. items_before l.items.items (entries_json ys)) next
    ∙ ap (λ d. items_before l.items.items (item d (entries_json left))) (sym c.in_ok-entry_json.ensures)
    ∙ sym (items_before-push l.items.items c.in_ok-entry_json.field-0 (entries_json left))
    ∙ ap (λ vs. items_before vs (entries_json left)) (sym {A = List Value} c.in_ok-push.ensures.items)

pub returns : goal.returns
returns c =
    let l = c.loop-entry in
    let none : drop l.entry-index c.args.entries.now ≡ [] = drop_all _ _ c.loop-entry-test.false in
    view-Array l.items
    ∙ ap array (sym (l.invariant ∙ ap (λ ys. items_before l.items.items (entries_json ys)) none ∙ items_before-no_items l.items.items))
