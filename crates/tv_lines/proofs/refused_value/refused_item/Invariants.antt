use Rattle.std.proofs.Common.{List, ℕ}
use Rattle.std.specs.Vec.Iter.{into_iter_items}
use Rattle.serde_json.specs.View.{items_view}
use Rattle.tv_doc.specs.JsonObject.{item_values}
use Rattle.tv_lines.proofs.RefusedValues.{StandsFor}
use Rattle.tv_lines.proofs.refused_value.refused_item.Given as goal

abbrev pub invariant-loop-item : goal.invariant-loop-item
invariant-loop-item l =
    (name : List ℕ) (field : ℕ) → StandsFor (item_values name field l.field_type (items_view l.fn.items.items)) (item_values name field l.field_type (items_view (into_iter_items l.item-iterator)))
